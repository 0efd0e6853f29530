-- An account under another name is shown the same firings.
use Rattle.std.proofs.Common.{◌≡◌, ℕ, Bool, true, List, Some, IsTrue, ap}
use Rattle.std.specs.Option.{option_map_or}
use Rattle.dt_cred.specs.declared.account.Account.{Account}
use Rattle.dt_cred.specs.declared.account.Process.{Process}
use Rattle.dt_cred.specs.declared.class.Class.{Class}
use Rattle.dt_cred.specs.declared.firing.Firing.{Firing}
use Rattle.dt_cred.specs.declared.probe.Probe.{Probe}
use Rattle.dt_cred.specs.declared.rights.Mode.{Mode}
use Rattle.dt_cred.specs.laws.Accounts.{renamed, admits_alike}
use Rattle.dt_machine.specs.Registry.{Registry, probe_of, process_of}
use Rattle.dt_machine.specs.Tests.{is_shown}

module _ (account : Account) (name : List ℕ) (registry : Registry) where
  -- what is shown, by what is admitted
  abbrev shown_by : (Class → Mode → Process → Bool) → Firing → Bool
  shown_by admitted firing = option_map_or
      (λ probe. option_map_or (λ process. admitted probe.class firing.mode process) (process_of registry firing.pid) true)
      (probe_of registry firing.probe) true

  abbrev IsShownBy : (Class → Mode → Process → Bool) → Firing → Type 0
  IsShownBy admitted firing = (probe : Probe) (process : Process)
      → probe_of registry firing.probe ≡ Some probe → process_of registry firing.pid ≡ Some process
      → IsTrue (admitted probe.class firing.mode process)

  pub shown_alike : (firing : Firing) → is_shown (renamed account name) registry firing ≡ is_shown account registry firing
  unfolding is_shown
  shown_alike firing = ap (λ admitted. shown_by admitted firing) (admits_alike account name)
