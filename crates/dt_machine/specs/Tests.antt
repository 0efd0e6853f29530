-- Which firings belong to a machine, and which an account is shown, as tests.
use Rattle.std.specs.Prelude.{ℕ, ◌==◌, ◌&&◌, Bool, true, false, is_some, nat_lt, nat_le}
use Rattle.std.specs.Option.{option_map_or}
use Rattle.dt_cred.specs.Rights.{admits}
use Rattle.dt_cred.specs.declared.account.Account.{Account}
use Rattle.dt_cred.specs.declared.class.Class.{Class}
use Rattle.dt_cred.specs.declared.class.Class.TheVariants.{Pid}
use Rattle.dt_machine.specs.Limits.{first_probe_id}
use Rattle.dt_machine.specs.Registry.{Registry, probe_of, process_of}
use Rattle.dt_cred.specs.declared.firing.Firing.{Firing}

-- a probe of a `pid` provider is traced in the provider's process alone
abbrev pub is_traced : Class → (pid : ℕ) → Bool
is_traced (Pid own) pid = own == pid
is_traced _ pid = true

-- the firing belongs to the machine
unfoldable pub belongs : Registry → Firing → Bool
belongs registry firing =
    nat_lt firing.cpu registry.cpus && (nat_le first_probe_id firing.probe && (is_some (process_of registry firing.pid)
    && option_map_or (λ probe. is_traced probe.class firing.pid) (probe_of registry firing.probe) false))

-- the account is shown the firing
unfoldable pub is_shown : Account → Registry → Firing → Bool
is_shown account registry firing = option_map_or
    (λ probe. option_map_or (λ process. admits account probe.class firing.mode process)
    (process_of registry firing.pid) true)
    (probe_of registry firing.probe) true
