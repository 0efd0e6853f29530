-- Which firings a consumer sees.
use Rattle.std.specs.Prelude.{◌≡◌, ◌≢◌, List, []}
use Rattle.dt_cred.specs.declared.account.Account.{Account}
use Rattle.dt_machine.specs.Registry.{Registry, Belongs}
use Rattle.dt_machine.specs.Shown.{IsShown}
use Rattle.dt_cred.specs.declared.firing.Firing.{Firing}
use Rattle.dt_ecb.specs.Ecbs.{of_probe}
use Rattle.dt_life.specs.Life.{Item, phase, ecbs}
use Rattle.dt_life.specs.declared.phase.Phase.TheVariants.{Active}

-- A consumer sees a firing where it is active, the firing belongs to the machine, one of its ECBs names the probe,
-- and its account is shown it.
pub record Sees (account : Account) (registry : Registry) (life : List Item) (firing : Firing) : Type 0 where
  pub active : phase account registry life ≡ Active
  pub belongs : Belongs registry firing
  pub named : of_probe firing.probe (ecbs account registry life) ≢ []
  pub admitted : IsShown account registry firing
