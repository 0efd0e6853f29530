-- A life that sees a firing is named by its own publication.
use Rattle.std.proofs.Common.{ℕ, List}
use Rattle.dt_chain.specs.Look.{NamesFiring}
use Rattle.dt_cred.specs.declared.account.Account.{Account}
use Rattle.dt_cred.specs.declared.firing.Firing.{Firing}
use Rattle.dt_ecb.specs.laws.Interest.{wanted_to, interest_to}
use Rattle.dt_life.specs.Life.{Item, ecbs}
use Rattle.dt_life.specs.Sees.{Sees}
use Rattle.dt_machine.specs.Registry.{Registry}
use Rattle.dt_steps.specs.Sound.{publication_of}

pub named_by_own : (account : Account) (registry : Registry) (life : List Item) (n : ℕ) (firing : Firing)
    → Sees account registry life firing → NamesFiring registry (publication_of registry account life n) firing
named_by_own account registry life n firing h = record {
  belongs = h.belongs;
  interested = interest_to (ecbs account registry life) firing.probe
      (wanted_to (ecbs account registry life) firing.probe h.named);
  admitted = h.admitted;
}
