-- Which seats a look names.
use Rattle.std.specs.Prelude.{◌≡◌, ◌↔◌, ℕ, List, Option, Some, IsSomeAnd}
use Rattle.dt_machine.specs.Interest as interest
use Rattle.dt_machine.specs.Registry.{Registry, Belongs}
use Rattle.dt_machine.specs.Shown.{IsShown}
use Rattle.dt_cred.specs.declared.firing.Firing.{Firing}
use Rattle.dt_chain.specs.Writes.{Write, Published, published_on}

-- A publication names a firing that belongs to the machine, whose probe is one of the publication's, and that its
-- account is shown.
pub record NamesFiring (registry : Registry) (publication : Published) (firing : Firing) : Type 0 where
  pub belongs : Belongs registry firing
  pub interested : interest.Names publication.probes firing.probe
  pub admitted : IsShown publication.account registry firing

-- After these writes a look names a seat with a life exactly where the seat's publication has that life and names the
-- firing.
pub record IsLook (registry : Registry) (writes : List Write) (firing : Firing) (lives : ℕ → Option ℕ) : Type 0 where
  pub exactly : (seat life : ℕ)
      → (lives seat ≡ Some life)
      ↔ IsSomeAnd (published_on writes seat) (λ publication. (publication.life ≡ life) × NamesFiring registry publication firing)
