-- What a processor has once it let go of sessions that have ended at a seat.
use Rattle.std.specs.Prelude.{◌≡◌, ◌≢◌, ℕ, Some, slice_get}
use Rattle.dt_hub.specs.Processors.{Processing}
use Rattle.dt_seat.specs.Keeps.{Followed, Forgets}

-- At that seat, only of lives that are over anything is forgotten; and all else is as it was.
pub record HasLetGo (seat : ℕ) (old new : Processing) : Type 0 where
  pub before : Followed
  pub after : Followed
  pub old_is : slice_get old.at_seats seat ≡ Some before
  pub new_is : slice_get new.at_seats seat ≡ Some after
  pub forgets : Forgets before after
  pub others : (other : ℕ) → other ≢ seat → slice_get new.at_seats other ≡ slice_get old.at_seats other
  pub seen : new.seen ≡ old.seen
  pub told : new.told ≡ old.told
  pub cpu : new.cpu ≡ old.cpu
  pub place : new.place ≡ old.place
  pub log : new.log ≡ old.log
  pub answers : (new.mask ≡ old.mask) × (new.held ≡ old.held)
