-- What a processor knows once it was told of a session.
use Rattle.std.specs.Prelude.{◌≡◌, ◌≢◌, ℕ, Some, slice_get}
use mathlib.Core.List.{IsPrefix}
use Rattle.dt_hub.specs.Processors.{Processing}
use Rattle.dt_seat.specs.Keeps.{Followed, IsOfAccount}
use Rattle.dt_seat.specs.Receipts.{HasHeard, Received}

-- The processor knows what the session knew, at that seat, and of which account that life is, and its later looks find what the session knew to be published. It has lost
-- nothing of what it was told of before, and all else is as it was.
pub record HasBeenTold (received : Received) (old new : Processing) : Type 0 where
  pub before : Followed
  pub after : Followed
  pub old_is : slice_get old.at_seats received.seat ≡ Some before
  pub new_is : slice_get new.at_seats received.seat ≡ Some after
  pub told_seat : HasHeard received before after
  pub whose : IsOfAccount received.life received.account after.lives
  pub others : (seat : ℕ) → seat ≢ received.seat → slice_get new.at_seats seat ≡ slice_get old.at_seats seat
  pub published : IsPrefix received.published new.told
  pub kept : IsPrefix old.told new.told
  pub seen : new.seen ≡ old.seen
  pub cpu : new.cpu ≡ old.cpu
  pub place : new.place ≡ old.place
  pub log : new.log ≡ old.log
  pub answers : (new.mask ≡ old.mask) × (new.held ≡ old.held)
