-- What a session and a processor have once they met.
use Rattle.std.specs.Prelude.{◌≡◌, ◌≢◌, ◌+◌, ℕ, List, Some, length, slice_get}
use mathlib.Core.List.{IsPrefix}
use Rattle.dt_facts.specs.Lives.{IsRowOfLife}
use Rattle.dt_hub.specs.Processors.{Processing, counts_at}
use Rattle.dt_legal.specs.Rows.{IsLegalRow}
use Rattle.dt_machine.specs.Registry.{Contents}
use Rattle.dt_meeting.specs.Sharing.{IsShared}
use Rattle.dt_seat.specs.Publications.{IsPublished}
use Rattle.dt_seat.specs.Keeps.{Carries, Followed, known_of, noted_of, over_of}
use Rattle.dt_seat.specs.Sessions.{Sat}
use Rattle.dt_trail.specs.Items.{StartsWith, TrailItem, own}

-- The session knows of its trail what begins with all that it knew, has no further line, and is legal; and of each accepted `go` in it the publication.
pub record HasSeenAll (contents : Contents) (old new : Sat) : Type 0 where
  pub same : (new.seat ≡ old.seat) × (new.life ≡ old.life) × (new.row ≡ old.row) × (new.account ≡ old.account) × (new.published ≡ old.published)
  pub longer : StartsWith new.knows old.knows
  pub lines : own 0 new.knows ≡ own 0 old.knows
  pub legal : IsLegalRow new.account contents new.knows
  pub own_go : IsPublished contents new.seat new.life new.account new.knows new.published

-- The processor knows the same of the session's life, by its note, and that the life opened with the session's trail and isn't over, and what the session published. It has lost nothing, and all else is as it was.
-- Its own firings in the trail are those that its note knew.
pub record HasLearntAll (session : Sat) (old new : Processing) : Type 0 where
  pub before : Followed
  pub after : Followed
  pub old_is : slice_get old.at_seats session.seat ≡ Some before
  pub new_is : slice_get new.at_seats session.seat ≡ Some after
  pub over : over_of after ≡ session.life
  pub whose : IsRowOfLife session.life session.row after.lives
  pub known : known_of session.life after ≡ session.knows
  pub noted : noted_of session.life after ≡ session.knows
  pub own_firings : own (old.cpu + 1) session.knows ≡ own (old.cpu + 1) (noted_of session.life before)
  pub begins : StartsWith session.knows (known_of session.life before)
  pub carries : Carries before after session.life
  pub others : (seat : ℕ) → seat ≢ session.seat → slice_get new.at_seats seat ≡ slice_get old.at_seats seat
  pub told : IsPrefix old.told new.told
  pub published : IsPrefix session.published new.told
  pub seen : new.seen ≡ old.seen
  pub cpu : new.cpu ≡ old.cpu
  pub place : new.place ≡ old.place
  pub log : new.log ≡ old.log
  pub answers : (new.mask ≡ old.mask) × (new.held ≡ old.held)

-- The session and the processor have one row in common: it has each firing of the processor so far, once, in the order of its script, each after all items of the life that
-- the processor knew as it fired; lines and the other processors' firings as the trail has them; and without the firings that aren't seen where they stand it is the trail.
pub record HaveMet (contents : Contents) (old new : Sat) (before after : Processing) : Type 0 where
  pub session : HasSeenAll contents old new
  pub processor : HasLearntAll new before after
  pub row : List TrailItem
  pub shared : IsShared new.account contents after.cpu new.knows (counts_at new.seat after.log new.life) row
  pub places : length (counts_at new.seat after.log new.life) ≡ after.place
