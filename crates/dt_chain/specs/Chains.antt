-- The rule of the chains, and what contracts see of their ends. All lists of writes here have the oldest first: they grow at
-- their end.
use Rattle.std.specs.Prelude.{ℕ, ◌≡◌, Bool, List, ◌∷◌, [], ◌++◌, Option, Some, None, reverse, fold}
use mathlib.Core.Option.{some}
use mathlib.Core.List.{IsPrefix}
use lib.ListN.{get_elem?}
use Rattle.logbook.specs.Pages.{Book}
use Rattle.dt_cred.specs.declared.firing.Firing.{Firing}
use Rattle.dt_machine.specs.Registry.{Registry}
use Rattle.dt_chain.specs.Copies.{Copied}
use Rattle.dt_chain.specs.Look.{IsLook}
use Rattle.dt_chain.specs.Seats.{life_at}
use Rattle.dt_chain.specs.Writes.{Write}
use Rattle.dt_chain.specs.declared.chain_copy.Addition.{Addition}
use Rattle.dt_chain.specs.declared.seat_mask.SeatMask.{SeatMask}

-- A mask names for a firing exactly what a look names after these writes.
abbrev pub IsMaskAfter : Registry → List Write → Firing → SeatMask → Type 0
IsMaskAfter registry log firing mask = IsLook registry (reverse log) firing (life_at mask)

-- the copy that has the writes of a beginning of a book
abbrev pub copy_of : Book → List Write → Copied
copy_of book log = record { mark = record { book = book; log = log }; writes = log }

-- a copy with one write more
abbrev pub added_to : Copied → Addition → Copied
added_to copy addition = record { mark = addition.after; writes = copy.writes ++ addition.write ∷ [] }

-- a copy with the write that waits for memory, if one does
abbrev pub with_waiting : Copied → Option Addition → Copied
with_waiting copy None = copy
with_waiting copy (Some addition) = added_to copy addition

-- The published list begins with what each end has seen.
abbrev pub AreBelow : List Write → List (List Write) → Type 0
AreBelow log views = (end : ℕ) (seen : List Write) → get_elem? views end ≡ some seen → IsPrefix seen log

-- The rule: what is published has the writes of a beginning of the book, which begins with what each end has seen.
abbrev pub IsChain : Book → Copied → List (List Write) → Type 0
IsChain book copy views = (copy ≡ copy_of book copy.mark.log) × AreBelow copy.mark.log views

-- An end has then seen the list that is published, which begins with what it had seen.
abbrev pub EndShows : Book → List Write → Copied → Copied → List Write → Type 0
EndShows book seen before after now = IsPrefix seen now × (after ≡ copy_of book now)

-- a reader: the list of its last look, and what it was told
pub record Watched : Type 0 where
  pub seen : List Write
  pub told : List Write

-- the writer: what is published, and all writes
pub record Chained : Type 0 where
  pub published : List Write
  pub writes : List Write

-- the same, with whether a write waits for memory
pub record Pressed : Type 0 where
  pub published : List Write
  pub writes : List Write
  pub waits : Bool

-- what the writer has in hand between its calls, which is always there
abbrev pub chained_by : Option Pressed → Chained
chained_by None = record { published = []; writes = [] }
chained_by (Some press) = record { published = press.published; writes = press.writes }

-- All writes are those that are published, those that are pending, and the one that waits.
pub record IsPress (book : Book) (shown : Copied) (pending : List Addition) (waiting : Option Addition)
    (writes : List Write) : Type 0 where
  pub shown_is : shown ≡ copy_of book shown.mark.log
  pub below : IsPrefix shown.mark.log writes
  pub all : with_waiting (fold added_to shown pending) waiting ≡ copy_of book writes
