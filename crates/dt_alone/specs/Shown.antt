-- What came to a buffer, as a runner looks at it.
use Rattle.std.specs.Prelude.{◌≡◌, ◌↔◌, ◌<◌, ℕ, Bool, true, false, List, [], ◌∷◌, IsTrue, length, take}
use Rattle.std.specs.List.{concat}
use Rattle.dt_buffer.specs.Beginning.{IsLongestBeginning}
use Rattle.dt_buffer.specs.History.{BufferEvent, attempt, swap, of_end, ordinary}
use Rattle.dt_alone.specs.declared.shown.FittingRecords.{FittingRecords}
use Rattle.dt_alone.specs.declared.shown.Came.{Came}
use Rattle.dt_alone.specs.declared.shown.Came.TheVariants.{Nothing, Put, Snapped}

-- what came, as an event of the buffer's past
abbrev pub events_of : Came → List BufferEvent
events_of Nothing = []
events_of (Put bytes in_end) = attempt bytes.now in_end ∷ []
events_of Snapped = swap ∷ []

-- the records of END, or the ordinary ones
abbrev pub of_kind : Bool → List BufferEvent → List (List ℕ)
of_kind true events = of_end events
of_kind false events = ordinary events

-- The longest beginning of records that fits into a room, and whether it hasn't all of them.
pub record IsBeginningOf (room : ℕ) (records : List (List ℕ)) (beginning : FittingRecords) : Type 0 where
  pub count : ℕ
  pub longest : IsLongestBeginning room records count
  pub kept : beginning.bytes.items ≡ concat (take count records)
  pub cut : IsTrue beginning.is_cut ↔ (count < length records)
