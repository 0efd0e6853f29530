-- The records that are put under an identifier, and what is kept of them. Guide, Speculative Tracing; that a part keeps as a
-- buffer under the switch policy does between two swaps is this project's own.
use Rattle.std.specs.Prelude.{ℕ, ◌&&◌, ◌==◌, List, [], ◌∷◌, ◌++◌, if◌then◌else◌}
use Rattle.dt_buffer.specs.Choice.{ShowsSwitch, KeepsSwitch}
use Rattle.dt_speculation.specs.History.{SpecEvent, SpecPast, draw, put_under, free}
use Rattle.dt_speculation.specs.Uses.{is_in_use, since_given}

-- the records put under an identifier on a processor
abbrev pub records_under : ℕ → ℕ → List SpecEvent → List (List ℕ)
records_under id cpu [] = []
records_under id cpu (draw answer ∷ later) = records_under id cpu later
records_under id cpu (put_under other at bytes ∷ later) =
    if (other == id) && (at == cpu) then bytes ∷ records_under id cpu later else records_under id cpu later
records_under id cpu (free other ∷ later) = records_under id cpu later

-- those put since the identifier was drawn, and none where it isn't in use
abbrev pub records_of : ℕ → ℕ → List SpecEvent → List (List ℕ)
records_of id cpu events = if is_in_use id events then records_under id cpu (since_given id events) else []

-- What a part has of some records: what the switch policy keeps of them.
abbrev pub ShowsPart : ℕ → List (List ℕ) → List ℕ → Type 0
ShowsPart size records bytes = (drops : ℕ) × ShowsSwitch size records bytes drops

-- After a past the part of an identifier on a processor has these bytes.
abbrev pub HasPart : SpecPast → ℕ → ℕ → List ℕ → Type 0
HasPart past id cpu bytes = ShowsPart past.specsize (records_of id cpu past.events) bytes

-- After a past it keeps this record too.
abbrev pub KeepsPart : SpecPast → ℕ → ℕ → List ℕ → Type 0
KeepsPart past id cpu bytes = KeepsSwitch past.specsize (records_of id cpu past.events) bytes

-- the records of all processors, one more on one of them
abbrev pub put_to : ℕ → List ℕ → (ℕ → List (List ℕ)) → ℕ → List (List ℕ)
put_to cpu bytes records at = if cpu == at then (records at ++ bytes ∷ []) else records at
