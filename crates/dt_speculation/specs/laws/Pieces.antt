-- What a part keeps is some of the records that were put under its identifier, one after another.
use Rattle.std.proofs.Common.{◌≡◌, ℕ, Bool, true, false, if◌then◌else◌, ◌&&◌, eqb, List, [], ◌∷◌}
use Rattle.std.specs.List.{AllByRecursion, concat}
use Rattle.dt_buffer.specs.Choice.{chosen_bytes, chosen_of}
use Rattle.dt_speculation.specs.History.{SpecEvent, SpecPast, draw, put_under, free}
use Rattle.dt_speculation.specs.Parts.{part_bytes}
use Rattle.dt_speculation.specs.Records.{records_of, records_under}
use Rattle.dt_speculation.specs.Uses.{gives, is_given, is_in_use, since_given}
use Rattle.dt_speculation.specs.laws.Parts.{part_is}

-- the records that are chosen of those put since the identifier was drawn
pub part_chosen : (past : SpecPast) (id cpu : ℕ)
    → (chosen : List Bool) × (part_bytes past id cpu ≡ chosen_bytes (records_of id cpu past.events) chosen)
part_chosen past id cpu = let is = part_is past id cpu in (is.1.chosen, is.1.kept)

-- what holds of the record, if the event puts one
abbrev pub PutIs : (List ℕ → Type 0) → SpecEvent → Type 0
PutIs P (put_under id cpu bytes) = P bytes
PutIs P _ = Unit {0}

module _ (P : List ℕ → Type 0) where
  abbrev AllPut : List SpecEvent → Type 0
  AllPut events = AllByRecursion (PutIs P) events

  since_branches : (some first : Bool) (since later : List SpecEvent) → AllPut since → AllPut later
      → AllPut (if some then since else (if first then later else []))
  since_branches true first since later all rest = all
  since_branches false true since later all rest = rest
  since_branches false false since later all rest = tt

  since_all : (id : ℕ) (events : List SpecEvent) → AllPut events → AllPut (since_given id events)
  since_all id [] all = tt
  since_all id (draw answer ∷ later) all =
      since_branches (is_given id later) (gives id answer) (since_given id later) later (since_all id later all.1) all.1
  since_all id (put_under other cpu bytes ∷ later) all = since_all id later all.1
  since_all id (free other ∷ later) all = since_all id later all.1

  either_all : (b : Bool) (records others : List (List ℕ)) → AllByRecursion P records → AllByRecursion P others
      → AllByRecursion P (if b then records else others)
  either_all true records others all rest = all
  either_all false records others all rest = rest

  under_all : (id cpu : ℕ) (events : List SpecEvent) → AllPut events → AllByRecursion P (records_under id cpu events)
  under_all id cpu [] all = tt
  under_all id cpu (draw answer ∷ later) all = under_all id cpu later all.1
  under_all id cpu (put_under other at bytes ∷ later) all =
      let rest = under_all id cpu later all.1 in
      either_all (eqb other id && eqb at cpu) (bytes ∷ records_under id cpu later) (records_under id cpu later)
      (all.0, rest) rest
  under_all id cpu (free other ∷ later) all = under_all id cpu later all.1

  -- what holds of all records that are put holds of those put since the identifier was drawn
  pub records_all : (id cpu : ℕ) (events : List SpecEvent) → AllPut events → AllByRecursion P (records_of id cpu events)
  records_all id cpu events all =
      either_all (is_in_use id events) (records_under id cpu (since_given id events)) []
      (under_all id cpu (since_given id events) (since_all id events all)) tt

  chosen_all : (attempts : List (List ℕ)) (chosen : List Bool) → AllByRecursion P attempts
      → AllByRecursion P (chosen_of attempts chosen)
  chosen_all [] chosen all = tt
  chosen_all (attempt ∷ attempts) [] all = tt
  chosen_all (attempt ∷ attempts) (true ∷ chosen) all = (all.0, chosen_all attempts chosen all.1)
  chosen_all (attempt ∷ attempts) (false ∷ chosen) all = chosen_all attempts chosen all.1

  -- the pieces of a part, of each of which that holds
  pub part_pieces : (past : SpecPast) (id cpu : ℕ) → AllPut past.events
      → (pieces : List (List ℕ)) × AllByRecursion P pieces × (part_bytes past id cpu ≡ concat pieces)
  part_pieces past id cpu all =
      let got = part_chosen past id cpu in (
        chosen_of (records_of id cpu past.events) got.0,
        chosen_all (records_of id cpu past.events) got.0 (records_all id cpu past.events all),
        got.1,
      )
