-- Which entries are held after some events of which some contributions were kept, and with which values. Guide,
-- Aggregations (trunc).
use Rattle.std.specs.Prelude.{◌≡◌, ℕ, ◌<◌, IsTrue, Some, slice_get, slice_index_or, ℤ, Bool, true, false, not, cond, List, [], ◌∷◌, map, filter}
use Rattle.std.specs.List.{list_any}
use Rattle.dt_aggstore.specs.History.{Event, given, truncated}
use Rattle.dt_aggstore.specs.Keys.{Entry, same_aggregation, same_entry}
use Rattle.dt_aggstore.specs.declared.key.Aggregation.{Aggregation}
use Rattle.dt_aggstore.specs.declared.key.KeyPart.{KeyPart}

-- A value that was given to an entry.
pub record Contribution : Type 0 where
  pub entry : Entry
  pub value : ℤ

abbrev pub entry_of : Aggregation → List KeyPart → Entry
entry_of aggregation key = record { aggregation = aggregation; key = key }

abbrev pub truncates : Aggregation → Event → Bool
truncates aggregation (given other key value) = false
truncates aggregation (truncated other) = same_aggregation other aggregation

-- The contributions that count: those that were kept and whose aggregation wasn't truncated later, in their order.
abbrev pub counted : List Event → List Bool → List Contribution
counted [] chosen = []
counted (event ∷ later) [] = []
counted (given aggregation key value ∷ later) (true ∷ chosen) =
    cond (list_any (truncates aggregation) later) (counted later chosen)
    (record { entry = entry_of aggregation key; value = value } ∷ counted later chosen)
counted (given aggregation key value ∷ later) (false ∷ chosen) = counted later chosen
counted (truncated aggregation ∷ later) (_ ∷ chosen) = counted later chosen

-- each entry of a list once, in the order in which they come first
abbrev pub distinct : List Entry → List Entry
distinct [] = []
distinct (entry ∷ entries) = entry ∷ filter (λ other. not (same_entry entry other)) (distinct entries)

-- The entries that are held: those to which some contribution counts.
abbrev pub held_after : List Event → List Bool → List Entry
held_after events chosen = distinct (map (λ c. c.entry) (counted events chosen))

-- the values of an entry among contributions, in their order
abbrev pub values_of : Entry → List Contribution → List ℤ
values_of entry contributions = map (λ c. c.value) (filter (λ c. same_entry entry c.entry) contributions)

-- An entry's bag: the values that count to it.
abbrev pub bag : List Event → List Bool → Aggregation → List KeyPart → List ℤ
bag events chosen aggregation key = values_of (entry_of aggregation key) (counted events chosen)

-- An entry is held by a contribution: it was kept, has the entry's aggregation and key, and the aggregation wasn't
-- truncated since.
pub record IsHeldBy (events : List Event) (chosen : List Bool) (entry : Entry) : Type 0 where
  pub place : ℕ
  pub value : ℤ
  pub there : slice_get events place ≡ Some (given entry.aggregation entry.key value)
  pub kept : IsTrue (slice_index_or chosen place false)
  pub since : (later : ℕ) → place < later → slice_get events later ≡ Some (truncated entry.aggregation) → ⊥
