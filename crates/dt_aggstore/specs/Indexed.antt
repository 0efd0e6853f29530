-- How entries are found: the index of a store, and what it shows.
use Rattle.std.specs.Prelude.{ℕ, ◌+◌, ◌≤◌, List, [], ◌∷◌}
use Rattle.dt_aggfn.specs.Cells.{cell_words}
use Rattle.indexmap.specs.IndexMap.{IndexMap, index_map_len, spare, IsEmpty}
use Rattle.dt_aggstore.specs.Keys.{Entry}
use Rattle.dt_aggstore.specs.declared.entry_name.EntryName.{EntryName}

-- entries, the places of their cells in the same order, and for how many there is room
pub record Indexed : Type 0 where
  pub items : List EntryName
  pub places : List ℕ
  pub room : ℕ

-- An index has at most so many entries, and it and an empty one beside it each have room for so many.
pub record IndexHasRoom {S T : Type 0} (room : ℕ) (index : IndexMap EntryName ℕ S) (other : IndexMap EntryName ℕ T) : Type 0 where
  pub within : index_map_len index ≤ room
  pub first : room ≤ index_map_len index + spare index
  pub second : room ≤ spare other
  pub empty : IsEmpty other

-- where the cells of entries lie, one after another from a place on
abbrev pub places_from : ℕ → List Entry → List ℕ
places_from place [] = []
places_from place (e ∷ entries) = place ∷ places_from (place + cell_words e.aggregation.function) entries
