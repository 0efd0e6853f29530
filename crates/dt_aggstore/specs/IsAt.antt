-- When a store is at the end of a past.
use Rattle.std.specs.Prelude.{◌≡◌, ℕ, ◌+◌, ◌≤◌, ◌↔◌, ℤ, Bool, IsTrue, List, [], ◌∷◌, ◌++◌, if◌then◌else◌, FitsSigned}
use Rattle.std.specs.List.{AllByRecursion, flat_map}
use Rattle.std.specs.Int.{w64}
use Rattle.dt_aggfn.specs.Cells.{cell_of}
use Rattle.dt_aggstore.specs.History.{Event, given, truncated, Past, contribution_count}
use Rattle.dt_aggstore.specs.Keys.{Entry, entry_cost, cost_of}
use Rattle.dt_aggstore.specs.Held.{entry_of, held_after, bag}
use Rattle.dt_aggstore.specs.Choice.{IsChoice}
use Rattle.dt_aggstore.specs.Chosen.{drops}
use Rattle.dt_aggstore.specs.EntryNames.{entries_named}
use Rattle.dt_aggstore.specs.declared.key.Aggregation.{Aggregation}
use Rattle.dt_aggstore.specs.declared.key.KeyPart.{KeyPart}
use Rattle.dt_aggstore.specs.declared.store.AggStore.{AggStore}

-- an event gives a signed 64-bit number, if it gives one
abbrev pub GivesWord : Event → Type 0
GivesWord (given aggregation key value) = FitsSigned w64 value
GivesWord (truncated aggregation) = Unit {0}

-- the cells of entries, one after another
abbrev pub cells_of : List Event → List Bool → List Entry → List ℕ
cells_of events chosen entries =
    flat_map (λ e. cell_of e.aggregation.function (bag events chosen e.aggregation e.key)) entries

-- A store is at the end of a past: it was made for that size, counted the contributions, whose values are signed
-- 64-bit numbers, and those that were dropped, and has the held entries, each with the cell of its bag.
pub record IsAt (past : Past) (store : AggStore) : Type 0 where
  pub size : store.size ≡ past.size
  pub added : store.added ≡ contribution_count past.events
  pub dropped : store.dropped ≡ drops past
  pub numbers : AllByRecursion GivesWord past.events
  pub chosen : List Bool
  pub choice : IsChoice past chosen
  pub names : entries_named store.entries.items ≡ held_after past.events chosen
  pub cells : store.cells.items ≡ cells_of past.events chosen (held_after past.events chosen)

-- how many contributions a store counts
abbrev pub added_of : AggStore → ℕ
added_of store = store.added

-- A store of this size, counts, entries and cells gets a new entry with the cell of one value, where its cost
-- fits, and otherwise counts a drop.
pub record Makes (aggregation : Aggregation) (key : List KeyPart) (value : ℤ) (size added dropped : ℕ)
    (entries : List Entry) (cells : List ℕ) (new : AggStore) (made : Bool) : Type 0 where
  pub fits : IsTrue made ↔ (entry_cost aggregation key + cost_of entries ≤ size)
  pub same_size : new.size ≡ size
  pub same_count : new.added ≡ added
  pub drops : new.dropped ≡ (if made then dropped else dropped + 1)
  pub names : entries_named new.entries.items ≡ (if made then entries ++ entry_of aggregation key ∷ [] else entries)
  pub all_cells : new.cells.items ≡ (if made then cells ++ cell_of aggregation.function (value ∷ []) else cells)
