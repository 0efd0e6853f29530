-- What a store lends: the index of its entries, and the pool of words in which their cells lie.
use Rattle.std.specs.Prelude.{◌≡◌, ℕ, ◌+◌, Bool, List, map, slice_range}
use Rattle.std.specs.List.{AllByRecursion}
use Rattle.dt_aggfn.specs.Cells.{cell_words, cell_of}
use Rattle.dt_aggstore.specs.History.{Past}
use Rattle.dt_aggstore.specs.Held.{held_after, bag}
use Rattle.dt_aggstore.specs.Choice.{IsChoice}
use Rattle.dt_aggstore.specs.EntryNames.{entry_named}
use Rattle.dt_aggstore.specs.Indexed.{places_from}
use Rattle.dt_aggstore.specs.IsAt.{cells_of}
use Rattle.dt_aggstore.specs.declared.entry_name.EntryName.{EntryName}
use Rattle.dt_aggstore.specs.declared.store.AggStore.{AggStore}

-- the words of a store's cells
abbrev pub pool_of : AggStore → List ℕ
pool_of store = store.cells.items

-- At the end of a past a pool has the cells of the held entries, one after another.
pub record LendsPool (past : Past) (pool : List ℕ) : Type 0 where
  pub chosen : List Bool
  pub choice : IsChoice past chosen
  pub words : pool ≡ cells_of past.events chosen (held_after past.events chosen)

-- At the end of a past an index has exactly the held entries, in their order, each with the place of its cell: the
-- cells lie one after another, and the words that the pool has at an entry's place are the cell of its bag.
pub record LendsIndex (past : Past) (pool : List ℕ) (index : List (EntryName × ℕ)) : Type 0 where
  pub chosen : List Bool
  pub choice : IsChoice past chosen
  pub entries : map (λ e. entry_named e.0) index ≡ held_after past.events chosen
  pub places : map (λ e. e.1) index ≡ places_from 0 (held_after past.events chosen)
  pub cells : AllByRecursion
      (λ e. slice_range pool e.1 (e.1 + cell_words e.0.aggregation.function)
      ≡ cell_of e.0.aggregation.function (bag past.events chosen e.0.aggregation e.0.key.parts.items))
      index
