-- The bags of the entries so far are shared.
use Rattle.std.proofs.Common.{◌≡◌, List, map, take, ℤ, length}
use Rattle.std.specs.Prelude.{All}
use Rattle.dt_aggfn.specs.Cells.{cell_words}
use Rattle.dt_aggstore.specs.EntryNames.{entries_named, words_of}
use Rattle.dt_aggstore.specs.History.{Past}
use Rattle.dt_aggstore.specs.IsAt.{IsAt}
use Rattle.dt_aggstore.specs.Joining.{cell_shared, AreShares}
use Rattle.dt_aggstore.specs.Shares.{ShareForm}
use Rattle.dt_aggstore.proofs.Rising.{Key}
use Rattle.dt_aggstore.proofs.Gathering.{Gathered}
use Rattle.dt_aggstore.proofs.store.AggStore.share_into.Given as goal

abbrev pub invariant-loop-name : goal.invariant-loop-name
invariant-loop-name g l = record {
  place_is : l.place ≡ words_of (entries_named (take l.name-index l.self.entries.items));
  words : All (λ (share : ShareForm). length (cell_shared share) ≡ cell_words l.aggregation.function) (map g.S.KeyShare.told l.fn.shares.items)
      → All (λ (share : ShareForm). length (cell_shared share) ≡ cell_words l.aggregation.function) (map g.S.KeyShare.told l.shares.items);
  shares : (past : Past) (at : IsAt past l.self) (bags : Key → List ℤ)
      → AreShares l.aggregation.function bags (map g.S.KeyShare.told l.fn.shares.items)
      → AreShares l.aggregation.function
      (Gathered past l.self at l.aggregation bags (entries_named (take l.name-index l.self.entries.items)))
      (map g.S.KeyShare.told l.shares.items);
}
