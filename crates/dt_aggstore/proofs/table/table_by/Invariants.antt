-- The bags of the stores so far are shared.
use Rattle.std.proofs.Common.{◌≡◌, List, length, map}
use Rattle.std.specs.Prelude.{All}
use Rattle.std.specs.List.{AllZip}
use Rattle.dt_aggfn.specs.Cells.{cell_words}
use Rattle.dt_aggstore.specs.History.{Past}
use Rattle.dt_aggstore.specs.IsAt.{IsAt}
use Rattle.dt_aggstore.specs.Joining.{cell_shared, AreShares}
use Rattle.dt_aggstore.specs.Shares.{ShareForm}
use Rattle.dt_aggstore.proofs.Tables.{Bags-to}
use Rattle.dt_aggstore.proofs.table.table_by.Given as goal

abbrev pub invariant-loop-store : goal.invariant-loop-store
invariant-loop-store g l = record {
  words : All (λ (share : ShareForm). length (cell_shared share) ≡ cell_words l.aggregation.function) (map g.S.KeyShare.told l.shares.items);
  shares : (pasts : List Past) (at : AllZip IsAt pasts l.stores)
      → AreShares l.aggregation.function
      (Bags-to l.aggregation pasts l.stores at l.store-index) (map g.S.KeyShare.told l.shares.items);
}
