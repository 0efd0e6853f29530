-- The shares so far are joined.
use Rattle.std.proofs.Common.{◌≡◌, ◌<◌, ℤ, List, ◌∷◌, length, map, take}
use Rattle.dt_aggfn.specs.Cells.{cell_words}
use Rattle.dt_aggfn.specs.declared.limits.TheConstants.{BAG_LIMIT}
use Rattle.dt_aggstore.specs.Joining.{joined_told, AreShares, AreUnderWay}
use Rattle.dt_aggstore.proofs.Rising.{Key}
use Rattle.dt_aggstore.proofs.joining.rows_from.Given as goal

abbrev pub invariant-loop-share : goal.invariant-loop-share
invariant-loop-share g l = record {
  words : length (joined_told g.S.KeyShare.told l.last).cell ≡ cell_words l.fn.function;
  made : (bags : Key → List ℤ) → AreShares l.fn.function bags (g.S.KeyShare.told l.first ∷ take l.share-index (map g.S.KeyShare.told l.later))
      → ((key : Key) → length (bags key) < BAG_LIMIT) → AreUnderWay l.fn.function bags (joined_told g.S.KeyShare.told l.last) l.rows.items;
}
