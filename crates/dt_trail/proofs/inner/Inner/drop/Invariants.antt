use Rattle.std.proofs.Common.{◌≡◌}
use Rattle.dt_trail.specs.Insides.{EndingBlocks}
use Rattle.dt_trail.proofs.inner.Inner.drop.Given as goal

abbrev pub invariant-rows : goal.invariant-rows
invariant-rows g l = (l.closed.heap ≡ l.initial.closed.heap) × EndingBlocks l.root.ptr l.block l.closed.rows
