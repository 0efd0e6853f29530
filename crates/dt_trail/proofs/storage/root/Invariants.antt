use Rattle.std.proofs.Common.{◌≡◌, ◌+◌}
use Rattle.atomic_blocks.specs.Cells.{AllHome}
use Rattle.dt_trail.specs.Blocks.{Rooted}
use Rattle.dt_trail.proofs.storage.root.Given as goal
use Rattle.dt_trail.specs.Limits.{widenings}

abbrev pub invariant-cells : goal.invariant-cells
invariant-cells l = (l.cells.heap ≡ l.initial.cells.heap) × (l.cells.at ≡ l.initial.cells.at) × (l.cells.left + l.i ≡ widenings + 2) × AllHome l.cells.cells × Rooted l.first.ptr l.size l.i l.cells.cells
