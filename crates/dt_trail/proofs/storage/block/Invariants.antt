use Rattle.std.proofs.Common.{◌≡◌, ◌+◌, length}
use Rattle.atomic_blocks.specs.Cells.{AllHome}
use Rattle.dt_trail.specs.Blocks.{Blank}
use Rattle.dt_trail.proofs.storage.block.Given as goal

abbrev pub invariant-cells : goal.invariant-cells
invariant-cells l = (l.block.heap ≡ l.initial.block.heap) × (l.block.at ≡ l.initial.block.at) × (l.block.left + l.i ≡ l.len) × AllHome l.block.cells × (length l.block.cells ≡ l.i) × Blank l.block.cells
