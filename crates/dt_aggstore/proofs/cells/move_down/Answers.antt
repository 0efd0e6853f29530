-- One word more.
use Rattle.std.proofs.Common.{arith}
use Rattle.dt_aggstore.proofs.Words.{copied_more}
use Rattle.dt_aggstore.proofs.cells.move_down.Goals as goal

pub loop-index-preserved : goal.loop-index-preserved
loop-index-preserved c =
    copied_more c.args.cells.now c.loop-index.cells c.args.from c.args.to c.loop-index.index c.requires.down
    (omega arith)
    c.loop-index.invariant
