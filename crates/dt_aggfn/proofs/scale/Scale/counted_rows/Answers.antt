-- A row comes to the counted ones where its word is above 0.
use Rattle.std.proofs.Common.{refl}
use Rattle.dt_aggfn.specs.Cells.{rows_of}
use Rattle.dt_aggfn.specs.Scales.{function_on}
use Rattle.dt_aggfn.proofs.AnswerLemmas.{one_counted, none_counted}
use Rattle.dt_aggfn.proofs.scale.Scale.counted_rows.Goals as goal
use Rattle.dt_aggfn.proofs.scale.Scale.counted_rows.Goals.{then-count-gt0+in_ok-push, else-count-gt0}

pub loop-index-preserved : goal.loop-index-preserved
loop-index-preserved c =
    elim c.if-count-gt0.branch [
      | then-count-gt0+in_ok-push w ↦
          rw (w.counted-is, w.in_ok-push.ensures.items)
          (one_counted (rows_of (function_on c.args.self)) c.args.cell.now c.loop-index.index c.loop-index.counted.items _
          c.loop-index.invariant w.row_name-least.ensures refl w.if-count-gt0.true)
      | else-count-gt0 w ↦
          rw (w.counted-is)
          (none_counted (rows_of (function_on c.args.self)) c.args.cell.now c.loop-index.index c.loop-index.counted.items
          c.loop-index.invariant w.if-count-gt0.false)
    ]
