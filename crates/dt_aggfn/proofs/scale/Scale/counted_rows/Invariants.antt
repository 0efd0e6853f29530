-- The rows so far are those before the index that count something.
use Rattle.std.proofs.Common.{◌≡◌, map}
use Rattle.dt_aggfn.specs.Cells.{rows_of}
use Rattle.dt_aggfn.specs.Scales.{function_on}
use Rattle.dt_aggfn.specs.Answers.{form_of_counted_row}
use Rattle.dt_aggfn.proofs.AnswerLemmas.{counted_to}
use Rattle.dt_aggfn.proofs.scale.Scale.counted_rows.Given as goal

abbrev pub invariant-loop-index : goal.invariant-loop-index
invariant-loop-index l = map form_of_counted_row l.counted.items ≡ counted_to (rows_of (function_on l.fn.self)) l.cell l.index
