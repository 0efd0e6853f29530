-- What the cell of a bag answers.
use Rattle.std.proofs.Common.{FitsSigned}
use Rattle.std.specs.Int.{w64}
use Rattle.std.proofs.lemmas.Int.{to_z-of_z}
use Rattle.dt_aggfn.specs.declared.function.AggFn.TheVariants.{Quantize, Lquantize}
use Rattle.dt_aggfn.proofs.AnswerLemmas.{answer_avg, answer_word, answer_rows}
use Rattle.dt_aggfn.proofs.function.AggFn.answer.Goals as goal

pub returns-in-Avg : goal.returns-in-Avg
returns-in-Avg c = λ bag is h.
    let own : FitsSigned w64 c.cast_signed.result = record { sfits = c.cast_signed.type_inv } in
    let fits : FitsSigned w64 c.average.result = record { sfits = c.average.type_inv } in
    let quotient = simp to_z-of_z at c.average.ensures in
    let cell = rw c.in-Avg.is at h in
    rw (c.in-Avg.is, to_z-of_z)
    (answer_avg c.args.cell.now bag c.cast_signed.result c.average.result is cell c.cast_signed.ensures quotient)

pub returns-in_ok-counted-in-Quantize : goal.returns-in_ok-counted-in-Quantize
returns-in_ok-counted-in-Quantize c = λ bag is h.
    rw (c.in-Quantize.is)
    (answer_rows Quantize c.args.cell.now bag _ tt (rw c.in-Quantize.is at h) c.in_ok-counted-in-Quantize.ensures)

pub returns-in_ok-counted-in-Lquantize : goal.returns-in_ok-counted-in-Lquantize
returns-in_ok-counted-in-Lquantize c = λ bag is h.
    rw (c.in-Lquantize.is)
    (answer_rows (Lquantize c.in-Lquantize.bounds) c.args.cell.now bag _ tt (rw c.in-Lquantize.is at h)
    c.in_ok-counted-in-Lquantize.ensures)

pub returns-in_default : goal.returns-in_default
returns-in_default c = λ bag is h.
    let fits : FitsSigned w64 c.cast_signed-in_default.result =
    record { sfits = c.cast_signed-in_default.type_inv } in
    rw (to_z-of_z)
    (answer_word c.args.self c.args.cell.now bag c.cast_signed-in_default.result c.in_default.not-Avg
    c.in_default.not-Quantize c.in_default.not-Lquantize is h c.cast_signed-in_default.ensures)
