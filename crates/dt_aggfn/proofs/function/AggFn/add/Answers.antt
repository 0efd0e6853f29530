-- A cell with one value more.
use Rattle.std.proofs.Common.{◌≡◌, ◌+◌, ◌<◌, length, ap, arith, FitsSigned}
use Rattle.std.specs.Int.{w64}
use Rattle.std.proofs.lemmas.Int.{to_z-of_z}
use Rattle.dt_aggfn.specs.Rows.{quantize_rows, lquantize_rows, levels_of}
use Rattle.dt_aggfn.specs.Cells.{cell_words}
use Rattle.dt_aggfn.proofs.AddLemmas.{add_count, add_sum, add_avg, add_min, add_max, add_quantize, add_lquantize}
use Rattle.dt_aggfn.proofs.PowerLemmas.{length_quantize_rows}
use Rattle.dt_aggfn.proofs.LevelRowLemmas.{length_lquantize_rows}
use Rattle.dt_aggfn.proofs.function.AggFn.add.Goals as goal

pub count_at-requires-in-Quantize : goal.count_at-requires-in-Quantize
count_at-requires-in-Quantize c =
    let words : cell_words c.args.self ≡ 127 = ap cell_words c.in-Quantize.is in
    let within : c.row_of.result < length quantize_rows = c.row_of.ensures.within in
    let long = length_quantize_rows in
    omega arith

pub count_at-requires-in-Lquantize : goal.count_at-requires-in-Lquantize
count_at-requires-in-Lquantize c =
    let words : cell_words c.args.self ≡ levels_of c.in-Lquantize.bounds + 2 = ap cell_words c.in-Lquantize.is in
    let within : c.row_of-in-Lquantize.result < length (lquantize_rows c.in-Lquantize.bounds) =
    c.row_of-in-Lquantize.ensures.within in
    let long = length_lquantize_rows c.in-Lquantize.bounds in
    omega arith

pub returns-in-Count-clause-cell : goal.returns-in-Count-clause-cell
returns-in-Count-clause-cell c =
    rw (c.count_at.ensures, c.in-Count.is) (add_count c.args.words.now c.args.value)

pub returns-in-Sum-clause-cell : goal.returns-in-Sum-clause-cell
returns-in-Sum-clause-cell c =
    let fits : FitsSigned w64 c.args.value = c.ranges.value in
    let word = simp to_z-of_z at c.cast_unsigned.ensures in
    rw (word, c.in-Sum.is) (λ bag rest. add_sum c.args.words.now c.args.value bag rest fits)

pub returns-in-Avg-clause-cell : goal.returns-in-Avg-clause-cell
returns-in-Avg-clause-cell c =
    let fits : FitsSigned w64 c.args.value = c.ranges.value in
    let word = simp to_z-of_z at c.cast_unsigned-in-Avg.ensures in
    rw (word, c.count_at-in-Avg.ensures, c.in-Avg.is) (λ bag rest. add_avg c.args.words.now c.args.value bag rest fits)

pub returns-in-Min-clause-cell : goal.returns-in-Min-clause-cell
returns-in-Min-clause-cell c =
    let fits : FitsSigned w64 c.args.value = c.ranges.value in
    let own : FitsSigned w64 c.cast_signed.result = record { sfits = c.cast_signed.type_inv } in
    let both : FitsSigned w64 c.min.result = record { sfits = c.min.type_inv } in
    let least = simp to_z-of_z at c.min.ensures.value in
    let word = simp to_z-of_z at c.cast_unsigned-in-Min.ensures in
    rw (word, least, c.cast_signed.ensures, c.in-Min.is) (add_min c.args.words.now c.args.value)

pub returns-in-Max-clause-cell : goal.returns-in-Max-clause-cell
returns-in-Max-clause-cell c =
    let fits : FitsSigned w64 c.args.value = c.ranges.value in
    let own : FitsSigned w64 c.cast_signed-in-Max.result = record { sfits = c.cast_signed-in-Max.type_inv } in
    let both : FitsSigned w64 c.max.result = record { sfits = c.max.type_inv } in
    let greatest = simp to_z-of_z at c.max.ensures.value in
    let word = simp to_z-of_z at c.cast_unsigned-in-Max.ensures in
    rw (word, greatest, c.cast_signed-in-Max.ensures, c.in-Max.is) (add_max c.args.words.now c.args.value)

pub returns-in-Quantize-clause-cell : goal.returns-in-Quantize-clause-cell
returns-in-Quantize-clause-cell c =
    let fits : FitsSigned w64 c.args.value = c.ranges.value in
    let row = simp to_z-of_z at c.row_of.ensures in
    rw (c.count_at-in-Quantize.ensures, c.in-Quantize.is)
    (λ bag rest. add_quantize c.args.words.now c.args.value c.row_of.result bag rest row)

pub returns-in-Lquantize-clause-cell : goal.returns-in-Lquantize-clause-cell
returns-in-Lquantize-clause-cell c =
    let fits : FitsSigned w64 c.args.value = c.ranges.value in
    let row = simp to_z-of_z at c.row_of-in-Lquantize.ensures in
    rw (c.count_at-in-Lquantize.ensures, c.in-Lquantize.is)
    (λ bag rest. add_lquantize c.in-Lquantize.bounds c.args.words.now c.args.value c.row_of-in-Lquantize.result bag rest row)
