-- The cell of one value.
use Rattle.std.proofs.Common.{rules, ◌≡◌, ◌+◌, ◌<◌, length, replicate, ap, ◌∙◌, arith, FitsSigned}
use Rattle.std.specs.Int.{w64}
use Rattle.std.proofs.lemmas.Int.{to_z-of_z}
use Rattle.dt_aggfn.specs.Rows.{quantize_rows, lquantize_rows, levels_of}
use Rattle.dt_aggfn.specs.Cells.{cell_words}
use Rattle.dt_aggfn.proofs.FirstLemmas.{first_count, first_avg, first_word, first_quantize, first_lquantize}
use Rattle.dt_aggfn.proofs.PowerLemmas.{length_quantize_rows}
use Rattle.dt_aggfn.proofs.LevelRowLemmas.{length_lquantize_rows}
use Rattle.dt_aggfn.proofs.function.AggFn.first.Goals as goal

pub count_at-requires : goal.count_at-requires
count_at-requires c =
    let words : cell_words c.args.self ≡ 127 = ap cell_words c.in-Quantize.is in
    let within : c.row_of.result < length quantize_rows = c.row_of.ensures.within in
    let long = length_quantize_rows in
    omega (arith, c.fill.ensures.len)

pub count_at-requires-in-Lquantize : goal.count_at-requires-in-Lquantize
count_at-requires-in-Lquantize c =
    let words : cell_words c.args.self ≡ levels_of c.in-Lquantize.bounds + 2 = ap cell_words c.in-Lquantize.is in
    let within : c.row_of-in-Lquantize.result < length (lquantize_rows c.in-Lquantize.bounds) =
    c.row_of-in-Lquantize.ensures.within in
    let long = length_lquantize_rows c.in-Lquantize.bounds in
    omega (arith, c.fill-in-Lquantize.ensures.len)

pub returns-in-Count : goal.returns-in-Count
returns-in-Count c =
    rw (c.in-Count.is) (first_count c.args.cell.now c.args.value (c.requires ∙ ap cell_words c.in-Count.is))

pub returns-in-Avg : goal.returns-in-Avg
returns-in-Avg c =
    let fits : FitsSigned w64 c.args.value = c.ranges.value in
    let word = simp to_z-of_z at c.cast_unsigned.ensures in
    rw (word, c.in-Avg.is) (first_avg c.args.cell.now c.args.value fits (c.requires ∙ ap cell_words c.in-Avg.is))

pub returns-in-Quantize : goal.returns-in-Quantize
returns-in-Quantize c =
    let fits : FitsSigned w64 c.args.value = c.ranges.value in
    let row = simp to_z-of_z at c.row_of.ensures in
    let zeros : c.fill.new.self ≡ replicate (length c.args.cell.now) 0 = c.fill.ensures.after (search rules) in
    rw (c.count_at.ensures, c.in-Quantize.is)
    (first_quantize c.fill.new.self c.args.value c.row_of.result (length c.args.cell.now) row zeros
    (c.requires ∙ ap cell_words c.in-Quantize.is))

pub returns-in-Lquantize : goal.returns-in-Lquantize
returns-in-Lquantize c =
    let fits : FitsSigned w64 c.args.value = c.ranges.value in
    let row = simp to_z-of_z at c.row_of-in-Lquantize.ensures in
    let zeros : c.fill-in-Lquantize.new.self ≡ replicate (length c.args.cell.now) 0 =
    c.fill-in-Lquantize.ensures.after (search rules) in
    rw (c.count_at-in-Lquantize.ensures, c.in-Lquantize.is)
    (first_lquantize c.in-Lquantize.bounds c.fill-in-Lquantize.new.self c.args.value c.row_of-in-Lquantize.result
    (length c.args.cell.now) row zeros (c.requires ∙ ap cell_words c.in-Lquantize.is))

pub returns-in_default : goal.returns-in_default
returns-in_default c =
    let fits : FitsSigned w64 c.args.value = c.ranges.value in
    let word = simp to_z-of_z at c.cast_unsigned-in_default.ensures in
    rw word (first_word c.args.self c.args.cell.now c.args.value fits c.in_default.not-Count c.in_default.not-Avg
    c.in_default.not-Quantize c.in_default.not-Lquantize c.requires)
