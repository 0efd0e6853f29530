-- How many words a cell has.
use Rattle.std.proofs.Common.{◌≡◌, List, length, refl, ◌∙◌, ℤ}
use Rattle.dt_aggfn.specs.declared.function.AggFn.{AggFn}
use Rattle.dt_aggfn.specs.declared.function.AggFn.TheVariants.{Count, Sum, Avg, Min, Max, Quantize, Lquantize}
use Rattle.dt_aggfn.specs.Rows.{quantize_rows, lquantize_rows}
use Rattle.dt_aggfn.specs.Cells.{cell_words, cell_of}
use Rattle.dt_aggfn.proofs.CountLemmas.{length_counts}
use Rattle.dt_aggfn.proofs.PowerLemmas.{length_quantize_rows}
use Rattle.dt_aggfn.proofs.LevelRowLemmas.{length_lquantize_rows}

pub length_cell : (f : AggFn) (bag : List ℤ) → length (cell_of f bag) ≡ cell_words f
unfolding cell_of
length_cell Count bag = refl
length_cell Sum bag = refl
length_cell Avg bag = refl
length_cell Min bag = refl
length_cell Max bag = refl
length_cell Quantize bag = length_counts quantize_rows bag ∙ length_quantize_rows
length_cell (Lquantize bounds) bag = length_counts (lquantize_rows bounds) bag ∙ length_lquantize_rows bounds
