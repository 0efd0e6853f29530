-- Each value is counted by exactly one row.
use Rattle.dt_aggfn.proofs.OneRowLemmas.{one_quantize_row, one_lquantize_row}
use Rattle.dt_aggfn.proofs.laws.one_row.Goals as goal

pub returns-clause-quantize : goal.returns-clause-quantize
returns-clause-quantize c = one_quantize_row

pub returns-clause-lquantize : goal.returns-clause-lquantize
returns-clause-lquantize c = one_lquantize_row
