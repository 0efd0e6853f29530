-- The law of shifts and turned bits.
use Rattle.std.proofs.Common.{◌^◌}
use Rattle.std.proofs.Math.Pow.{pow_pos}
use Rattle.dt_expr.specs.Operators.{shift_count}
use Rattle.dt_expr.proofs.Facts.{count_below, count_differs, rounded, complement}
use Rattle.dt_expr.proofs.laws.bits.Goals as goal

pub returns-clause-count : goal.returns-clause-count
returns-clause-count c = count_below

pub returns-clause-same_count : goal.returns-clause-same_count
returns-clause-same_count c = count_differs

pub returns-clause-rounded_down : goal.returns-clause-rounded_down
returns-clause-rounded_down c = λ z count. rounded z (2 ^ shift_count count) (pow_pos (shift_count count))

pub returns-clause-complement : goal.returns-clause-complement
returns-clause-complement c = complement
