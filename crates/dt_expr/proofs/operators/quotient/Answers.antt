-- What the proof of `quotient` is told at its goals.
use Rattle.std.proofs.Common.{rules}
use Rattle.std.proofs.lemmas.Int.{wraps}
use Rattle.dt_expr.proofs.Wrapping.{quotient_wraps}
use Rattle.dt_expr.proofs.operators.quotient.Goals as goal

pub returns : goal.returns
returns c = let e = quotient_wraps c.args.dividend c.args.divisor c.ranges.dividend in search
    (rules, wraps, e, c.wrapping_div.ensures)
