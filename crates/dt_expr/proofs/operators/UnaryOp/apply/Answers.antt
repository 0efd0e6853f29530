-- What the proof of `UnaryOp::apply` is told at its goals.
use Rattle.std.proofs.Common.{rules}
use Rattle.std.proofs.lemmas.Int.{wraps}
use Rattle.dt_expr.proofs.operators.UnaryOp.apply.Goals as goal

pub returns-in-Negate : goal.returns-in-Negate
returns-in-Negate c = search (rules, wraps)
