-- What the proof of `BinaryOp::apply` is told at its goals.
use Rattle.std.proofs.Common.{rules}
use Rattle.std.proofs.lemmas.Int.{wraps}
use Rattle.dt_expr.proofs.operators.BinaryOp.apply.Goals as goal

pub returns-in-Add : goal.returns-in-Add
returns-in-Add c = search (rules, wraps)

pub returns-in-Subtract : goal.returns-in-Subtract
returns-in-Subtract c = search (rules, wraps)
