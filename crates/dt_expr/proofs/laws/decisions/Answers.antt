-- The law of what the left side decides.
use Rattle.dt_expr.proofs.LeftSide.{and_left, or_left, xor_right}
use Rattle.dt_expr.proofs.laws.decisions.Goals as goal

pub returns-clause-and : goal.returns-clause-and
returns-clause-and c = and_left

pub returns-clause-or : goal.returns-clause-or
returns-clause-or c = or_left

pub returns-clause-xor : goal.returns-clause-xor
returns-clause-xor c = xor_right
