-- The order of a bag's values doesn't matter.
use Rattle.dt_aggfn.proofs.OrderLemmas.{same_cell, same_answer}
use Rattle.dt_aggfn.proofs.laws.any_order.Goals as goal

pub returns-clause-cell : goal.returns-clause-cell
returns-clause-cell c = same_cell

pub returns-clause-answer : goal.returns-clause-answer
returns-clause-answer c = same_answer
