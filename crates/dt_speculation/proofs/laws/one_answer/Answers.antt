-- A draw has one answer.
use Rattle.dt_speculation.proofs.Definite.{one_draw, some_answer}
use Rattle.dt_speculation.proofs.laws.one_answer.Goals as goal

pub returns-clause-some : goal.returns-clause-some
returns-clause-some c = some_answer

pub returns-clause-one : goal.returns-clause-one
returns-clause-one c = one_draw
