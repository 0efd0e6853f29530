-- A part has one content.
use Rattle.dt_speculation.proofs.Definite.{none_kept, one_content, some_part}
use Rattle.dt_speculation.proofs.laws.one_part.Goals as goal

pub returns-clause-some : goal.returns-clause-some
returns-clause-some c = some_part c.one_choice.ensures.some

pub returns-clause-one : goal.returns-clause-one
returns-clause-one c = one_content c.one_choice.ensures.one

pub returns-clause-unused : goal.returns-clause-unused
returns-clause-unused c = none_kept
