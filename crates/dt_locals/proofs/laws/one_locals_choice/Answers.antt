-- The choice is made one assignment after another.
use Rattle.dt_locals.specs.laws.Choices.{is_choice, locals_choice-then, one_choice}
use Rattle.dt_locals.proofs.laws.one_locals_choice.Goals as goal

pub returns-clause-value : goal.returns-clause-value
returns-clause-value c = is_choice

pub returns-clause-one : goal.returns-clause-one
returns-clause-one c = one_choice

pub returns-clause-begins : goal.returns-clause-begins
returns-clause-begins c = locals_choice-then
