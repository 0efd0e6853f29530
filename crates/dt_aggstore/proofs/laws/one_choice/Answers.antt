-- A past has one choice.
use Rattle.dt_aggstore.proofs.Choices.{one_choice, some_choice, is_choice}
use Rattle.dt_aggstore.proofs.laws.one_choice.Goals as goal

pub returns-clause-some : goal.returns-clause-some
returns-clause-some c = some_choice

pub returns-clause-one : goal.returns-clause-one
returns-clause-one c = one_choice

pub returns-clause-value : goal.returns-clause-value
returns-clause-value c = is_choice
