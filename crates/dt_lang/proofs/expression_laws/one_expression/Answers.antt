-- What is to be shown of `one_expression`.
use Rattle.dt_lang.specs.laws.ExpressionLaws.{one_form}
use Rattle.dt_lang.proofs.expression_laws.one_expression.Goals as goal

pub returns : goal.returns
returns c = one_form
