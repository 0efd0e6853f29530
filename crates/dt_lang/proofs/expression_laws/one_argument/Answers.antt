-- What is to be shown of `one_argument`.
use Rattle.dt_lang.specs.laws.ExpressionLaws.{one_argument}
use Rattle.dt_lang.proofs.expression_laws.one_argument.Goals as goal

pub returns : goal.returns
returns c = one_argument
