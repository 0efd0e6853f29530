-- What is to be shown of `one_verdict`.
use Rattle.dt_alone.proofs.Verdicts.{one_verdict}
use Rattle.dt_alone.proofs.laws.one_verdict.Goals as goal

pub returns : goal.returns
returns c = one_verdict
