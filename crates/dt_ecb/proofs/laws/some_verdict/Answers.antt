-- There is a verdict.
use Rattle.dt_ecb.proofs.VerdictLaws.{some_verdict}
use Rattle.dt_ecb.proofs.laws.some_verdict.Goals as goal

pub returns : goal.returns
returns c = some_verdict
