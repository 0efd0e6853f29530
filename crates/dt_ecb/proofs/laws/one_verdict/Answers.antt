-- Two verdicts are the same.
use Rattle.dt_ecb.proofs.VerdictLaws.{same_verdict}
use Rattle.dt_ecb.proofs.laws.one_verdict.Goals as goal

pub returns : goal.returns
returns c = same_verdict
