-- What is to be shown of `agreement`.
use Rattle.dt_proto.specs.laws.Legal.{agreement}
use Rattle.dt_proto.proofs.laws.agreement.Goals as goal

pub returns : goal.returns
returns c = agreement
