-- What is to be shown of `trails_agree`.
use Rattle.dt_proto.specs.laws.Brought.{trail_agrees}
use Rattle.dt_proto.proofs.laws.trails_agree.Goals as goal

pub returns : goal.returns
returns c = trail_agrees
