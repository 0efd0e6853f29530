-- What is to be shown of `lives_on_machines`.
use Rattle.dt_proto.specs.laws.OnMachine.{life_on, session_known}
use Rattle.dt_proto.proofs.laws.lives_on_machines.Goals as goal

pub returns : goal.returns
returns c = record { life = life_on; known = session_known }
