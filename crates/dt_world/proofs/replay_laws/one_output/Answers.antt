-- What is to be shown of `one_output`.
use Rattle.dt_world.proofs.OneOutput.{same_output}
use Rattle.dt_world.proofs.replay_laws.one_output.Goals as goal

pub returns : goal.returns
returns c = same_output c.one_reply.ensures
