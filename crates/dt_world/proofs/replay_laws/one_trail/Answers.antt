-- What is to be shown of `one_trail`.
use Rattle.dt_world.proofs.OneOutput.{same_trail_text}
use Rattle.dt_world.proofs.replay_laws.one_trail.Goals as goal

pub returns : goal.returns
returns c = same_trail_text c.one_reply.ensures
