-- Every world is sound.
use Rattle.dt_steps.proofs.Soundness.{sound-after}
use Rattle.dt_steps.proofs.laws.worlds_are_sound.Goals as goal

pub returns : goal.returns
returns c = sound-after
