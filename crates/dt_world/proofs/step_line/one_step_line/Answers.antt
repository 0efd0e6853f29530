-- What is to be shown of `one_step_line`.
use Rattle.dt_world.proofs.StepLines.{one_step_line}
use Rattle.dt_world.proofs.step_line.one_step_line.Goals as goal

pub returns : goal.returns
returns c = one_step_line
