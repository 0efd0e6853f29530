-- What was told to a session is what its view is answered alone.
use Rattle.dt_steps.proofs.Questions.{told_alone}
use Rattle.dt_steps.proofs.laws.told_alone.Goals as goal

pub returns : goal.returns
returns c = told_alone
