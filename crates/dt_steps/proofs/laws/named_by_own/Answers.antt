-- A life that sees a firing is named by its own publication.
use Rattle.dt_steps.proofs.Naming.{named_by_own}
use Rattle.dt_steps.proofs.laws.named_by_own.Goals as goal

pub returns : goal.returns
returns c = named_by_own
