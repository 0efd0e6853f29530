-- A legal trail is the seen view of a session.
use Rattle.dt_steps.proofs.Trails.{trail_is_view}
use Rattle.dt_steps.proofs.laws.trail_is_view.Goals as goal

pub returns : goal.returns
returns c = trail_is_view
