-- What a session is told whose seen view a trail tells.
use Rattle.dt_steps.proofs.Trails.{told_as_seen, told_as_trailed}
use Rattle.dt_steps.proofs.laws.trail_is_told.Goals as goal

pub returns : goal.returns
returns c = record { alone = told_as_seen; trailed = told_as_trailed c.one_reply.ensures }
