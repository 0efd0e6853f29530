-- A line has one reply at most.
use Rattle.dt_life.proofs.ReplyLaws.{same_reply}
use Rattle.dt_life.proofs.laws.one_reply.Goals as goal

pub returns : goal.returns
returns c = same_reply c.one_verdict.ensures c.one_shown.ensures
