-- A line has a reply.
use Rattle.dt_life.proofs.ReplyLaws.{some_answer}
use Rattle.dt_life.proofs.laws.some_reply.Goals as goal

pub returns : goal.returns
returns c = some_answer c.some_verdict.ensures c.some_shown.ensures
