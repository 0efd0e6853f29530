-- The replies of a trail are the first that its view is answered alone.
use Rattle.dt_proto.specs.laws.FirstReplies as laws
use Rattle.dt_proto.proofs.laws.first_replies.Goals as goal

pub returns : goal.returns
returns c = laws.first_replies c.one_reply.ensures
