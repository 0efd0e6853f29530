-- What is to be shown of `answered_alike`.
use Rattle.dt_meeting.specs.laws.Answering as laws
use Rattle.dt_meeting.proofs.laws.answered_alike.Goals as goal

pub returns : goal.returns
returns c = record { seen = laws.sees_alike; alone = laws.answered_alike }
