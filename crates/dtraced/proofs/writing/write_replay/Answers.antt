-- What was written is what the replay that was asked for says.
use Rattle.dtraced.proofs.writing.write_replay.Goals as goal

pub returns-in-Some : goal.returns-in-Some
returns-in-Some g c = rw c.in-Some.is c.replay_trail.ensures

pub returns-in-None : goal.returns-in-None
returns-in-None g c = rw c.in-None.is c.replay.ensures
