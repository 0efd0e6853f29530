-- A past shows one thing at most.
use Rattle.dt_buffer.proofs.Showing.{one_thing}
use Rattle.dt_buffer.proofs.laws.one_shown.Goals as goal

pub returns : goal.returns
returns c = one_thing
