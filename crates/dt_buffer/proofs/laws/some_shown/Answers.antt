-- Each past shows something.
use Rattle.dt_buffer.proofs.Showing.{some_thing}
use Rattle.dt_buffer.proofs.laws.some_shown.Goals as goal

pub returns : goal.returns
returns c = some_thing
