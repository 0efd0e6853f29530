-- What is to be shown of `rows_fit`.
use Rattle.dt_legal.specs.laws.Room.{row_is_short, line_has_room, firing_has_room}
use Rattle.dt_legal.proofs.laws.rows_fit.Goals as goal

pub returns : goal.returns
returns c = record { most = row_is_short; line = line_has_room; firing = firing_has_room }
