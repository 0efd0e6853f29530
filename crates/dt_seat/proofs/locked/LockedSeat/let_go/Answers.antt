-- What is to be shown of `let_go`.
use Rattle.dt_seat.proofs.Tells.{tracked_forgotten}
use Rattle.dt_seat.proofs.locked.LockedSeat.let_go.Goals as goal

pub returns-clause-tracked : goal.returns-clause-tracked
returns-clause-tracked g c = λ writes knew tracked.
    tracked_forgotten g.J.Traced.contents c.args.follower.now c.let_go_of_note.new.follower c.let_go_of_note.ensures.follower c.is_right.ensures.orderly writes
    knew tracked
