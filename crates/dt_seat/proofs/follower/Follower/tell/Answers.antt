-- What is to be shown of `tell`.
use Rattle.dt_seat.proofs.Tells.{tracked_heard}
use Rattle.dt_seat.proofs.follower.Follower.tell.Goals as goal

pub returns-clause-tracked : goal.returns-clause-tracked
returns-clause-tracked g c = λ writes knew begins tracked.
    let contents = g.J.Traced.contents in
    let whose = c.take_in.ensures.whose in
    tracked_heard contents c.args.receipt c.args.self.now c.take_in.new.self c.take_in.ensures.heard c.is_right.ensures.orderly c.requires.seat whose.0 whose.1
    whose.2 c.take_in.ensures.legal c.take_in.ensures.go writes knew begins tracked
