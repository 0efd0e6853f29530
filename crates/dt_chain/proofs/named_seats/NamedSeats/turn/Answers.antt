-- After the last word nothing is to come.
use Rattle.std.proofs.Common.{ap, cond, Some, None, slice_index, arith}
use Rattle.dt_chain.proofs.GoingOver.{none_left}
use Rattle.dt_chain.proofs.named_seats.NamedSeats.turn.Goals as goal

pub returns-clause-none : goal.returns-clause-none
returns-clause-none c = λ none seat.
    ap (λ b. cond b (Some (slice_index c.loop-word.self.mask.now.lives seat)) None)
    (none_left c.loop-word.self.mask.now.seats.words c.loop-word.self.word c.loop-word.self.left
    (λ other later. c.loop-word.self.all other (omega (arith, c.loop-word.invariant.at, c.loop-word-test.false, later)))
    none seat)
