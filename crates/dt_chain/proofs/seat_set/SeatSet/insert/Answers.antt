-- The word of the seat was changed at its place.
use Rattle.std.proofs.Common.{true, arith}
use Rattle.dt_machine.specs.laws.Words.{changed_word}
use Rattle.dt_chain.proofs.seat_set.SeatSet.insert.Goals as goal

pub returns : goal.returns
returns c = changed_word c.args.self.now.words c.args.seat c.word.result c.place.result true c.insert.new.self
    (record { bits = 0 }) c.word.ensures.value c.place.ensures.value (omega arith)
    c.insert.ensures
