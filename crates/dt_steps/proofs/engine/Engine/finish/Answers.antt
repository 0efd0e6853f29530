-- Finish.
use Rattle.std.proofs.Common.{option_map}
use Rattle.dt_steps.proofs.Holding.{some_weaker}
use Rattle.dt_steps.proofs.Soundness.{sound-finishing}
use Rattle.dt_steps.proofs.Standing.{Found, held_at, kept-finishing}
use Rattle.dt_steps.proofs.engine.Engine.finish.Goals as goal

pub returns-clause-at : goal.returns-clause-at
returns-clause-at c = λ world at.
    let registry = c.args.machine.now.registry in
    let seats = c.args.self.now.seats.items in
    let found : Found seats c.number.result c.args.seat c.index_mut.result.now = record {
      is = c.number.ensures.value;
      low = c.number.ensures.small;
      read = c.index_mut.ensures.value;
    } in (
      sound-finishing registry world at.0 c.args.seat,
      (kept-finishing registry world seats c.args.self.now.publications c.args.self.now.processors.items at.1
          c.number.result
          c.args.seat c.index_mut.result.now found
          (option_map (λ finished. finished.text.items) c.finish.result) c.finish.new.self c.finish.ensures.finished).0,
    )

pub returns-clause-answer : goal.returns-clause-answer
returns-clause-answer c = λ world at.
    let registry = c.args.machine.now.registry in
    let seats = c.args.self.now.seats.items in
    let found : Found seats c.number.result c.args.seat c.index_mut.result.now = record {
      is = c.number.ensures.value;
      low = c.number.ensures.small;
      read = c.index_mut.ensures.value;
    } in
    (kept-finishing registry world seats c.args.self.now.publications c.args.self.now.processors.items at.1 c.number.result
    c.args.seat c.index_mut.result.now found
    (option_map (λ finished. finished.text.items) c.finish.result) c.finish.new.self c.finish.ensures.finished).1

pub returns-clause-line : goal.returns-clause-line
returns-clause-line c =
    let registry = c.args.machine.now.registry in
    let seats = c.args.self.now.seats.items in
    let found : Found seats c.number.result c.args.seat c.index_mut.result.now = record {
      is = c.number.ensures.value;
      low = c.number.ensures.small;
      read = c.index_mut.ensures.value;
    } in
    some_weaker c.finish.result _ _
    (λ finished told world session pending at is.
    told (world.places c.args.seat) session pending
    (held_at registry world seats c.args.self.now.publications c.args.self.now.processors.items at.1 c.number.result
    c.args.seat c.index_mut.result.now found) is)
    c.finish.ensures.line
