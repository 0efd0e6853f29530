-- Ask.
use Rattle.std.proofs.Common.{option_map}
use Rattle.std.proofs.lemmas.Result.{IfOk-weaker}
use Rattle.dt_proto.specs.Asked.{form_lent}
use Rattle.dt_steps.proofs.Holding.{some_weaker}
use Rattle.dt_steps.proofs.Soundness.{sound-asking}
use Rattle.dt_steps.proofs.Standing.{Found, held_at, kept-asking}
use Rattle.dt_steps.proofs.engine.Engine.ask.Goals as goal

pub returns-clause-at : goal.returns-clause-at
returns-clause-at c =
    let registry = c.args.machine.now.registry in
    let seats = c.args.self.now.seats.items in
    let found : Found seats c.number.result c.args.seat c.index_mut.result.now = record {
      is = c.number.ensures.value;
      low = c.number.ensures.small;
      read = c.index_mut.ensures.value;
    } in
    IfOk-weaker c.ask.result _ _
    (λ reply does world at. (
      sound-asking registry world at.0 c.args.seat (form_lent c.args.line),
      (kept-asking registry world seats c.args.self.now.publications c.args.self.now.processors.items at.1 c.number.result
          c.args.seat c.index_mut.result.now found (form_lent c.args.line)
          (option_map (λ answered. answered.text.items) reply) c.ask.new.self does).0,
    ))
    c.ask.ensures.asked

pub returns-clause-answer : goal.returns-clause-answer
returns-clause-answer c =
    let registry = c.args.machine.now.registry in
    let seats = c.args.self.now.seats.items in
    let found : Found seats c.number.result c.args.seat c.index_mut.result.now = record {
      is = c.number.ensures.value;
      low = c.number.ensures.small;
      read = c.index_mut.ensures.value;
    } in
    IfOk-weaker c.ask.result _ _
    (λ reply does world at.
    (kept-asking registry world seats c.args.self.now.publications c.args.self.now.processors.items at.1 c.number.result
    c.args.seat c.index_mut.result.now found (form_lent c.args.line)
    (option_map (λ answered. answered.text.items) reply) c.ask.new.self does).1)
    c.ask.ensures.asked

pub returns-clause-over : goal.returns-clause-over
returns-clause-over c =
    let registry = c.args.machine.now.registry in
    let seats = c.args.self.now.seats.items in
    let found : Found seats c.number.result c.args.seat c.index_mut.result.now = record {
      is = c.number.ensures.value;
      low = c.number.ensures.small;
      read = c.index_mut.ensures.value;
    } in
    IfOk-weaker c.ask.result _ _
    (λ reply.
    some_weaker reply _ _
    (λ answered told world session at is.
    told (world.places c.args.seat) session
    (held_at registry world seats c.args.self.now.publications c.args.self.now.processors.items at.1 c.number.result
    c.args.seat c.index_mut.result.now found) is))
    c.ask.ensures.over
