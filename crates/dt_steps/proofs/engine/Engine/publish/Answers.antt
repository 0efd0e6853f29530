-- Publish.
use Rattle.std.proofs.lemmas.Result.{on_ok_weaker}
use Rattle.dt_steps.proofs.Soundness.{sound-publishing}
use Rattle.dt_steps.proofs.Standing.{Found, kept-publishing}
use Rattle.dt_steps.proofs.engine.Engine.publish.Goals as goal

pub returns : goal.returns
returns c =
    let seats = c.args.self.now.seats.items in
    let found : Found seats c.number.result c.args.seat c.index_mut.result.now = record {
      is = c.number.ensures.value;
      low = c.number.ensures.small;
      read = c.index_mut.ensures.value;
    } in
    on_ok_weaker c.publish.result
    (λ publishes registry world at. (
      sound-publishing registry world at.0 c.args.seat,
      kept-publishing registry world seats c.args.self.now.publications c.args.self.now.processors.items at.1
          c.number.result
          c.args.seat c.index_mut.result.now found c.publish.new.self c.publish.new.publications
          (publishes registry),
    ))
    c.publish.ensures
