-- Open.
use Rattle.std.proofs.lemmas.Result.{on_ok_weaker}
use Rattle.dt_steps.proofs.Soundness.{sound-opening}
use Rattle.dt_steps.proofs.Standing.{Found, kept-opening}
use Rattle.dt_steps.proofs.engine.Engine.open.Goals as goal

pub returns : goal.returns
returns c =
    let registry = c.args.machine.now.registry in
    let seats = c.args.self.now.seats.items in
    let found : Found seats c.number.result c.args.seat c.index_mut.result.now = record {
      is = c.number.ensures.value;
      low = c.number.ensures.small;
      read = c.index_mut.ensures.value;
    } in
    on_ok_weaker c.open.result
    (λ opens world at. (
      sound-opening registry world at.0 c.args.seat c.args.name.now,
      kept-opening registry world seats c.args.self.now.publications c.args.self.now.processors.items at.1 c.number.result
          c.args.seat c.index_mut.result.now found c.args.name.now c.open.new.self opens,
    ))
    c.open.ensures
