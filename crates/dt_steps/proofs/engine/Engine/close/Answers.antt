-- Close.
use Rattle.dt_steps.proofs.Soundness.{sound-closing}
use Rattle.dt_steps.proofs.Standing.{Found, kept-closing}
use Rattle.dt_steps.proofs.engine.Engine.close.Goals as goal

pub returns : goal.returns
returns c = λ registry world few at.
    let seats = c.args.self.now.seats.items in
    let found : Found seats c.number.result c.args.seat c.index_mut.result.now = record {
      is = c.number.ensures.value;
      low = c.number.ensures.small;
      read = c.index_mut.ensures.value;
    } in (
      sound-closing registry world at.0 c.args.seat,
      kept-closing registry world seats c.args.self.now.publications c.args.self.now.processors.items at.1 c.number.result
          c.args.seat c.index_mut.result.now found c.close.new.self
          (c.close.ensures registry) few,
    )
