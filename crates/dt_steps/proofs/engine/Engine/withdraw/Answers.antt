-- Withdraw.
use Rattle.std.proofs.Common.{◌∙◌, sym, refl}
use Rattle.dt_steps.proofs.Soundness.{sound-withdrawing}
use Rattle.dt_steps.proofs.Standing.{Found, kept-withdrawing}
use Rattle.dt_steps.proofs.engine.Engine.withdraw.Goals as goal

pub returns-then-may_withdraw : goal.returns-then-may_withdraw
returns-then-may_withdraw c = λ registry world at.
    let seats = c.args.self.now.seats.items in
    let found : Found seats c.number.result c.args.seat c.index.result.now = record {
      is = c.number.ensures.value;
      low = c.number.ensures.small;
      read = c.index.ensures;
    } in (
      sound-withdrawing registry world at.0 c.args.seat,
      kept-withdrawing registry world seats c.args.self.now.publications c.args.self.now.processors.items at.1
          c.number.result
          c.args.seat c.index.result.now found c.may_withdraw.result c.withdraw.new.self
          (c.may_withdraw.ensures registry) (λ may. c.withdraw.ensures.stands)
          (λ no. let bad = sym c.if-may_withdraw.true ∙ no in cc),
    )

pub returns-else-may_withdraw : goal.returns-else-may_withdraw
returns-else-may_withdraw c = λ registry world at.
    let seats = c.args.self.now.seats.items in
    let found : Found seats c.number.result c.args.seat c.index.result.now = record {
      is = c.number.ensures.value;
      low = c.number.ensures.small;
      read = c.index.ensures;
    } in (
      sound-withdrawing registry world at.0 c.args.seat,
      kept-withdrawing registry world seats c.args.self.now.publications c.args.self.now.processors.items at.1
          c.number.result
          c.args.seat c.index.result.now found c.may_withdraw.result c.args.self.now.publications
          (c.may_withdraw.ensures registry) (λ yes. let bad = sym c.if-may_withdraw.false ∙ yes in cc) (λ no. refl),
    )
