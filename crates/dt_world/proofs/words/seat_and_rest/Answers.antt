-- The seat in front of the first blank.
use Rattle.std.proofs.Common.{arith}
use Rattle.dt_world.proofs.Cuts.{no_cut}
use Rattle.dt_world.proofs.Behind.{front_is, if_none}
use Rattle.dt_world.proofs.words.seat_and_rest.Goals as goal

pub returns-in_err-digits-clause-none : goal.returns-in_err-digits-clause-none
returns-in_err-digits-clause-none c = if_none c.from_residual.result _ (λ seat rest fits is.
    no_cut c.args.text.now _ rest c.in_err-digits.ensures.none is)

pub returns-in_err-seat-clause-none : goal.returns-in_err-seat-clause-none
returns-in_err-seat-clause-none c = if_none c.from_residual-in_err-seat.result _ (λ seat rest fits is.
    c.in_err-seat.ensures.none seat fits
    (front_is c.args.text.now c.in_ok-digits.digits.now c.in_ok-digits.rest.now rest seat
    c.in_ok-digits.ensures.found (omega arith) is))
