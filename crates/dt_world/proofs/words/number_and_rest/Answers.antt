-- The number in front of the first blank.
use Rattle.dt_world.proofs.Cuts.{no_cut}
use Rattle.dt_world.proofs.Behind.{front_is, if_none}
use Rattle.dt_world.proofs.words.number_and_rest.Goals as goal

pub returns-in_err-digits-clause-none : goal.returns-in_err-digits-clause-none
returns-in_err-digits-clause-none c = if_none c.from_residual.result _ (λ number rest fits is.
    no_cut c.args.text.now _ rest c.in_err-digits.ensures.none is)

pub returns-in_err-number-clause-none : goal.returns-in_err-number-clause-none
returns-in_err-number-clause-none c = if_none c.from_residual-in_err-number.result _ (λ number rest fits is.
    c.in_err-number.ensures.none number fits
    (front_is c.args.text.now c.in_ok-digits.digits.now c.in_ok-digits.rest.now rest number
    c.in_ok-digits.ensures.found fits is))
