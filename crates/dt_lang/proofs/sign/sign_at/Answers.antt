-- What is to be shown of `sign_at`.
use Rattle.dt_lang.specs.laws.Signs.{longest_pair, some_single, no_single}
use Rattle.dt_lang.proofs.sign.sign_at.Goals as goal

pub returns-in-Some-clause-some : goal.returns-in-Some-clause-some
returns-in-Some-clause-some c =
    longest_pair c.args.text.now c.in-Some.sign c.in-Some.ensures.begins c.in-Some.ensures.member

pub returns-in-None-clause-some : goal.returns-in-None-clause-some
returns-in-None-clause-some c =
    some_single c.args.text.now c.first_of-in-None.result c.in-None.ensures.none c.first_of-in-None.ensures.begins
    c.first_of-in-None.ensures.member

pub returns-in-None-clause-none : goal.returns-in-None-clause-none
returns-in-None-clause-none c =
    no_single c.args.text.now c.first_of-in-None.result c.in-None.ensures.none c.first_of-in-None.ensures.none
