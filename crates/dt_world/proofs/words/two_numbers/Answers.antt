-- The two numbers after the word.
use Rattle.std.proofs.Common.{◌++◌, codes, decimal, sym, ap, ◌∙◌}
use Rattle.dt_world.proofs.Behind.{behind_is, if_none, same_parts, whole_is}
use Rattle.dt_world.proofs.words.two_numbers.Goals as goal

pub returns-in_err-after_word-clause-none : goal.returns-in_err-after_word-clause-none
returns-in_err-after_word-clause-none c = if_none c.from_residual.result _ (λ first second fits within is.
    c.in_err-after_word.ensures.none _ is)

pub returns-in_err-first-clause-none : goal.returns-in_err-first-clause-none
returns-in_err-first-clause-none c = if_none c.from_residual-in_err-first.result _ (λ first second fits within is.
    c.in_err-first.ensures.none first (decimal second) fits
    (behind_is c.args.text.now c.args.word.now c.in_ok-after_word.field-0.now _ c.in_ok-after_word.ensures.found is))

pub returns-in_err-second-clause-none : goal.returns-in_err-second-clause-none
returns-in_err-second-clause-none c = if_none c.from_residual-in_err-second.result _ (λ first second fits within is.
    let read = c.in_ok-first.ensures.found in
    let parts = same_parts c.in_ok-first.first first c.in_ok-first.rest.now (decimal second) read.0 fits
    (sym read.1 ∙ behind_is c.args.text.now c.args.word.now c.in_ok-after_word.field-0.now _
    c.in_ok-after_word.ensures.found is) in
    c.in_err-second.ensures.none second within parts.1)

pub returns-clause-found : goal.returns-clause-found
returns-clause-found c =
    let first = c.in_ok-first.ensures.found in
    let second = c.in_ok-second.ensures.found in (
      first.0,
      second.0,
      whole_is c.args.text.now c.args.word.now c.in_ok-after_word.field-0.now _ c.in_ok-after_word.ensures.found
          (first.1 ∙ ap (λ digits. decimal c.in_ok-first.first ++ (codes " " ++ digits)) second.1),
    )
