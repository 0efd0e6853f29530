-- What stands behind the word.
use Rattle.dt_world.proofs.Behind.{behind_is, if_none, none_map, some_map, whole_is}
use Rattle.dt_world.proofs.step_line.cpu_alone.Goals as goal

pub returns-in_err-after_word-clause-none : goal.returns-in_err-after_word-clause-none
returns-in_err-after_word-clause-none c = if_none c.from_residual.result _ (λ cpu fits is.
    c.in_err-after_word.ensures.none _ is)

pub returns-clause-found : goal.returns-clause-found
returns-clause-found c =
    some_map _ _ c.number_of.result
    (λ cpu read. (
      read.0,
      whole_is c.args.text.now c.args.word.now c.in_ok-after_word.field-0.now _ c.in_ok-after_word.ensures.found
          read.1,
    ))
    c.number_of.ensures.found

pub returns-clause-none : goal.returns-clause-none
returns-clause-none c =
    none_map _ _ c.number_of.result
    (λ none cpu fits is.
    none cpu fits (behind_is c.args.text.now c.args.word.now c.in_ok-after_word.field-0.now _
    c.in_ok-after_word.ensures.found is))
    c.number_of.ensures.none
