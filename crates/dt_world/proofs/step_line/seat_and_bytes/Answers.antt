-- What stands behind the word.
use Rattle.dt_world.proofs.Behind.{behind_is, if_none, none_map, some_map, whole_is}
use Rattle.dt_world.proofs.step_line.seat_and_bytes.Goals as goal

pub returns-in_err-after_word-clause-none : goal.returns-in_err-after_word-clause-none
returns-in_err-after_word-clause-none c = if_none c.from_residual.result _ (λ seat bytes fits is.
    c.in_err-after_word.ensures.none _ is)

pub returns-clause-found : goal.returns-clause-found
returns-clause-found c =
    some_map _ _ c.seat_and_rest.result
    (λ parts read. (
      read.0,
      whole_is c.args.text.now c.args.word.now c.in_ok-after_word.field-0.now _ c.in_ok-after_word.ensures.found
          read.1,
    ))
    c.seat_and_rest.ensures.found

pub returns-clause-none : goal.returns-clause-none
returns-clause-none c =
    none_map _ _ c.seat_and_rest.result
    (λ none seat bytes fits is.
    none seat bytes fits (behind_is c.args.text.now c.args.word.now c.in_ok-after_word.field-0.now _
    c.in_ok-after_word.ensures.found is))
    c.seat_and_rest.ensures.none
