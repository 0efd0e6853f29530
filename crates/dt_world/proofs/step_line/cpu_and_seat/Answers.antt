-- The processor and the seat behind the word.
use Rattle.std.proofs.Common.{◌++◌, codes, decimal, sym, ap, ◌∙◌}
use Rattle.dt_world.proofs.Behind.{behind_is, if_none, same_parts, whole_is}
use Rattle.dt_world.proofs.step_line.cpu_and_seat.Goals as goal

pub returns-in_err-after_word-clause-none : goal.returns-in_err-after_word-clause-none
returns-in_err-after_word-clause-none c = if_none c.from_residual.result _ (λ cpu seat fits within is.
    c.in_err-after_word.ensures.none _ is)

pub returns-in_err-cpu-clause-none : goal.returns-in_err-cpu-clause-none
returns-in_err-cpu-clause-none c = if_none c.from_residual-in_err-cpu.result _ (λ cpu seat fits within is.
    c.in_err-cpu.ensures.none cpu (decimal seat) fits
    (behind_is c.args.text.now c.args.word.now c.in_ok-after_word.field-0.now _ c.in_ok-after_word.ensures.found is))

pub returns-in_err-seat-clause-none : goal.returns-in_err-seat-clause-none
returns-in_err-seat-clause-none c = if_none c.from_residual-in_err-seat.result _ (λ cpu seat fits within is.
    let read = c.in_ok-cpu.ensures.found in
    let parts = same_parts c.in_ok-cpu.cpu cpu c.in_ok-cpu.rest.now (decimal seat) read.0 fits
    (sym read.1 ∙ behind_is c.args.text.now c.args.word.now c.in_ok-after_word.field-0.now _
    c.in_ok-after_word.ensures.found is) in
    c.in_err-seat.ensures.none seat within parts.1)

pub returns-clause-found : goal.returns-clause-found
returns-clause-found c =
    let cpu = c.in_ok-cpu.ensures.found in
    let seat = c.in_ok-seat.ensures.found in (
      cpu.0,
      seat.0,
      whole_is c.args.text.now c.args.word.now c.in_ok-after_word.field-0.now _ c.in_ok-after_word.ensures.found
          (cpu.1 ∙ ap (λ digits. decimal c.in_ok-cpu.cpu ++ (codes " " ++ digits)) seat.1),
    )
