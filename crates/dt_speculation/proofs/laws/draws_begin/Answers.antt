-- What a draw begins.
use Rattle.std.proofs.Common.{sym}
use Rattle.dt_speculation.specs.laws.Steps.{draw_records, draw_use, drawn_records, drawn_use, gives_other, zero_unused}
use Rattle.dt_speculation.proofs.Definite.{drawn_before}
use Rattle.dt_speculation.proofs.laws.draws_begin.Goals as goal

pub returns-clause-before : goal.returns-clause-before
returns-clause-before c = drawn_before

pub returns-clause-given : goal.returns-clause-given
returns-clause-given c = λ events id h. (drawn_use id events h, (λ cpu. drawn_records id events cpu h))

pub returns-clause-others : goal.returns-clause-others
returns-clause-others c = λ events answer id ne.
    let other = gives_other id answer (λ e. ne (sym e)) in
    (draw_use id events answer other, (λ cpu. draw_records id events answer cpu other))

pub returns-clause-nothing : goal.returns-clause-nothing
returns-clause-nothing c = zero_unused
