-- A clause ends the walk, or the walk goes on.
use Rattle.std.proofs.Common.{◌+◌, List, map, ◌∙◌, sym, subst}
use Rattle.dt_program.specs.Program.{form_of_clause, form_of_statement}
use Rattle.dt_program.specs.declared.clause.Clause.{Clause}
use Rattle.dt_ecb.specs.Enable.{IsFirstSuch, has_stack, is_stack}
use Rattle.dt_ecb.proofs.FirstLemmas.{first_found, none_more}
use Rattle.dt_ecb.proofs.ProbeLemmas.{list_any-map}
use Rattle.dt_ecb.proofs.faults.first_with_stack.Goals as goal

pub returns-then-has_stack : goal.returns-then-has_stack
returns-then-has_stack c =
    let clause = c.clause-item.result in
    let P : List Clause → Type 0 = λ cs. IsFirstSuch has_stack (map form_of_clause cs) (c.loop-place.place + 1) in
    subst P c.deref-clause-items.ensures.value
    (first_found has_stack form_of_clause c.deref-clause-items.result.now c.loop-place.place clause
    c.loop-place-test.true c.clause-item.is c.loop-place.invariant
    (list_any-map form_of_statement is_stack clause.statements.items ∙ sym c.has_stack.ensures ∙ c.if-has_stack.true))

pub loop-place-preserved : goal.loop-place-preserved
loop-place-preserved c =
    let clause = c.clause-item.result in
    none_more has_stack form_of_clause c.deref-clause-items.result.now c.loop-place.place clause
    c.loop-place-test.true c.clause-item.is c.loop-place.invariant
    (list_any-map form_of_statement is_stack clause.statements.items ∙ sym c.has_stack.ensures ∙ c.if-has_stack.false)
