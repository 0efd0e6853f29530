-- A test of a clause's statements is that of their forms.
use Rattle.std.proofs.Common.{◌≡◌, true, false, sym, ap, ◌∙◌, if◌then◌else◌}
use Rattle.std.specs.List.{list_any}
use Rattle.dt_program.specs.Clause.{form_of_clause, form_of_statement}
use Rattle.dt_record.specs.Layout.{layout_of, layout_size}
use Rattle.dt_record.specs.Taking as spec
use Rattle.dt_life.specs.laws.Lists.{list_any-map}
use Rattle.dt_life.proofs.reserve.size_attempted.Goals as goal

pub returns-then-speculate : goal.returns-then-speculate
returns-then-speculate c =
    let form = form_of_clause c.args.clause.now in
    let yes : list_any spec.is_speculating form.statements ≡ true =
    list_any-map form_of_statement spec.is_speculating c.args.clause.now.statements.items
    ∙ ap (list_any (λ statement. spec.is_speculating (form_of_statement statement))) (sym c.deref.ensures.value)
    ∙ sym c.speculate.ensures ∙ c.if-speculate.true in
    sym (ap (λ b. if b then 0 else layout_size (layout_of form)) yes)

pub returns-else-speculate : goal.returns-else-speculate
returns-else-speculate c =
    let form = form_of_clause c.args.clause.now in
    let no : list_any spec.is_speculating form.statements ≡ false =
    list_any-map form_of_statement spec.is_speculating c.args.clause.now.statements.items
    ∙ ap (list_any (λ statement. spec.is_speculating (form_of_statement statement))) (sym c.deref.ensures.value)
    ∙ sym c.speculate.ensures ∙ c.if-speculate.false in
    c.size.ensures ∙ ap layout_size c.of.ensures ∙ sym (ap (λ b. if b then 0 else layout_size (layout_of form)) no)
