-- What the proof of `give_only` is told at its goals.
use Rattle.std.proofs.Common.{◌≡◌, ◌∙◌, List, Some, length, map, sym, ap, subst}
use Rattle.std.proofs.lemmas.List.{length-map}
use Rattle.std.specs.List.{flat_map, list_all}
use Rattle.dt_expr.specs.Scene.{scene_of}
use Rattle.dt_program.specs.Clause.{form_of_clause, form_of_statement}
use Rattle.dt_program.specs.declared.clause.Statement.{Statement}
use Rattle.dt_record.specs.Taking.{contributed, is_giving, leaves, perform, bare_values}
use Rattle.dt_record.specs.laws.BareValues.{all_give, values_taken}
use Rattle.dt_record.proofs.bare_values.give_only.Goals as goal

pub give_statements-requires-clause-bare : goal.give_statements-requires-clause-bare
give_statements-requires-clause-bare c =
    subst (λ (xs : List Statement). list_all is_giving (map form_of_statement xs) ≡ _) (sym c.deref.ensures.value)
    (all_give (form_of_clause c.args.clause.now).statements c.requires.bare)

pub returns : goal.returns
returns c = record {
  left = λ epid past at.
      let scene = scene_of c.args.scene.now in
      let done = λ (xs : List Statement). perform scene past (map form_of_statement xs) in
      let said = c.in_ok-give_statements.ensures.left past at in
      let same = c.deref.ensures.value in
      values_taken epid scene past (form_of_clause c.args.clause.now) c.requires.bare
      (c.in_ok-predicate_holds.ensures past.locals at ∙ ap Some c.if-not-branch.false)
      (subst (λ (xs : List Statement). length (done xs) ≡ length xs) same said.0
      ∙ sym (length-map c.args.clause.now.statements.items form_of_statement))
      ∙ ap leaves (ap bare_values (ap (λ xs. flat_map contributed (done xs)) (sym same) ∙ sym said.1));
}
