-- What the proof of `record_only` is told at its goals.
use Rattle.std.proofs.Common.{◌≡◌, ◌++◌, ◌∙◌, List, Some, length, map, sym, ap, subst}
use Rattle.std.proofs.lemmas.List.{length-map}
use Rattle.std.specs.List.{flat_map}
use Rattle.dt_expr.specs.Scene.{scene_of}
use Rattle.dt_program.specs.Clause.{form_of_clause, form_of_statement}
use Rattle.dt_program.specs.declared.clause.Statement.{Statement}
use Rattle.dt_record.specs.Taking.{epid_bytes, leaves, perform, bare_record, recorded}
use Rattle.dt_record.specs.laws.BareRecords.{record_taken}
use Rattle.dt_record.proofs.bare_record.record_only.Goals as goal

pub returns : goal.returns
returns c = record {
  left = λ past at.
      let scene = scene_of c.args.scene.now in
      let done = λ (xs : List Statement). perform scene past (map form_of_statement xs) in
      let said = c.in_ok-record_statements.ensures.left past at in
      let same = c.deref.ensures.value in
      record_taken c.args.epid scene past (form_of_clause c.args.clause.now) c.requires.bare
      (c.in_ok-predicate_holds.ensures past.locals at ∙ ap Some c.if-not-branch.false)
      (subst (λ (xs : List Statement). length (done xs) ≡ length xs) same said.0
      ∙ sym (length-map c.args.clause.now.statements.items form_of_statement))
      ∙ ap leaves (ap bare_record (ap (λ xs. epid_bytes c.args.epid ++ flat_map recorded (done xs)) (sym same) ∙ sym said.1));
}
