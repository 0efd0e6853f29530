-- What the proof of `give_statements` is told at its goals.
use Rattle.std.proofs.Common.{◌≡◌, List, Some, None, ◌+◌, ◌<◌, ◌∷◌, ◌++◌, [], length, map, take, sym, ap, subst, ◌∙◌, arith}
use Rattle.std.proofs.lemmas.List.{length_push, take_all}
use Rattle.std.specs.List.{flat_map}
use Rattle.dt_expr.specs.Scene.{SceneForm, scene_of}
use Rattle.dt_program.specs.Clause.{form_of_statement}
use Rattle.dt_program.specs.declared.clause.Statement.{Statement}
use Rattle.dt_record.specs.Taking.{contributed, effect, gives, is_giving, past_with, perform}
use Rattle.dt_record.specs.laws.Performing.{then_more, then_nothing}
use Rattle.dt_record.proofs.LeftMore.{flat_more}
use Rattle.dt_record.proofs.Loops.{SoFar, list_all-at, match_err, perform-stop, perform-turn}
use Rattle.dt_record.proofs.bare_values.give_statements.Goals as goal

pub add_given-requires-clause-gives : goal.add_given-requires-clause-gives
add_given-requires-clause-gives c =
    list_all-at is_giving form_of_statement c.args.statements.now c.loop-statement.statement-index c.statement-item.result
    c.loop-statement-test.true c.statement-item.is c.requires.bare

pub returns-in_err-add_given : goal.returns-in_err-add_given
returns-in_err-add_given c = record {
  left = λ past at.
      let scene : SceneForm = scene_of c.args.scene.now in
      let before = c.loop-statement.invariant.left past at in
      let stopped = perform-stop scene past c.args.statements.now c.loop-statement.statement-index c.statement-item.result
      c.loop-statement-test.true c.statement-item.is before.0
      (subst (λ p. effect scene p (form_of_statement c.statement-item.result) ≡ None) (sym before.2)
      (c.in_err-add_given.ensures.fault past at)) in
      let short : length (perform scene past (map form_of_statement c.args.statements.now)) < length c.args.statements.now =
      omega (arith, ap length stopped, before.0, c.loop-statement-test.true) in
      match_err _ c.from_residual.result c.from_residual.ensures.0 short;
}

pub loop-statement-preserved : goal.loop-statement-preserved
loop-statement-preserved c =
    let scene : SceneForm = scene_of c.args.scene.now in
    record {
      left = λ past at.
          let before = c.loop-statement.invariant.left past at in
          let done = SoFar scene past c.args.statements.now c.loop-statement.statement-index c.statement-item.result
          c.loop-statement-test.true c.statement-item.is in
          let does = c.in_ok-add_given.ensures.done past at in
          let more = perform-turn scene past c.args.statements.now c.loop-statement.statement-index c.statement-item.result
          c.loop-statement-test.true c.statement-item.is (gives does.0) before.0
          (subst (λ p. effect scene p (form_of_statement c.statement-item.result) ≡ Some (gives does.0)) (sym before.2) does.1) in (
            ap length more ∙ length_push done (gives does.0) ∙ ap (λ n. n + 1) before.0,
            does.2 ∙ ap (λ values. values ++ does.0) before.1
                ∙ flat_more contributed done (gives does.0)
                ∙ ap (flat_map contributed) (sym more),
            ap (past_with past) more ∙ then_more past done (gives does.0 ∷ []) ∙ then_nothing (past_with past done) ∙ before.2,
          );
      room = let grows = c.in_ok-add_given.ensures.grows in let room = c.loop-statement.invariant.room in omega arith;
    }

pub returns : goal.returns
returns c = record {
  left = λ past at.
      let scene : SceneForm = scene_of c.args.scene.now in
      let before = c.loop-statement.invariant.left past at in
      let all : take c.loop-statement.statement-index c.args.statements.now ≡ c.args.statements.now =
      take_all c.loop-statement.statement-index c.args.statements.now c.loop-statement-test.false in
      let whole = ap (λ (xs : List Statement). perform scene past (map form_of_statement xs)) all in (
        omega (arith, ap length whole, before.0, ap length all, c.loop-statement-test.false, c.loop-statement.auto.statement-index-end),
        before.1 ∙ ap (flat_map contributed) whole,
      );
}
