-- What the proof of `Taken::take_statements` is told at its goals.
use Rattle.std.proofs.Common.{◌+◌, ◌<◌, ◌∷◌, [], length, map, sym, ap, subst, ◌∙◌, arith}
use Rattle.std.proofs.lemmas.List.{length_push}
use Rattle.dt_expr.specs.Scene.{SceneForm, scene_of}
use Rattle.dt_program.specs.Clause.{form_of_statement}
use Rattle.dt_record.specs.Left.{left_with}
use Rattle.dt_record.specs.Taking.{past_with, perform, taken_of}
use Rattle.dt_record.specs.TracingAt.{TracingAt}
use Rattle.dt_record.specs.laws.Performing.{then_more}
use Rattle.dt_record.proofs.LeftMore.{left-more}
use Rattle.dt_record.proofs.Loops.{SoFar, match_err, perform-stop, perform-turn}
use Rattle.dt_record.proofs.parts.Taken.take_statements.Goals as goal

pub returns-in_err-add-clause-left : goal.returns-in_err-add-clause-left
returns-in_err-add-clause-left c = λ past at.
    let scene : SceneForm = scene_of c.args.scene.now in
    let before = c.loop-statement.invariant.left past at in
    let done = SoFar scene past c.args.statements.now c.loop-statement.statement-index c.statement-item.result
    c.loop-statement-test.true c.statement-item.is in
    let stopped = perform-stop scene past c.args.statements.now c.loop-statement.statement-index c.statement-item.result
    c.loop-statement-test.true c.statement-item.is before.0
    (c.in_err-add.ensures.fault (past_with past done) before.2).0 in
    let short : length (perform scene past (map form_of_statement c.args.statements.now)) < length c.args.statements.now =
    omega (arith, ap length stopped, before.0, c.loop-statement-test.true) in
    match_err _ c.from_residual.result c.from_residual.ensures.0 short

pub returns-in_err-add-clause-stands : goal.returns-in_err-add-clause-stands
returns-in_err-add-clause-stands c = λ past at.
    let scene : SceneForm = scene_of c.args.scene.now in
    let before = c.loop-statement.invariant.left past at in
    let done = SoFar scene past c.args.statements.now c.loop-statement.statement-index c.statement-item.result
    c.loop-statement-test.true c.statement-item.is in
    let fault = c.in_err-add.ensures.fault (past_with past done) before.2 in
    let stopped = perform-stop scene past c.args.statements.now c.loop-statement.statement-index c.statement-item.result
    c.loop-statement-test.true c.statement-item.is before.0 fault.0 in
    subst (λ es. TracingAt (past_with past es) c.add.new.locals c.add.new.specs) (sym stopped) fault.1

pub loop-statement-preserved : goal.loop-statement-preserved
loop-statement-preserved c =
    let scene : SceneForm = scene_of c.args.scene.now in
    record {
      left = λ past at.
          let before = c.loop-statement.invariant.left past at in
          let done = SoFar scene past c.args.statements.now c.loop-statement.statement-index c.statement-item.result
          c.loop-statement-test.true c.statement-item.is in
          let does = c.in_ok-add.ensures.done (past_with past done) before.2 in
          let more = perform-turn scene past c.args.statements.now c.loop-statement.statement-index c.statement-item.result
          c.loop-statement-test.true c.statement-item.is does.0 before.0 does.1 in
          let forms = map form_of_statement c.args.statements.now in (
            ap length more ∙ length_push done does.0 ∙ ap (λ n. n + 1) before.0,
            does.2 ∙ ap (λ left. left_with left does.0) before.1 ∙ left-more c.args.epid forms done does.0
                ∙ ap (taken_of c.args.epid forms) (sym more),
            subst (λ p. TracingAt p c.add.new.locals c.add.new.specs)
                (sym (ap (past_with past) more ∙ then_more past done (does.0 ∷ []))) does.3,
          );
      record_room = let grows = c.in_ok-add.ensures.record_grows in let room =
          c.loop-statement.invariant.record_room in
          omega arith;
      values_room = let grows = c.in_ok-add.ensures.values_grow in let room = c.loop-statement.invariant.values_room in
          omega arith;
      ends_room = let grows = c.in_ok-add.ensures.ends_grow in let room = c.loop-statement.invariant.ends_room in
          omega arith;
      dropped = let grows = c.add.ensures.dropped in let before = c.loop-statement.invariant.dropped in omega arith;
      failed = let grows = c.add.ensures.failed in let before = c.loop-statement.invariant.failed in omega arith;
      cpus = c.add.ensures.cpus ∙ c.loop-statement.invariant.cpus;
    }
