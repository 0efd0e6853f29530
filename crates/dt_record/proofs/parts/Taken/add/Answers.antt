-- What the proof of `Taken::add` is told at its goals.
use Rattle.std.proofs.Common.{◌≡◌, ◌++◌, List, Some, ◌∷◌, [], map, refl, sym, ap, subst, ◌∙◌, to_z, of_z, w64, rules}
use Rattle.std.proofs.lemmas.List.{append_assoc, map-append}
use Rattle.std.specs.Option.{option_map, option_and_then}
use Rattle.dt_expr.specs.Scene.{SceneForm, scene_of}
use Rattle.dt_expr.specs.declared.text.Value.TheVariants as val
use Rattle.dt_locals.specs.History.{locals_after}
use Rattle.dt_locals.specs.LocalsAreAt.{LocalsAreAt}
use Rattle.dt_program.specs.Clause.{form_of_argument, form_of_call, form_of_statement}
use Rattle.dt_program.specs.declared.clause.Argument.{Argument}
use Rattle.dt_program.specs.declared.clause.Statement.{Statement}
use Rattle.dt_record.specs.Forms.{form_of_end, form_of_taken}
use Rattle.dt_record.specs.Left.{left_with}
use Rattle.dt_record.specs.Taking.{Effect, TakenForm, records, gives, exits, assigns, speculates, ends, committed, discarded}
use Rattle.dt_record.specs.Taking.{argument_value, assignment_in, draw_effect, each, effect, frames_bytes, identifier, value_bytes}
use Rattle.dt_record.specs.Taking as spec
use Rattle.dt_record.proofs.Adding.{at_assigned, at_same}
use Rattle.dt_record.proofs.LeftMore.{by_parts, same_bytes, same_ends, same_exit, same_left, same_spec, same_values}
use Rattle.dt_record.proofs.parts.Taken.add.Goals as goal

pub returns-in_ok-put_argument-in-Trace-clause-done : goal.returns-in_ok-put_argument-in-Trace-clause-done
returns-in_ok-put_argument-in-Trace-clause-done c = λ past at.
    let written = c.in_ok-put_argument-in-Trace.ensures.written past.locals at.variables in
    let old : TakenForm = form_of_taken c.args.self.now in
    let done : Effect = records (value_bytes written.0) in (
      done,
      ap (λ (s : Statement). effect (scene_of c.args.scene.now) past (form_of_statement s)) c.in-Trace.is
          ∙ ap (option_map (λ v. records (value_bytes v))) written.1,
      by_parts _ (left_with old done) written.2 (same_spec old) (same_values old) (same_ends old) (same_exit old),
      at_same past c.args.locals.now c.args.specs.now at,
    )

pub returns-in-Stack-clause-done : goal.returns-in-Stack-clause-done
returns-in-Stack-clause-done c = λ past at.
    let old : TakenForm = form_of_taken c.args.self.now in
    let done : Effect = records (frames_bytes c.in-Stack.frames.count c.args.scene.now.firing.now.kstack) in (
      done,
      ap (λ (s : Statement). effect (scene_of c.args.scene.now) past (form_of_statement s)) c.in-Stack.is,
      by_parts _ (left_with old done) c.put_stack.ensures.written (same_spec old) (same_values old) (same_ends old)
          (same_exit old),
      at_same past c.args.locals.now c.args.specs.now at,
    )

pub returns-in-Ustack-clause-done : goal.returns-in-Ustack-clause-done
returns-in-Ustack-clause-done c = λ past at.
    let old : TakenForm = form_of_taken c.args.self.now in
    let done : Effect = records (frames_bytes c.in-Ustack.frames.count c.args.scene.now.firing.now.ustack) in (
      done,
      ap (λ (s : Statement). effect (scene_of c.args.scene.now) past (form_of_statement s)) c.in-Ustack.is,
      by_parts _ (left_with old done) c.put_stack-in-Ustack.ensures.written (same_spec old) (same_values old)
          (same_ends old) (same_exit old),
      at_same past c.args.locals.now c.args.specs.now at,
    )

pub returns-in_ok-status-in-Exit-clause-done : goal.returns-in_ok-status-in-Exit-clause-done
returns-in_ok-status-in-Exit-clause-done c = λ past at.
    let old : TakenForm = form_of_taken c.args.self.now in
    let done : Effect = exits c.in_ok-status-in-Exit.status in (
      done,
      ap (λ (s : Statement). effect (scene_of c.args.scene.now) past (form_of_statement s)) c.in-Exit.is
          ∙ ap (option_map exits) (c.in_ok-status-in-Exit.ensures past.locals at.variables),
      by_parts _ (left_with old done) (same_bytes old) (same_spec old) (same_values old) (same_ends old) (search rules),
      at_same past c.args.locals.now c.args.specs.now at,
    )

pub returns-in_ok-number-in-Aggregate-clause-done : goal.returns-in_ok-number-in-Aggregate-clause-done
returns-in_ok-number-in-Aggregate-clause-done c = λ past at.
    let keys = c.in_ok-put_keys-in-Aggregate.ensures.given past.locals at.variables in
    let z = c.in_ok-number-in-Aggregate.number in
    let same : to_z w64 (of_z w64 z) ≡ z = search rules in
    let number = val.Number z in
    let scene : SceneForm = scene_of c.args.scene.now in
    let values : each (argument_value scene past.locals) (map form_of_argument c.in-Aggregate.aggregation.keys.items)
    ≡ Some keys.0 =
    ap (λ (ks : List Argument). each (argument_value scene past.locals) (map form_of_argument ks))
    (sym c.deref.ensures.value) ∙ keys.1 in
    let given : spec.given scene past.locals (form_of_call c.in-Aggregate.aggregation.call) ≡ Some number =
    c.in_ok-number-in-Aggregate.ensures past.locals at.variables in
    let done : Effect = gives (keys.0 ++ number ∷ []) in
    let does : effect scene past (form_of_statement c.args.statement.now) ≡ Some done =
    ap (λ (s : Statement). effect scene past (form_of_statement s)) c.in-Aggregate.is
    ∙ ap (option_and_then (λ vs. option_map (λ v. gives (vs ++ v ∷ []))
    (spec.given scene past.locals (form_of_call c.in-Aggregate.aggregation.call)))) values
    ∙ ap (option_map (λ v. gives (keys.0 ++ v ∷ []))) given in
    let old : TakenForm = form_of_taken c.args.self.now in (
      done,
      does,
      by_parts _ (left_with old done) (same_bytes old) (same_spec old)
          (c.push.ensures.items ∙ ap (λ n. c.put_keys.new.values.items ++ val.Number n ∷ []) same
          ∙ ap (λ vs. vs ++ number ∷ []) keys.2
          ∙ append_assoc c.args.self.now.values.items keys.0 (number ∷ []))
          (same_ends old) (same_exit old),
      at_same past c.args.locals.now c.args.specs.now at,
    )

pub returns-in_ok-value-in-Assign-clause-done : goal.returns-in_ok-value-in-Assign-clause-done
returns-in_ok-value-in-Assign-clause-done c = λ past at.
    let scene : SceneForm = scene_of c.args.scene.now in
    let z = c.in_ok-value-in-Assign.value in
    let same : to_z w64 (of_z w64 z) ≡ z = search rules in
    let assignment = assignment_in scene c.in-Assign.name z in (
      assigns assignment,
      ap (λ (s : Statement). effect scene past (form_of_statement s)) c.in-Assign.is
          ∙ ap (option_map (λ z. assigns (assignment_in scene c.in-Assign.name z)))
          (c.in_ok-value-in-Assign.ensures past.locals at.variables),
      same_left (form_of_taken c.args.self.now) (assigns assignment) refl refl refl refl refl,
      at_assigned past c.args.locals.now c.args.specs.now at assignment c.set.new.self
          (subst (λ n. LocalsAreAt (locals_after past.locals (assignment_in scene c.in-Assign.name n)) c.set.new.self) same
          (c.set.ensures.stands past.locals at.variables)),
    )

pub returns-in-Draw-clause-done : goal.returns-in-Draw-clause-done
returns-in-Draw-clause-done c = λ past at.
    let scene : SceneForm = scene_of c.args.scene.now in
    let done : Effect = draw_effect scene past c.in-Draw.name in (
      done,
      ap (λ (s : Statement). effect scene past (form_of_statement s)) c.in-Draw.is,
      same_left (form_of_taken c.args.self.now) done refl refl refl refl refl,
      c.draw.ensures.done past at,
    )

pub returns-in_ok-eval-in-Speculate-clause-done : goal.returns-in_ok-eval-in-Speculate-clause-done
returns-in_ok-eval-in-Speculate-clause-done c = λ past at.
    let old : TakenForm = form_of_taken c.args.self.now in
    let done : Effect = speculates (identifier c.in_ok-eval-in-Speculate.field-0) in (
      done,
      ap (λ (s : Statement). effect (scene_of c.args.scene.now) past (form_of_statement s)) c.in-Speculate.is
          ∙ ap (option_map (λ z. speculates (identifier z))) (c.in_ok-eval-in-Speculate.ensures past.locals at.variables),
      by_parts _ (left_with old done) (same_bytes old) (search rules) (same_values old) (same_ends old) (same_exit old),
      at_same past c.args.locals.now c.args.specs.now at,
    )

pub returns-in_ok-eval-in-Commit-clause-done : goal.returns-in_ok-eval-in-Commit-clause-done
returns-in_ok-eval-in-Commit-clause-done c = λ past at.
    let old : TakenForm = form_of_taken c.args.self.now in
    let z = c.in_ok-eval-in-Commit.field-0 in
    let same : to_z w64 (of_z w64 z) ≡ z = search rules in
    let done : Effect = ends (committed (identifier z)) in (
      done,
      ap (λ (s : Statement). effect (scene_of c.args.scene.now) past (form_of_statement s)) c.in-Commit.is
          ∙ ap (option_map (λ z. ends (committed (identifier z)))) (c.in_ok-eval-in-Commit.ensures past.locals at.variables),
      by_parts _ (left_with old done) (same_bytes old) (same_spec old) (same_values old)
          (ap (map form_of_end) c.commit.ensures.items
          ∙ map-append form_of_end c.args.self.now.ends.items _
          ∙ ap (λ n. old.ends ++ committed n ∷ []) (c.identifier-id-in-Commit.ensures ∙ ap identifier same))
          (same_exit old),
      at_same past c.args.locals.now c.args.specs.now at,
    )

pub returns-in_ok-eval-in-Discard-clause-done : goal.returns-in_ok-eval-in-Discard-clause-done
returns-in_ok-eval-in-Discard-clause-done c = λ past at.
    let old : TakenForm = form_of_taken c.args.self.now in
    let z = c.in_ok-eval-in-Discard.field-0 in
    let same : to_z w64 (of_z w64 z) ≡ z = search rules in
    let done : Effect = ends (discarded (identifier z)) in (
      done,
      ap (λ (s : Statement). effect (scene_of c.args.scene.now) past (form_of_statement s)) c.in-Discard.is
          ∙ ap (option_map (λ z. ends (discarded (identifier z)))) (c.in_ok-eval-in-Discard.ensures past.locals at.variables),
      by_parts _ (left_with old done) (same_bytes old) (same_spec old) (same_values old)
          (ap (map form_of_end) c.discard.ensures.items
          ∙ map-append form_of_end c.args.self.now.ends.items _
          ∙ ap (λ n. old.ends ++ discarded n ∷ []) (c.identifier-id-in-Discard.ensures ∙ ap identifier same))
          (same_exit old),
      at_same past c.args.locals.now c.args.specs.now at,
    )
