-- What a clause left, dropped and committed is listed.
use Rattle.std.proofs.Common.{◌≡◌, ◌-◌, ◌==◌, [], if◌then◌else◌, map, refl, sym, ap, ap₂, ◌∙◌, subst}
use Rattle.dt_alone.specs.Happened.{dropped_of, only_attempts, only_drops, told_both, told_on}
use Rattle.dt_life.specs.Takings.{puts_in}
use Rattle.dt_alone.specs.declared.happened.Happened.TheVariants as happened
use Rattle.dt_alone.proofs.Bringing.{told_more, told_one}
use Rattle.dt_alone.proofs.Leaving.{clause_is}
use Rattle.dt_alone.proofs.Taken.{ends_left, ends_none, err_says, exit_left, exit_none, puts_left, puts_none, stands_in, taken_in}
use Rattle.dt_alone.proofs.Telling.{events_none, failed_tells, kept_after, left_tells, passed_tells, taking_tells}
use Rattle.dt_ecb.specs.Forms.{shapes_of}
use Rattle.dt_expr.specs.Scene.{scene_of}
use Rattle.dt_lang.specs.Program.{ClauseForm, form_of_clause}
use Rattle.dt_machine.specs.Context.{form_of_context}
use Rattle.dt_record.specs.Forms.{form_of_end, form_of_taken, outcome_of}
use Rattle.dt_record.specs.Taking.{ClauseTaken, is_abandoned, leaves, left_in}
use Rattle.dt_speculation.specs.History.{specs_then}
use Rattle.dt_speculation.specs.IsAt.{SpecsAt}
use Rattle.dt_life.specs.Aggregations.{split_by, uses_by}
use Rattle.dt_life.specs.Following.{taking_by}
use Rattle.dt_life.specs.Takings.{draws_of, ends_of, freed_by, parts_out}
use Rattle.dt_life.specs.TracingSteps.{past_of_steps, specs_of}
use Rattle.dt_alone.proofs.programs.Programs.take_one.Goals as goal

pub returns-in-Ok-None-clause-taken : goal.returns-in-Ok-None-clause-taken
returns-in-Ok-None-clause-taken c = λ options steps kept brings.
    let in_end = c.args.in_end in
    let m = form_of_context c.args.context.now in
    let shapes = shapes_of c.args.self.now.shapes in
    let clauses = c.args.self.now.clauses.items in
    let clause = c.index-clause.result.now in
    let ecb = c.args.ecb in
    let past = past_of_steps options steps in
    let t = taking_by c.args.in_end options steps (form_of_context c.args.context.now) (map form_of_clause c.args.self.now.clauses.items) c.args.ecb in
    let is = taken_in in_end options steps m clauses ecb clause c.requires.placed c.index-clause.ensures
    (scene_of c.scene_at-scene.result) c.scene_at-scene.ensures in
    let stands = stands_in in_end options steps m clauses ecb clause c.requires.placed c.index-clause.ensures
    (scene_of c.scene_at-scene.result) c.scene_at-scene.ensures c.taken-left.new.locals c.taken-left.new.specs
    (c.taken-left.ensures.stands (past_of_steps options steps) kept) in
    let v = c.saturating_sub.ensures ∙ ap₂ (λ a b. a - b) (c.drops.ensures.shows _ stands.variables)
    (c.drops-dropped.ensures.shows _ kept.variables) in
    let d = c.saturating_sub-2.ensures ∙ ap₂ (λ a b. a - b) (c.fails.ensures.shows _ stands.speculations)
    (c.fails-failed.ensures.shows _ kept.speculations) in
    let outcome = ap (λ (k : ClauseTaken). k.outcome) is ∙ c.in-Ok-None.ensures.left (past_of_steps options steps) kept
    ∙ ap outcome_of c.in-Ok-None.field-0-is in
    let none = ap left_in outcome in (
      kept_after options steps t c.taken-left.new.locals c.taken-left.new.specs stands.variables
          (subst (λ events. SpecsAt (specs_then (specs_then (specs_then (specs_of options steps) (draws_of t)) events) (freed_by (ends_of t)))
          c.taken-left.new.specs) (sym (puts_none t none))
          (subst (λ ends. SpecsAt (specs_then (specs_then (specs_then (specs_of options steps) (draws_of t)) []) (freed_by ends))
          c.taken-left.new.specs) (sym (ends_none t none))
          (subst (λ past. SpecsAt past c.taken-left.new.specs)
          (sym (events_none (specs_then (specs_then (specs_of options steps) (draws_of t)) [])
          ∙ events_none (specs_then (specs_of options steps) (draws_of t)))) stands.speculations))),
      λ on inside.
          let listed = c.in_ok-list_draws.ensures.told on
          ∙ ap (λ x. told_both x (only_drops 0 0 c.saturating_sub-2.result)) (c.in_ok-list_variables.ensures.told on
          ∙ ap (λ x. told_both x (only_drops (if m.firing.cpu == on then c.saturating_sub.result else 0) 0 0)) (brings on inside)) in
          listed
          ∙ sym (taking_tells options steps t on shapes
          ∙ passed_tells options steps t shapes on c.saturating_sub.result c.saturating_sub-2.result v d none _ (ap is_abandoned outcome)),
    )

pub returns-in-Ok-None-clause-exit : goal.returns-in-Ok-None-clause-exit
returns-in-Ok-None-clause-exit c = λ options steps kept.
    let in_end = c.args.in_end in
    let m = form_of_context c.args.context.now in
    let shapes = shapes_of c.args.self.now.shapes in
    let clauses = c.args.self.now.clauses.items in
    let clause = c.index-clause.result.now in
    let ecb = c.args.ecb in
    let past = past_of_steps options steps in
    let t = taking_by c.args.in_end options steps (form_of_context c.args.context.now) (map form_of_clause c.args.self.now.clauses.items) c.args.ecb in
    let is = taken_in in_end options steps m clauses ecb clause c.requires.placed c.index-clause.ensures
    (scene_of c.scene_at-scene.result) c.scene_at-scene.ensures in
    let outcome = ap (λ (k : ClauseTaken). k.outcome) is ∙ c.in-Ok-None.ensures.left (past_of_steps options steps) kept
    ∙ ap outcome_of c.in-Ok-None.field-0-is in
    sym (exit_none t (ap left_in outcome))

pub returns-in_ok-push-in-Err-DivZero-clause-taken : goal.returns-in_ok-push-in-Err-DivZero-clause-taken
returns-in_ok-push-in-Err-DivZero-clause-taken c = λ options steps kept brings.
    let in_end = c.args.in_end in
    let m = form_of_context c.args.context.now in
    let shapes = shapes_of c.args.self.now.shapes in
    let clauses = c.args.self.now.clauses.items in
    let clause = c.index-clause.result.now in
    let ecb = c.args.ecb in
    let past = past_of_steps options steps in
    let t = taking_by c.args.in_end options steps (form_of_context c.args.context.now) (map form_of_clause c.args.self.now.clauses.items) c.args.ecb in
    let is = taken_in in_end options steps m clauses ecb clause c.requires.placed c.index-clause.ensures
    (scene_of c.scene_at-scene.result) c.scene_at-scene.ensures in
    let stands = stands_in in_end options steps m clauses ecb clause c.requires.placed c.index-clause.ensures
    (scene_of c.scene_at-scene.result) c.scene_at-scene.ensures c.taken-left.new.locals c.taken-left.new.specs
    (c.taken-left.ensures.stands (past_of_steps options steps) kept) in
    let v = c.saturating_sub.ensures ∙ ap₂ (λ a b. a - b) (c.drops.ensures.shows _ stands.variables)
    (c.drops-dropped.ensures.shows _ kept.variables) in
    let d = c.saturating_sub-2.ensures ∙ ap₂ (λ a b. a - b) (c.fails.ensures.shows _ stands.speculations)
    (c.fails-failed.ensures.shows _ kept.speculations) in
    let outcome = ap (λ (k : ClauseTaken). k.outcome) is
    ∙ err_says c.taken-left.result c.in-Err-DivZero.field-0 _ _ c.in-Err-DivZero.is
    (c.taken-left.ensures.left (past_of_steps options steps) kept) in
    let none = ap left_in outcome in (
      kept_after options steps t c.taken-left.new.locals c.taken-left.new.specs stands.variables
          (subst (λ events. SpecsAt (specs_then (specs_then (specs_then (specs_of options steps) (draws_of t)) events) (freed_by (ends_of t)))
          c.taken-left.new.specs) (sym (puts_none t none))
          (subst (λ ends. SpecsAt (specs_then (specs_then (specs_then (specs_of options steps) (draws_of t)) []) (freed_by ends))
          c.taken-left.new.specs) (sym (ends_none t none))
          (subst (λ past. SpecsAt past c.taken-left.new.specs)
          (sym (events_none (specs_then (specs_then (specs_of options steps) (draws_of t)) [])
          ∙ events_none (specs_then (specs_of options steps) (draws_of t)))) stands.speculations))),
      λ on inside.
          let listed = c.in_ok-list_draws.ensures.told on
          ∙ ap (λ x. told_both x (only_drops 0 0 c.saturating_sub-2.result)) (c.in_ok-list_variables.ensures.told on
          ∙ ap (λ x. told_both x (only_drops (if m.firing.cpu == on then c.saturating_sub.result else 0) 0 0)) (brings on inside)) in
          ap (told_on on) c.in_ok-push-in-Err-DivZero.ensures.items ∙ told_more on c.list_draws.new.happened.items (happened.Failed m.firing.cpu)
          ∙ ap (λ x. told_both x (told_one on (happened.Failed m.firing.cpu))) listed
          ∙ sym (taking_tells options steps t on shapes
          ∙ failed_tells options steps t shapes on c.saturating_sub.result c.saturating_sub-2.result v d none _ (ap is_abandoned outcome)),
    )

pub returns-in_ok-push-in-Err-DivZero-clause-exit : goal.returns-in_ok-push-in-Err-DivZero-clause-exit
returns-in_ok-push-in-Err-DivZero-clause-exit c = λ options steps kept.
    let in_end = c.args.in_end in
    let m = form_of_context c.args.context.now in
    let shapes = shapes_of c.args.self.now.shapes in
    let clauses = c.args.self.now.clauses.items in
    let clause = c.index-clause.result.now in
    let ecb = c.args.ecb in
    let past = past_of_steps options steps in
    let t = taking_by c.args.in_end options steps (form_of_context c.args.context.now) (map form_of_clause c.args.self.now.clauses.items) c.args.ecb in
    let is = taken_in in_end options steps m clauses ecb clause c.requires.placed c.index-clause.ensures
    (scene_of c.scene_at-scene.result) c.scene_at-scene.ensures in
    let outcome = ap (λ (k : ClauseTaken). k.outcome) is
    ∙ err_says c.taken-left.result c.in-Err-DivZero.field-0 _ _ c.in-Err-DivZero.is
    (c.taken-left.ensures.left (past_of_steps options steps) kept) in
    sym (exit_none t (ap left_in outcome))

pub returns-in_ok-end_all-in-Ok-Some-clause-exit : goal.returns-in_ok-end_all-in-Ok-Some-clause-exit
returns-in_ok-end_all-in-Ok-Some-clause-exit c = λ options steps kept.
    let in_end = c.args.in_end in
    let m = form_of_context c.args.context.now in
    let shapes = shapes_of c.args.self.now.shapes in
    let clauses = c.args.self.now.clauses.items in
    let clause = c.index-clause.result.now in
    let ecb = c.args.ecb in
    let past = past_of_steps options steps in
    let t = taking_by c.args.in_end options steps (form_of_context c.args.context.now) (map form_of_clause c.args.self.now.clauses.items) c.args.ecb in
    let is = taken_in in_end options steps m clauses ecb clause c.requires.placed c.index-clause.ensures
    (scene_of c.scene_at-scene.result) c.scene_at-scene.ensures in
    let form = form_of_taken c.in-Ok-Some.taken in
    let some = ap (λ (k : ClauseTaken). k.outcome) is ∙ c.in-Ok-Some.ensures.left (past_of_steps options steps) kept
    ∙ ap outcome_of c.in-Ok-Some.field-0-is in
    sym (exit_left t form some)

pub returns-in_ok-end_all-in-Ok-Some-clause-taken : goal.returns-in_ok-end_all-in-Ok-Some-clause-taken
returns-in_ok-end_all-in-Ok-Some-clause-taken c = λ options steps kept brings.
    let in_end = c.args.in_end in
    let m = form_of_context c.args.context.now in
    let shapes = shapes_of c.args.self.now.shapes in
    let clauses = c.args.self.now.clauses.items in
    let clause = c.index-clause.result.now in
    let ecb = c.args.ecb in
    let past = past_of_steps options steps in
    let t = taking_by c.args.in_end options steps (form_of_context c.args.context.now) (map form_of_clause c.args.self.now.clauses.items) c.args.ecb in
    let is = taken_in in_end options steps m clauses ecb clause c.requires.placed c.index-clause.ensures
    (scene_of c.scene_at-scene.result) c.scene_at-scene.ensures in
    let stands = stands_in in_end options steps m clauses ecb clause c.requires.placed c.index-clause.ensures
    (scene_of c.scene_at-scene.result) c.scene_at-scene.ensures c.taken-left.new.locals c.taken-left.new.specs
    (c.taken-left.ensures.stands (past_of_steps options steps) kept) in
    let v = c.saturating_sub.ensures ∙ ap₂ (λ a b. a - b) (c.drops.ensures.shows _ stands.variables)
    (c.drops-dropped.ensures.shows _ kept.variables) in
    let d = c.saturating_sub-2.ensures ∙ ap₂ (λ a b. a - b) (c.fails.ensures.shows _ stands.speculations)
    (c.fails-failed.ensures.shows _ kept.speculations) in
    let form = form_of_taken c.in-Ok-Some.taken in
    let some : t.taken.outcome ≡ leaves (form_of_taken c.in-Ok-Some.taken) =
    ap (λ (k : ClauseTaken). k.outcome) is ∙ c.in-Ok-Some.ensures.left (past_of_steps options steps) kept
    ∙ ap outcome_of c.in-Ok-Some.field-0-is in
    let l = c.in_ok-left-in-Ok-Some.left in
    let there = m.firing.cpu in
    let drawn = specs_then (specs_of options steps) (draws_of t) in
    let put = specs_then drawn (puts_in there form) in
    let ends = ap (map form_of_end) c.deref.ensures.0 in
    let put_at = c.put_directed.ensures.stands drawn stands.speculations in
    let ended = c.in_ok-end_all-in-Ok-Some.ensures.stands put put_at in
    let given = c.in_ok-left-in-Ok-Some.ensures.given
    ∙ ap (λ (k : ClauseForm). split_by (uses_by shapes k.statements) form.values)
    (sym (clause_is in_end options steps m clauses ecb clause c.requires.placed c.index-clause.ensures)) in (
      kept_after options steps t c.taken-left.new.locals c.end_all.new.specs stands.variables
          (subst (λ events. SpecsAt (specs_then (specs_then (specs_then (specs_of options steps) (draws_of t)) events) (freed_by (ends_of t)))
          c.end_all.new.specs) (sym (puts_left t form some))
          (subst (λ list. SpecsAt (specs_then (specs_then (specs_then (specs_of options steps) (draws_of t)) (puts_in there form)) (freed_by list))
          c.end_all.new.specs) (ends ∙ sym (ends_left t form some)) ended)),
      λ on inside.
          let listed = c.in_ok-list_draws.ensures.told on
          ∙ ap (λ x. told_both x (only_drops 0 0 c.saturating_sub-2.result)) (c.in_ok-list_variables.ensures.told on
          ∙ ap (λ x. told_both x (only_drops (if m.firing.cpu == on then c.saturating_sub.result else 0) 0 0)) (brings on inside)) in
          let x = happened.Left there in_end l in
          c.in_ok-end_all-in-Ok-Some.ensures.told put put_at on inside
          ∙ ap (λ list. told_both (told_on on c.put_directed.new.happened.items) (only_attempts in_end (parts_out on put list))) ends
          ∙ ap (λ y. told_both y (only_attempts in_end (parts_out on put form.ends)))
          (c.in_ok-put_directed-in-Ok-Some.ensures.told drawn stands.speculations on
          ∙ ap (λ y. told_both y (only_drops 0 (dropped_of on drawn (puts_in there form)) 0))
          (ap (told_on on) c.in_ok-push-in-Ok-Some.ensures.items ∙ told_more on c.list_draws.new.happened.items x
          ∙ ap (λ y. told_both y (told_one on x)) listed))
          ∙ sym (taking_tells options steps t on shapes
          ∙ left_tells options steps t shapes on c.saturating_sub.result c.saturating_sub-2.result v d form l in_end some refl refl
          c.in_ok-left-in-Ok-Some.ensures.bytes given _),
    )
