-- What statements assign has 64 bits with a sign, and so variables stay within bounds.
use Rattle.std.proofs.Common.{◌≡◌, ℕ, ◌≤◌, ⊎_elim, Bool, true, false, cond, List, [], ◌∷◌, ◌++◌, Option, Some, None, ℤ, pos}
use Rattle.std.proofs.Common.{refl, sym, subst, arith, lit<, FitsSigned, if◌then◌else◌}
use Rattle.std.proofs.lemmas.List.{append-nil, append_assoc}
use Rattle.std.specs.Int.{w64}
use Rattle.std.specs.List.{AllByRecursion, flat_map}
use Rattle.std.specs.Option.{option_map, option_map_or}
use Rattle.dt_expr.specs.Form.{Form}
use Rattle.dt_expr.specs.Operators.{holds}
use Rattle.dt_expr.specs.Scene.{SceneForm}
use Rattle.dt_expr.specs.Value.{value}
use Rattle.dt_locals.specs.Chosen.{value_after}
use Rattle.dt_locals.specs.History.{Assignment, LocalsPast, locals_after, locals_then, new_locals_past, same_local}
use Rattle.dt_locals.specs.laws.After.{Gives, Kept, fresh_value, value_more}
use Rattle.dt_program.specs.Clause.{ClauseForm, StatementForm}
use Rattle.dt_program.specs.Clause as program
use Rattle.dt_speculation.specs.Answers.{AllInUse, IsLeastFree}
use Rattle.dt_speculation.specs.History.{SpecPast}
use Rattle.dt_speculation.specs.Limits.{nspec_max}
use Rattle.dt_speculation.specs.Parts.{draw_answer}
use Rattle.dt_speculation.specs.laws.Parts.{draw_answers}
use Rattle.dt_record.specs.Pasts.{TracingPast}
use Rattle.dt_record.specs.Showing.{AreLocalsInBounds, CanBeTaken, IsExpressionInBounds, IsSceneInBounds, IsStatementInBounds}
use Rattle.dt_record.specs.Taking.{Effect, abandoned, assigned_by, assigns, committed, discarded, ends, exits, records}
use Rattle.dt_record.specs.Taking.{argument_value, assignment_in, draw_effect, each, effect, frames_bytes, given, identifier}
use Rattle.dt_record.specs.Taking.{not_performed, passed_over, past_with, perform, performed, predicate_value, speculates}
use Rattle.dt_record.specs.Taking.{taking, value_bytes}
use Rattle.dt_record.specs.laws.Numbers.{value_fits}
use Rattle.dt_record.specs.laws.Performing.{does_with, gives_with}

abbrev Has64Bits : ℤ → Type 0
Has64Bits z = FitsSigned w64 z

abbrev pub AllFit : List Assignment → Type 0
AllFit assignments = AllByRecursion (λ (a : Assignment). FitsSigned w64 a.value) assignments

zero_fits : Has64Bits (pos 0)
zero_fits = record { sfits = lit< tt }

-- ---- variables after assignments

one_fits : (b : Bool) (x y : ℤ) → Has64Bits x → Has64Bits y → Has64Bits (cond b x y)
one_fits true x y f g = f
one_fits false x y f g = g

bounds_one : (locals : LocalsPast) → AreLocalsInBounds locals → (assignment : Assignment) → Has64Bits assignment.value
    → AreLocalsInBounds (locals_after locals assignment)
bounds_one locals within assignment fits variable =
    subst Has64Bits (sym (value_more locals assignment variable))
    (one_fits (same_local assignment.variable variable) (Gives locals assignment (Kept locals assignment))
    (value_after locals variable)
    (one_fits (Kept locals assignment) assignment.value (pos 0) fits zero_fits) (within variable))

pub bounds_then : (assignments : List Assignment) (locals : LocalsPast) → AreLocalsInBounds locals → AllFit assignments
    → AreLocalsInBounds (locals_then locals assignments)
bounds_then [] locals within all =
    subst (λ l. AreLocalsInBounds (record { dynvarsize = locals.dynvarsize; assignments = l }))
    (sym (append-nil locals.assignments)) within
bounds_then (assignment ∷ assignments) locals within all =
    subst (λ l. AreLocalsInBounds (record { dynvarsize = locals.dynvarsize; assignments = l }))
    (append_assoc locals.assignments (assignment ∷ []) assignments)
    (bounds_then assignments (locals_after locals assignment) (bounds_one locals within assignment all.0) all.1)

-- variables to which only numbers of 64 bits were assigned
pub bounds_of : (locals : LocalsPast) → AllFit locals.assignments → AreLocalsInBounds locals
bounds_of locals all =
    bounds_then locals.assignments (new_locals_past locals.dynvarsize)
    (λ variable. subst Has64Bits (sym (fresh_value locals.dynvarsize variable)) zero_fits) all

pub all_fit-append : (first later : List Assignment) → AllFit first → AllFit later → AllFit (first ++ later)
all_fit-append [] later all more = more
all_fit-append (assignment ∷ first) later all more = (all.0, all_fit-append first later all.1 more)

-- ---- what a statement assigns

-- a draw answers one of the identifiers, or 0
answer_few : (past : SpecPast) → draw_answer past ≤ past.nspec
answer_few past = ⊎_elim
    (λ (least : IsLeastFree past.nspec past.events (draw_answer past)). least.to)
    (λ (none : (draw_answer past ≡ 0) × AllInUse past.nspec past.events). omega (arith, none.0))
    (draw_answers past)

abbrev AssignsFit : Effect → Type 0
AssignsFit done = AllFit (assigned_by done)

module _ (scene : SceneForm) (is : IsSceneInBounds scene) where
  assigned_number : (past : TracingPast) → AreLocalsInBounds past.locals → (name : List ℕ) (f : Form) (done : Effect)
      → IsExpressionInBounds f → (o : Option ℤ) → o ≡ value scene past.locals f
      → option_map (λ z. assigns (assignment_in scene name z)) o ≡ Some done → AssignsFit done
  assigned_number past within name f done right None is_o e = cc
  assigned_number past within name f done right (Some z) is_o e =
      let got : assigns (assignment_in scene name z) ≡ done = cc in
      subst AssignsFit got (value_fits scene is past.locals within f right z (sym is_o), tt)

  assigned_fit : (past : TracingPast) (statement : StatementForm) (done : Effect) → AreLocalsInBounds past.locals
      → past.specs.nspec ≤ nspec_max → IsStatementInBounds statement → effect scene past statement ≡ Some done
      → AssignsFit done
  assigned_fit past (program.trace a) done within few right e =
      does_with AssignsFit (argument_value scene past.locals a) (λ v. records (value_bytes v)) done (λ v. tt) e
  assigned_fit past (program.stack n) done within few right e =
      let got : records (frames_bytes n scene.firing.kstack) ≡ done = cc in subst AssignsFit got tt
  assigned_fit past (program.ustack n) done within few right e =
      let got : records (frames_bytes n scene.firing.ustack) ≡ done = cc in subst AssignsFit got tt
  assigned_fit past (program.exit f) done within few right e =
      does_with AssignsFit (value scene past.locals f) exits done (λ z. tt) e
  assigned_fit past (program.aggregate name keys call) done within few right e =
      gives_with AssignsFit (each (argument_value scene past.locals) keys) (given scene past.locals call) done (λ vs. tt) e
  assigned_fit past (program.assign name f) done within few right e =
      assigned_number past within name f done right (value scene past.locals f) refl e
  assigned_fit past (program.draw name) done within few right e =
      let got : draw_effect scene past name ≡ done = cc in
      subst AssignsFit got (record { sfits = omega (arith, few, answer_few past.specs) }, tt)
  assigned_fit past (program.speculate f) done within few right e =
      does_with AssignsFit (value scene past.locals f) (λ z. speculates (identifier z)) done (λ z. tt) e
  assigned_fit past (program.commit f) done within few right e =
      does_with AssignsFit (value scene past.locals f) (λ z. ends (committed (identifier z))) done (λ z. tt) e
  assigned_fit past (program.discard f) done within few right e =
      does_with AssignsFit (value scene past.locals f) (λ z. ends (discarded (identifier z))) done (λ z. tt) e

  -- the variables are within bounds after it
  pub bounds_after : (past : TracingPast) (statement : StatementForm) (done : Effect) → AreLocalsInBounds past.locals
      → past.specs.nspec ≤ nspec_max → IsStatementInBounds statement → effect scene past statement ≡ Some done
      → AreLocalsInBounds (past_with past (done ∷ [])).locals
  bounds_after past statement done within few right e =
      bounds_then (assigned_by done ++ []) past.locals within
      (subst AllFit (sym (append-nil (assigned_by done))) (assigned_fit past statement done within few right e))

  -- ---- what statements assign, up to a division by zero

  fit_of : (o : Option Effect) (later : Effect → List Effect)
      → ((e : Effect) → o ≡ Some e → AssignsFit e × AllFit (flat_map assigned_by (later e)))
      → AllFit (flat_map assigned_by (option_map_or (λ e. e ∷ later e) o []))
  fit_of None later all = tt
  fit_of (Some e) later all =
      let got = all e refl in all_fit-append (assigned_by e) (flat_map assigned_by (later e)) got.0 got.1

  performed_fit : (statements : List StatementForm) (past : TracingPast) → AreLocalsInBounds past.locals
      → past.specs.nspec ≤ nspec_max → AllByRecursion IsStatementInBounds statements
      → AllFit (flat_map assigned_by (perform scene past statements))
  performed_fit [] past within few right = tt
  performed_fit (statement ∷ statements) past within few right =
      fit_of (effect scene past statement) (λ e. perform scene (past_with past (e ∷ [])) statements)
      (λ e does. (
        assigned_fit past statement e within few right.0 does,
        performed_fit statements (past_with past (e ∷ [])) (bounds_after past statement e within few right.0 does) few right.1,
      ))

-- ---- what a clause assigns

taken_fit : (p : Option ℤ) (epid : ℕ) (statements : List StatementForm) (all : List Effect) → AllFit (flat_map assigned_by all)
    → AllFit (flat_map assigned_by (option_map_or
    (λ z. if holds z then performed epid statements all else not_performed passed_over) p (not_performed abandoned)).effects)
taken_fit None epid statements all fit = tt
taken_fit (Some z) epid statements all fit = where_held (holds z)
  where
    where_held : (b : Bool)
        → AllFit (flat_map assigned_by (if b then performed epid statements all else not_performed passed_over).effects)
    where_held true = fit
    where_held false = tt

pub taking_fit : (epid : ℕ) (scene : SceneForm) (past : TracingPast) (clause : ClauseForm) → CanBeTaken scene past clause
    → AllFit (flat_map assigned_by (taking epid scene past clause).effects)
taking_fit epid scene past clause can =
    taken_fit (predicate_value scene past.locals clause.predicate) epid clause.statements
    (perform scene past clause.statements)
    (performed_fit scene can.scene_in_bounds clause.statements past can.locals_in_bounds can.few_identifiers
    can.statements_in_bounds)

-- the variables are within bounds after it
pub taking_bounds : (epid : ℕ) (scene : SceneForm) (past : TracingPast) (clause : ClauseForm) → CanBeTaken scene past clause
    → AreLocalsInBounds (past_with past (taking epid scene past clause).effects).locals
taking_bounds epid scene past clause can =
    bounds_then (flat_map assigned_by (taking epid scene past clause).effects) past.locals can.locals_in_bounds
    (taking_fit epid scene past clause can)
