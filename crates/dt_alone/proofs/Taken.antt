-- What is taken of an ECB that is kept by the place of its clause.
use Rattle.std.proofs.Common.{◌≡◌, ◌<◌, Bool, List, [], Option, Some, None, Result, Ok, Err, get_or, length, map, sym, ap, ◌∙◌, subst}
use Rattle.std.specs.Option.{option_and_then, option_map, option_map_or, option_to_list}
use Rattle.std.specs.Result.{MatchResult}
use Rattle.dt_ecb.specs.declared.parts.Ecb.{Ecb}
use Rattle.dt_expr.specs.Scene.{SceneForm}
use Rattle.dt_lang.specs.Program.{form_of_clause}
use Rattle.dt_locals.specs.declared.locals.Locals.{Locals}
use Rattle.dt_machine.specs.Context.{ContextForm}
use Rattle.dt_program.specs.declared.clause.Clause.{Clause}
use Rattle.dt_record.specs.Taking.{ClauseTaken, Effect, TakenForm, leaves, left_in, past_with, taking}
use Rattle.dt_record.specs.TracingAt.{TracingAt}
use Rattle.dt_speculation.specs.History.{put_under}
use Rattle.dt_speculation.specs.declared.speculations.Specs.{Specs}
use Rattle.dt_life.specs.Takings.{puts_in}
use Rattle.dt_alone.proofs.Leaving.{taken_is}
use Rattle.dt_life.specs.Following.{taking_by}
use Rattle.dt_life.specs.Options.{OptionsForm}
use Rattle.dt_life.specs.Takings.{Taking, cpu_of, ends_of, exit_of, left_by, puts_of, scene_at}
use Rattle.dt_life.specs.TracingSteps.{TracingStep, past_of_steps}

module _ (in_end : Bool) (options : OptionsForm) (steps : List TracingStep) (m : ContextForm) (clauses : List Clause) (ecb : Ecb)
    (clause : Clause) (inside : ecb.clause < length clauses) (at : clause ≡ get_or clauses ecb.clause clause) (scene : SceneForm)
    (scene_is : scene ≡ scene_at m ecb.epid) where
  pub taken_in : (taking_by in_end options steps m (map form_of_clause clauses) ecb).taken
      ≡ taking ecb.epid scene (past_of_steps options steps) (form_of_clause clause)
  taken_in =
      taken_is in_end options steps m clauses ecb clause inside at
      ∙ ap (λ (s : SceneForm). taking ecb.epid s (past_of_steps options steps) (form_of_clause clause)) (sym scene_is)

  pub stands_in : (locals : Locals) (specs : Specs)
      → TracingAt (past_with (past_of_steps options steps)
      (taking ecb.epid scene (past_of_steps options steps) (form_of_clause clause)).effects) locals specs
      → TracingAt (past_with (past_of_steps options steps)
      (taking_by in_end options steps m (map form_of_clause clauses) ecb).taken.effects) locals specs
  stands_in locals specs h =
      subst (λ (effects : List Effect). TracingAt (past_with (past_of_steps options steps) effects) locals specs)
      (sym (ap (λ (k : ClauseTaken). k.effects) taken_in)) h

-- what an error says
pub err_says : {A E : Type 0} (r : Result A E) (e : E) (P : A → Type 0) (Q : Type 0) → r ≡ Err e → MatchResult r P (λ _. Q) → Q
err_says (Ok x) e P Q is h = cc
err_says (Err x) e P Q is h = h

-- a taking that left something
module _ (t : Taking) (form : TakenForm) (some : t.taken.outcome ≡ leaves form) where
  pub left_is : left_by t ≡ Some form
  left_is = ap left_in some

  pub puts_left : puts_of t ≡ puts_in (cpu_of t) form
  puts_left = ap (λ (o : Option TakenForm). option_to_list (option_and_then
      (λ (form : TakenForm). option_and_then (λ id. option_map (put_under id (cpu_of t)) form.record_bytes) form.spec) o)) left_is

  pub ends_left : ends_of t ≡ form.ends
  ends_left = ap (λ (o : Option TakenForm). option_map_or (λ (form : TakenForm). form.ends) o []) left_is

  pub exit_left : exit_of t ≡ form.exit
  exit_left = ap (λ (o : Option TakenForm). option_and_then (λ (form : TakenForm). form.exit) o) left_is

-- one that left nothing
module _ (t : Taking) (none : left_by t ≡ None) where
  pub puts_none : puts_of t ≡ []
  puts_none = ap (λ (o : Option TakenForm). option_to_list (option_and_then
      (λ (form : TakenForm). option_and_then (λ id. option_map (put_under id (cpu_of t)) form.record_bytes) form.spec) o)) none

  pub ends_none : ends_of t ≡ []
  ends_none = ap (λ (o : Option TakenForm). option_map_or (λ (form : TakenForm). form.ends) o []) none

  pub exit_none : exit_of t ≡ None
  exit_none = ap (λ (o : Option TakenForm). option_and_then (λ (form : TakenForm). form.exit) o) none
