-- What a clause that is taken leaves.
use Rattle.std.proofs.Common.{◌≡◌, ℕ, ℤ, pos, ◌+◌, ◌<◌, Bool, List, [], ◌∷◌, ◌++◌, length, get_or}
use Rattle.std.proofs.Common.{map, take, drop, Option, Some, None, refl, sym, ap, ◌∙◌}
use Rattle.std.proofs.lemmas.List.{append-nil, get_or-drop, length-map, map-append, take_more}
use Rattle.dt_aggstore.specs.History as store
use Rattle.dt_aggstore.specs.declared.key.Aggregation.{Aggregation}
use Rattle.dt_aggstore.specs.declared.key.KeyPart.{KeyPart}
use Rattle.dt_ecb.specs.Shapes.{ShapeForm}
use Rattle.dt_ecb.specs.declared.parts.Ecb.{Ecb}
use Rattle.dt_expr.specs.declared.text.Value.{Value}
use Rattle.dt_expr.specs.declared.text.Value.TheVariants as val
use Rattle.dt_lang.specs.Program.{ClauseForm, form_of_argument, form_of_clause, form_of_statement}
use Rattle.dt_program.specs.declared.clause.Clause.{Clause}
use Rattle.dt_program.specs.declared.clause.AggregationUse as program
use Rattle.dt_program.specs.declared.clause.Statement.{Statement}
use Rattle.dt_program.specs.declared.clause.Statement.TheVariants.{Aggregate, Assign, Commit, Discard, Draw, Exit, Speculate, Stack, Trace, Ustack}
use Rattle.dt_record.specs.Taking.{taking}
use Rattle.dt_machine.specs.Context.{ContextForm}
use Rattle.dt_life.specs.Aggregations.{aggregation_of, number_given}
use Rattle.dt_life.specs.Following.{taking_by}
use Rattle.dt_life.specs.Options.{OptionsForm}
use Rattle.dt_life.specs.Takings.{scene_at}
use Rattle.dt_life.specs.TracingSteps.{TracingStep, past_of_steps}
use Rattle.dt_life.specs.Aggregations.{UseForm, contribution_at, key_at, number_at, split_by, use_by, uses_by}
use Rattle.dt_life.specs.laws.Giving.{span, span_more, split_more, uses_more}
use Rattle.dt_life.specs.laws.Takings.{clause_found}

-- the clause of an ECB that is kept by its place
module _ (in_end : Bool) (options : OptionsForm) (steps : List TracingStep) (m : ContextForm) (clauses : List Clause) (ecb : Ecb)
    (clause : Clause) (inside : ecb.clause < length clauses) (at : clause ≡ get_or clauses ecb.clause clause) where
  pub clause_is : (taking_by in_end options steps m (map form_of_clause clauses) ecb).ecb.clause ≡ form_of_clause clause
  clause_is = clause_found clauses ecb.clause clause inside at

  pub taken_is : (taking_by in_end options steps m (map form_of_clause clauses) ecb).taken
      ≡ taking ecb.epid (scene_at m ecb.epid) (past_of_steps options steps) (form_of_clause clause)
  taken_is = ap (λ (c : ClauseForm). taking ecb.epid (scene_at m ecb.epid) (past_of_steps options steps) c)
      (clause_found clauses ecb.clause clause inside at)

-- the uses of the first statements, and of one more
module _ (shapes : List ShapeForm) (statements : List Statement) (i : ℕ) (s : Statement)
    (inside : i < length statements) (at : s ≡ get_or statements i s) (values : List Value) where
  abbrev uses_to : ℕ → List UseForm
  uses_to n = uses_by shapes (map form_of_statement (take n statements))

  uses_step : uses_to (i + 1) ≡ uses_to i ++ use_by shapes (form_of_statement s)
  uses_step =
      ap (λ xs. uses_by shapes (map form_of_statement xs))
      (take_more statements i s inside ∙ ap (λ x. take i statements ++ x ∷ []) (sym at))
      ∙ ap (uses_by shapes) (map-append form_of_statement (take i statements) (s ∷ []))
      ∙ uses_more shapes (map form_of_statement (take i statements)) (form_of_statement s)

  -- a statement that gives nothing
  pub split_same : use_by shapes (form_of_statement s) ≡ []
      → split_by (uses_to (i + 1)) values ≡ split_by (uses_to i) values
  split_same none =
      ap (λ us. split_by us values) (uses_step ∙ ap (λ us. uses_to i ++ us) none ∙ append-nil (uses_to i))

  pub span_same : use_by shapes (form_of_statement s) ≡ [] → span (uses_to (i + 1)) ≡ span (uses_to i)
  span_same none = ap span (uses_step ∙ ap (λ us. uses_to i ++ us) none ∙ append-nil (uses_to i))

  -- one that gives, or would
  pub split_one : (one : UseForm) → use_by shapes (form_of_statement s) ≡ one ∷ []
      → split_by (uses_to (i + 1)) values
      ≡ split_by (uses_to i) values ++ contribution_at one (drop (span (uses_to i)) values)
  split_one one is =
      ap (λ us. split_by us values) (uses_step ∙ ap (λ us. uses_to i ++ us) is) ∙ split_more (uses_to i) one values

  pub span_one : (one : UseForm) → use_by shapes (form_of_statement s) ≡ one ∷ []
      → span (uses_to (i + 1)) ≡ span (uses_to i) + (one.1 + 1)
  span_one one is = ap span (uses_step ∙ ap (λ us. uses_to i ++ us) is) ∙ span_more (uses_to i) one

-- what one use gives, with the keys and the number that lie there
pub given_one : (a : Aggregation) (o : Option Aggregation) (keys place : ℕ) (values : List Value)
    (parts : List KeyPart) (z : ℤ) → o ≡ Some a → parts ≡ key_at keys (drop place values)
    → z ≡ number_at values (place + keys)
    → contribution_at (o, keys) (drop place values) ≡ store.given a parts z ∷ []
given_one a o keys place values parts z is own number =
    ap (λ x. contribution_at (x, keys) (drop place values)) is
    ∙ ap (λ ks. store.given a ks (number_at (drop place values) keys) ∷ []) (sym own)
    ∙ ap (λ n. store.given a parts n ∷ [])
    (ap number_given (get_or-drop place values keys (val.Number (pos 0))) ∙ sym number)

pub given_none : (o : Option Aggregation) (keys : ℕ) (values : List Value) → o ≡ None
    → contribution_at (o, keys) values ≡ []
given_none o keys values is = ap (λ x. contribution_at (x, keys) values) is

-- a statement that aggregates
module _ (shapes : List ShapeForm) (statements : List Statement) (i : ℕ) (s : Statement)
    (inside : i < length statements) (at : s ≡ get_or statements i s) (values : List Value) (a : program.AggregationUse)
    (is : s ≡ Aggregate a) (place : ℕ)
    (there : place ≡ span (uses_by shapes (map form_of_statement (take i statements)))) where
  use_is : use_by shapes (form_of_statement s) ≡ (aggregation_of shapes a.name, length a.keys.items) ∷ []
  use_is =
      ap (λ x. use_by shapes (form_of_statement x)) is
      ∙ ap (λ n. (aggregation_of shapes a.name, n) ∷ []) (length-map a.keys.items form_of_argument)

  pub split_step : split_by (uses_by shapes (map form_of_statement (take (i + 1) statements))) values
      ≡ split_by (uses_by shapes (map form_of_statement (take i statements))) values
      ++ contribution_at (aggregation_of shapes a.name, length a.keys.items) (drop place values)
  split_step =
      split_one shapes statements i s inside at values _ use_is
      ∙ ap (λ n. split_by (uses_by shapes (map form_of_statement (take i statements))) values
      ++ contribution_at (aggregation_of shapes a.name, length a.keys.items) (drop n values)) (sym there)

  pub span_step : place + (length a.keys.items + 1)
      ≡ span (uses_by shapes (map form_of_statement (take (i + 1) statements)))
  span_step =
      ap (λ n. n + (length a.keys.items + 1)) there ∙ sym (span_one shapes statements i s inside at values _ use_is)

-- one that does not
pub other_use : (shapes : List ShapeForm) (s : Statement) → ((a : program.AggregationUse) → s ≡ Aggregate a → ⊥)
    → use_by shapes (form_of_statement s) ≡ []
other_use shapes (Trace a) none = refl
other_use shapes (Stack n) none = refl
other_use shapes (Ustack n) none = refl
other_use shapes (Exit e) none = refl
other_use shapes (Aggregate a) none = absurd (none a refl)
other_use shapes (Assign name e) none = refl
other_use shapes (Draw name) none = refl
other_use shapes (Speculate e) none = refl
other_use shapes (Commit e) none = refl
other_use shapes (Discard e) none = refl
