-- Clauses whose statements are all of one kind, and so do nothing but what that kind does: here those of which nothing is assigned, drawn,
-- ended or exited.
use Rattle.std.proofs.Common.{◌≡◌, ℕ, Bool, true, false, ◌&&◌, if◌then◌else◌, List, [], ◌∷◌, ◌++◌, Option, Some, None, ℤ, length, refl, ap, ◌∙◌, arith}
use Rattle.std.specs.List.{flat_map, list_all}
use Rattle.std.specs.Option.{option_map, option_map_or, option_or}
use Rattle.std.specs.Prelude.{⊤, nat_lt}
use Rattle.std.proofs.lemmas.Bool.{ltb-true}
use Rattle.dt_expr.specs.Operators.{holds}
use Rattle.dt_expr.specs.Scene.{SceneForm}
use Rattle.dt_program.specs.Clause.{ClauseForm, StatementForm}
use Rattle.dt_record.specs.Pasts.{TracingPast}
use Rattle.dt_record.specs.Taking.{Effect, Outcome, abandoned, assigned_by, drawn_by, effect, effect_exit, effect_spec, ended_by, first_some, leaves}
use Rattle.dt_record.specs.Taking.{not_performed, passed_over, past_with, perform, performed, predicate_value, taken_of, taking}

pub both : (a b : Bool) → a ≡ true → b ≡ true → (a && b) ≡ true
both true b x y = y
both false b x y = x

pub first_of : (a b : Bool) → (a && b) ≡ true → a ≡ true
first_of true b h = refl
first_of false b h = h

pub second_of : (a b : Bool) → (a && b) ≡ true → b ≡ true
second_of true b h = h
second_of false b h = cc

-- ---- what effects of one kind don't have

pub none_listed : {A : Type 0} (is : Effect → Bool) (f : Effect → List A) → ((e : Effect) → is e ≡ true → f e ≡ [])
    → (effects : List Effect) → list_all is effects ≡ true → flat_map f effects ≡ []
none_listed is f none [] h = refl
none_listed is f none (e ∷ later) h =
    ap (λ xs. xs ++ flat_map f later) (none e (first_of (is e) (list_all is later) h))
    ∙ none_listed is f none later (second_of (is e) (list_all is later) h)

pub none_first : {A : Type 0} (is : Effect → Bool) (f : Effect → Option A) → ((e : Effect) → is e ≡ true → f e ≡ None)
    → (effects : List Effect) → list_all is effects ≡ true → first_some f effects ≡ None
none_first is f none [] h = refl
none_first is f none (e ∷ later) h =
    ap (λ o. option_or o (first_some f later)) (none e (first_of (is e) (list_all is later) h))
    ∙ none_first is f none later (second_of (is e) (list_all is later) h)

-- ---- what comes of a clause

-- it directs no record to a speculation, ends none, and doesn't exit
abbrev pub IsBare : Outcome → Type 0
IsBare abandoned = ⊤
IsBare passed_over = ⊤
IsBare (leaves form) = (form.spec ≡ None) × (form.ends ≡ []) × (form.exit ≡ None)

-- an effect that neither directs, ends, exits, assigns nor draws
abbrev pub IsBareEffect : Effect → Type 0
IsBareEffect e = (effect_spec e ≡ None) × (ended_by e ≡ []) × (effect_exit e ≡ None) × (assigned_by e ≡ []) × (drawn_by e ≡ [])

-- where its predicate holds and no division by zero is evaluated, it leaves what all its statements do
pub wholly_taken : (epid : ℕ) (scene : SceneForm) (past : TracingPast) (clause : ClauseForm)
    → option_map holds (predicate_value scene past.locals clause.predicate) ≡ Some true
    → length (perform scene past clause.statements) ≡ length clause.statements
    → (taking epid scene past clause).outcome ≡ leaves (taken_of epid clause.statements (perform scene past clause.statements))
wholly_taken epid scene past clause held many = by_predicate (predicate_value scene past.locals clause.predicate) held
  where
    effects : List Effect
    effects = perform scene past clause.statements

    by_many : (b : Bool) → nat_lt (length effects) (length clause.statements) ≡ b
        → (if b then abandoned else leaves (taken_of epid clause.statements effects))
        ≡ leaves (taken_of epid clause.statements effects)
    by_many true less = absurd (omega (arith, ltb-true (length effects) (length clause.statements) less, many))
    by_many false less = refl

    by_holding : (b : Bool) → b ≡ true
        → (if b then performed epid clause.statements effects else not_performed passed_over).outcome
        ≡ leaves (taken_of epid clause.statements effects)
    by_holding true is = by_many (nat_lt (length effects) (length clause.statements)) refl
    by_holding false is = cc

    by_predicate : (o : Option ℤ) → option_map holds o ≡ Some true
        → (option_map_or (λ z. if holds z then performed epid clause.statements effects else not_performed passed_over) o
        (not_performed abandoned)).outcome
        ≡ leaves (taken_of epid clause.statements effects)
    by_predicate None is = cc
    by_predicate (Some z) is = let one : holds z ≡ true = cc in by_holding (holds z) one

-- statements of one kind, each of which has an effect of one kind
module _ (kind : StatementForm → Bool) (is : Effect → Bool)
    (does : (scene : SceneForm) (past : TracingPast) (statement : StatementForm) → kind statement ≡ true
    → (e : Effect) → effect scene past statement ≡ Some e → is e ≡ true) where
  -- all that they do is of it
  pub all_do : (scene : SceneForm) (statements : List StatementForm) (past : TracingPast) → list_all kind statements ≡ true
      → list_all is (perform scene past statements) ≡ true
  all_do scene [] past h = refl
  all_do scene (statement ∷ later) past h = by_effect (effect scene past statement) refl
      (λ e. all_do scene later (past_with past (e ∷ [])) (second_of (kind statement) (list_all kind later) h))
    where
      by_effect : (o : Option Effect) → effect scene past statement ≡ o
          → ((e : Effect) → list_all is (perform scene (past_with past (e ∷ [])) later) ≡ true)
          → list_all is (option_map_or (λ e. e ∷ perform scene (past_with past (e ∷ [])) later) o []) ≡ true
      by_effect None e rest = refl
      by_effect (Some e) found rest =
          both (is e) (list_all is (perform scene (past_with past (e ∷ [])) later))
          (does scene past statement (first_of (kind statement) (list_all kind later) h) e found) (rest e)

  -- a clause of such statements
  module _ (epid : ℕ) (scene : SceneForm) (past : TracingPast) (clause : ClauseForm)
      (h : list_all kind clause.statements ≡ true) where
    abbrev effects : List Effect
    effects = perform scene past clause.statements

    -- it does nothing of what those effects don't
    pub bare_does : {A : Type 0} (f : Effect → List A) → ((e : Effect) → is e ≡ true → f e ≡ [])
        → flat_map f (taking epid scene past clause).effects ≡ []
    bare_does f none = by_predicate (predicate_value scene past.locals clause.predicate)
      where
        by_holding : (b : Bool) → flat_map f (if b then performed epid clause.statements effects
            else not_performed passed_over).effects ≡ []
        by_holding true = none_listed is f none effects (all_do scene clause.statements past h)
        by_holding false = refl

        by_predicate : (o : Option ℤ) → flat_map f (option_map_or
            (λ z. if holds z then performed epid clause.statements effects else not_performed passed_over) o
            (not_performed abandoned)).effects ≡ []
        by_predicate None = refl
        by_predicate (Some z) = by_holding (holds z)

    pub bare_outcome : ((e : Effect) → is e ≡ true → IsBareEffect e) → IsBare (taking epid scene past clause).outcome
    bare_outcome bare = by_predicate (predicate_value scene past.locals clause.predicate)
      where
        are : list_all is effects ≡ true
        are = all_do scene clause.statements past h

        by_many : (b : Bool) → IsBare (if b then abandoned else leaves (taken_of epid clause.statements effects))
        by_many true = tt
        by_many false = (
          none_first is effect_spec (λ e k. (bare e k).0) effects are,
          none_listed is ended_by (λ e k. (bare e k).1) effects are,
          none_first is effect_exit (λ e k. (bare e k).2) effects are,
        )

        by_holding : (b : Bool)
            → IsBare (if b then performed epid clause.statements effects else not_performed passed_over).outcome
        by_holding true = by_many (nat_lt (length effects) (length clause.statements))
        by_holding false = tt

        by_predicate : (o : Option ℤ) → IsBare (option_map_or
            (λ z. if holds z then performed epid clause.statements effects else not_performed passed_over) o
            (not_performed abandoned)).outcome
        by_predicate None = tt
        by_predicate (Some z) = by_holding (holds z)
