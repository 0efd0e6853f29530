-- Statements that are performed, one after another: the first before the others, and one more after them.
use Rattle.std.proofs.Common.{◌≡◌, ℕ, suc, ◌≤◌, ℤ, Bool, true, false, if◌then◌else◌, List, [], ◌∷◌, ◌++◌, Option, Some, None, length, refl, sym, ap, subst, ◌∙◌, arith}
use Rattle.std.specs.Prelude.{nat_lt}
use Rattle.std.proofs.lemmas.Bool.{ltb-false}
use Rattle.std.proofs.lemmas.Grind.{flat_map-append}
use Rattle.std.proofs.lemmas.List.{append-nil, append_assoc}
use Rattle.std.specs.List.{flat_map}
use Rattle.std.specs.Option.{option_map, option_map_or, option_and_then}
use Rattle.dt_expr.specs.Scene.{SceneForm}
use Rattle.dt_locals.specs.History.{Assignment}
use Rattle.dt_expr.specs.Operators.{holds}
use Rattle.dt_program.specs.Clause.{ClauseForm, StatementForm}
use Rattle.dt_speculation.specs.History.{SpecEvent}
use Rattle.dt_record.specs.Pasts.{TracingPast, past_then}
use Rattle.dt_expr.specs.declared.text.Value.{Value}
use Rattle.dt_record.specs.Taking.{Effect, gives, TakenForm, ClauseTaken, assigned_by, drawn_by, effect, past_with, perform, performed}
use Rattle.dt_record.specs.Taking.{abandoned, leaves, not_performed, passed_over, predicate_value, taken_of, taking}

-- ---- what a statement does

-- what holds of all that it may do holds of what it does
pub does_with : {A : Type 0} (P : Effect → Type 0) (o : Option A) (f : A → Effect) (done : Effect) → ((x : A) → P (f x))
    → option_map f o ≡ Some done → P done
does_with P None f done all e = cc
does_with P (Some x) f done all e = let is : f x ≡ done = cc in subst P is (all x)

pub gives_with : (P : Effect → Type 0) (keys : Option (List Value)) (number : Option Value) (done : Effect)
    → ((values : List Value) → P (gives values))
    → option_and_then (λ values. option_map (λ n. gives (values ++ n ∷ [])) number) keys ≡ Some done → P done
gives_with P None number done all e = cc
gives_with P (Some values) None done all e = cc
gives_with P (Some values) (Some n) done all e = let is : gives (values ++ n ∷ []) ≡ done = cc in subst P is (all (values ++ n ∷ []))

-- ---- what comes after a past

-- the past with other lists
abbrev of_lists : TracingPast → List Assignment → List SpecEvent → TracingPast
of_lists past assignments events = record {
  locals = record { dynvarsize = past.locals.dynvarsize; assignments = assignments };
  specs = record { nspec = past.specs.nspec; specsize = past.specs.specsize; events = events };
}

pub then_nothing : (past : TracingPast) → past_then past [] [] ≡ past
then_nothing past =
    ap (λ l. of_lists past l (past.specs.events ++ [])) (append-nil past.locals.assignments)
    ∙ ap (of_lists past past.locals.assignments) (append-nil past.specs.events)

pub then_more : (past : TracingPast) (first later : List Effect)
    → past_with past (first ++ later) ≡ past_with (past_with past first) later
then_more past first later =
    ap (λ l. past_then past l (flat_map drawn_by (first ++ later))) (flat_map-append assigned_by first later)
    ∙ ap (past_then past (flat_map assigned_by first ++ flat_map assigned_by later)) (flat_map-append drawn_by first later)
    ∙ ap (λ l. of_lists past l (past.specs.events ++ (flat_map drawn_by first ++ flat_map drawn_by later)))
    (sym (append_assoc past.locals.assignments (flat_map assigned_by first) (flat_map assigned_by later)))
    ∙ ap (of_lists past ((past.locals.assignments ++ flat_map assigned_by first) ++ flat_map assigned_by later))
    (sym (append_assoc past.specs.events (flat_map drawn_by first) (flat_map drawn_by later)))

-- ---- the first statement before the others

-- what a list has that isn't empty
record Parted (o : Option Effect) (later : Effect → List Effect) (n : ℕ) (effects : List Effect) : Type 0 where
  pub first : Effect
  pub rest : List Effect
  pub does : o ≡ Some first
  pub then_rest : later first ≡ rest
  pub many : length rest ≡ n
  pub whole : effects ≡ first ∷ rest

part : (o : Option Effect) (later : Effect → List Effect) (n : ℕ) (effects : List Effect)
    → option_map_or (λ e. e ∷ later e) o [] ≡ effects → length effects ≡ suc n → Parted o later n effects
part None later n effects e many = absurd (omega (arith, ap length e, many))
part (Some first) later n effects e many = record {
  first = first;
  rest = later first;
  does = refl;
  then_rest = refl;
  many = omega (arith, ap length e, many);
  whole = sym e;
}

module _ (scene : SceneForm) where
  -- all statements are performed after a past, with these effects: in none of them a division by zero is evaluated
  pub record ArePerformed (past : TracingPast) (statements : List StatementForm) (effects : List Effect) : Type 0 where
    pub are : perform scene past statements ≡ effects
    pub many : length effects ≡ length statements

  -- the effects of a statement and of those after it
  pub record FirstPerformed (past : TracingPast) (statement : StatementForm) (later : List StatementForm)
      (effects : List Effect) : Type 0 where
    pub first : Effect
    pub rest : List Effect
    pub does : effect scene past statement ≡ Some first
    pub performed_later : ArePerformed (past_with past (first ∷ [])) later rest
    pub whole : effects ≡ first ∷ rest

  pub first_performed : (past : TracingPast) (statement : StatementForm) (later : List StatementForm) (effects : List Effect)
      → ArePerformed past (statement ∷ later) effects → FirstPerformed past statement later effects
  first_performed past statement later effects all =
      let got = part (effect scene past statement) (λ e. perform scene (past_with past (e ∷ [])) later) (length later) effects
      all.are all.many in
      record {
        first = got.first;
        rest = got.rest;
        does = got.does;
        performed_later = record { are = got.then_rest; many = got.many };
        whole = got.whole;
      }

  -- no statement is performed twice
  few_of : (o : Option Effect) (later : Effect → List Effect) (n : ℕ) → ((e : Effect) → length (later e) ≤ n)
      → length (option_map_or (λ e. e ∷ later e) o []) ≤ suc n
  few_of None later n few = omega arith
  few_of (Some e) later n few = omega (arith, few e)

  pub performed_few : (past : TracingPast) (statements : List StatementForm)
      → length (perform scene past statements) ≤ length statements
  performed_few past [] = omega arith
  performed_few past (statement ∷ later) =
      few_of (effect scene past statement) (λ e. perform scene (past_with past (e ∷ [])) later) (length later)
      (λ e. performed_few (past_with past (e ∷ [])) later)

  -- ---- one more after them

  -- a statement before others, of which it is known what it does
  before : (past : TracingPast) (statement : StatementForm) (later : List StatementForm) (first : Effect)
      → effect scene past statement ≡ Some first
      → perform scene past (statement ∷ later) ≡ first ∷ perform scene (past_with past (first ∷ [])) later
  before past statement later first does =
      ap (λ o. option_map_or (λ e. e ∷ perform scene (past_with past (e ∷ [])) later) o []) does

  -- what is done after some statements, where the first of them is known
  after_first : (past : TracingPast) (first : Effect) (rest : List Effect) (x : StatementForm) (o : Option Effect)
      → effect scene (past_with past (first ∷ rest)) x ≡ o
      → effect scene (past_with (past_with past (first ∷ [])) rest) x ≡ o
  after_first past first rest x o does =
      subst (λ p. effect scene p x ≡ o) (then_more past (first ∷ []) rest) does

  pub performed_more : (xs : List StatementForm) (past : TracingPast) (effects : List Effect) (x : StatementForm) (e : Effect)
      → ArePerformed past xs effects → effect scene (past_with past effects) x ≡ Some e
      → perform scene past (xs ++ x ∷ []) ≡ effects ++ e ∷ []
  performed_more [] past effects x e all does =
      let none : [] ≡ effects = all.are in
      before past x [] e
      (subst (λ p. effect scene p x ≡ Some e) (then_nothing past)
      (subst (λ es. effect scene (past_with past es) x ≡ Some e) (sym none) does))
      ∙ ap (λ es. es ++ e ∷ []) none
  performed_more (s ∷ xs) past effects x e all does =
      let got = first_performed past s xs effects all in
      let now = after_first past got.first got.rest x (Some e)
      (subst (λ es. effect scene (past_with past es) x ≡ Some e) got.whole does) in
      before past s (xs ++ x ∷ []) got.first got.does
      ∙ ap (λ es. got.first ∷ es) (performed_more xs (past_with past (got.first ∷ [])) got.rest x e got.performed_later now)
      ∙ ap (λ es. es ++ e ∷ []) (sym got.whole)

  -- one in which a division by zero is evaluated, whatever comes after it
  pub performed_stop : (xs : List StatementForm) (past : TracingPast) (effects : List Effect) (x : StatementForm)
      (later : List StatementForm) → ArePerformed past xs effects → effect scene (past_with past effects) x ≡ None
      → perform scene past (xs ++ x ∷ later) ≡ effects
  performed_stop [] past effects x later all none =
      let empty : [] ≡ effects = all.are in
      ap (λ o. option_map_or (λ e. e ∷ perform scene (past_with past (e ∷ [])) later) o [])
      (subst (λ p. effect scene p x ≡ None) (then_nothing past)
      (subst (λ es. effect scene (past_with past es) x ≡ None) (sym empty) none))
      ∙ empty
  performed_stop (s ∷ xs) past effects x later all none =
      let got = first_performed past s xs effects all in
      let now = after_first past got.first got.rest x None
      (subst (λ es. effect scene (past_with past es) x ≡ None) got.whole none) in
      before past s (xs ++ x ∷ later) got.first got.does
      ∙ ap (λ es. got.first ∷ es) (performed_stop xs (past_with past (got.first ∷ [])) got.rest x later got.performed_later now)
      ∙ sym got.whole

-- ---- a clause that leaves something

-- it leaves what all its statements do
pub record LeavesAll (epid : ℕ) (statements : List StatementForm) (all : List Effect) (came : ClauseTaken) (left : TakenForm)
    : Type 0 where
  pub effects_are : came.effects ≡ all
  pub many : length all ≡ length statements
  pub left_is : left ≡ taken_of epid statements all

module _ (epid : ℕ) (statements : List StatementForm) (all : List Effect) (few : length all ≤ length statements)
    (left : TakenForm) where
  not_short : (t : Bool) → (if t then abandoned else leaves (taken_of epid statements all)) ≡ leaves left
      → (t ≡ false) × (left ≡ taken_of epid statements all)
  not_short true e = cc
  not_short false e = (refl, cc)

  held : (b : Bool) → (if b then performed epid statements all else not_performed passed_over).outcome ≡ leaves left
      → LeavesAll epid statements all (if b then performed epid statements all else not_performed passed_over) left
  held true e =
      let got = not_short (nat_lt (length all) (length statements)) e in
      record {
        effects_are = refl;
        many = omega (arith, few, ltb-false (length all) (length statements) got.0);
        left_is = got.1;
      }
  held false e = cc

  by_predicate : (p : Option ℤ)
      → (option_map_or (λ z. if holds z then performed epid statements all else not_performed passed_over) p
      (not_performed abandoned)).outcome ≡ leaves left
      → LeavesAll epid statements all
      (option_map_or (λ z. if holds z then performed epid statements all else not_performed passed_over) p
      (not_performed abandoned)) left
  by_predicate None e = cc
  by_predicate (Some z) e = held (holds z) e

pub leaves_all : (epid : ℕ) (scene : SceneForm) (past : TracingPast) (clause : ClauseForm) (left : TakenForm)
    → (taking epid scene past clause).outcome ≡ leaves left
    → LeavesAll epid clause.statements (perform scene past clause.statements) (taking epid scene past clause) left
leaves_all epid scene past clause left e =
    by_predicate epid clause.statements (perform scene past clause.statements) (performed_few scene past clause.statements) left
    (predicate_value scene past.locals clause.predicate) e

-- all are performed
pub all_performed : (epid : ℕ) (scene : SceneForm) (past : TracingPast) (clause : ClauseForm) (left : TakenForm)
    → (taking epid scene past clause).outcome ≡ leaves left
    → ArePerformed scene past clause.statements (perform scene past clause.statements)
all_performed epid scene past clause left e =
    record { are = refl; many = (leaves_all epid scene past clause left e).many }
