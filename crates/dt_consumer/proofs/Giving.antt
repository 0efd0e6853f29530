-- What a consumer's clauses give to its aggregations.
use Rattle.std.proofs.Common.{◌≡◌, ℕ, zero, suc, ◌+◌, ◌<◌, ◌≤◌, ◌==◌, Bool, true, false, cond, get_or, take, drop, List, [], ◌∷◌, ◌++◌}
use Rattle.std.proofs.Common.{length, map, refl, sym, ap, ◌∙◌, subst, arith}
use Rattle.std.specs.List.{slice_get, slice_set}
use Rattle.std.proofs.lemmas.Bool.{eq-eqb, ne_eqb}
use Rattle.std.specs.Option.{option_map_or}
use Rattle.std.proofs.lemmas.List.{take_all, take_more, map-append, length-map}
use Rattle.dt_aggstore.specs.History as store
use Rattle.dt_aggstore.specs.IsAt.{IsAt}
use Rattle.dt_aggstore.specs.declared.store.AggStore.{AggStore}
use Rattle.dt_ecb.specs.Shapes.{ShapeForm}
use Rattle.dt_expr.specs.declared.text.Value.{Value}
use Rattle.dt_lang.specs.Program.{ClauseForm, form_of_clause}
use Rattle.dt_program.specs.declared.clause.Clause.{Clause}
use Rattle.dt_ecb.specs.Forms.{no_clause}
use Rattle.dt_record.specs.Taking.{Outcome, TakenForm, leaves, left_in}
use Rattle.dt_life.specs.Aggregations.{contributions_of}
use Rattle.dt_life.specs.Takings.{Taking}
use Rattle.dt_consumer.specs.Uses.{AreUses, form_of_use, form_of_uses, given_of, with_given}
use Rattle.dt_life.specs.Uses.{AreGiven, given_then}
use Rattle.dt_life.specs.Aggregations.{contribution_at, split_by, uses_by}
use Rattle.dt_consumer.specs.declared.uses.Use.{Use}
use Rattle.dt_consumer.specs.declared.uses.Uses.{Uses}
use Rattle.dt_life.specs.laws.Takings.{clause_found}
use Rattle.dt_life.specs.Life.{SetUp, shapes_in}
use Rattle.dt_life.specs.Stores.{given_after}
use Rattle.dt_life.specs.Takings.{cpu_of}
use Rattle.dt_life.specs.TracingSteps.{TracingStep, takes}
use Rattle.dt_life.specs.laws.Buffers.{given_more}
use Rattle.dt_life.specs.laws.Giving.{given_both, given_none, same_at, span, span_more, split_more}
use Rattle.dt_life.specs.laws.Lists.{found_at, replaced}
use Rattle.dt_life.specs.laws.Options.{if_some_map}

-- one use more
uses_step : (all : List Use) (i : ℕ) (x : Use) → i < length all → x ≡ get_or all i x
    → map form_of_use (take (i + 1) all) ≡ map form_of_use (take i all) ++ form_of_use x ∷ []
uses_step all i x inside at =
    ap (map form_of_use) (take_more all i x inside) ∙ map-append form_of_use (take i all) (get_or all i x ∷ [])
    ∙ ap (λ y. map form_of_use (take i all) ++ form_of_use y ∷ []) (sym at)

pub span_step : (all : List Use) (i : ℕ) (x : Use) (place : ℕ) → i < length all → x ≡ get_or all i x
    → place ≡ span (map form_of_use (take i all))
    → place + (x.keys + 1) ≡ span (map form_of_use (take (i + 1) all))
span_step all i x place inside at e =
    ap (λ n. n + (x.keys + 1)) e ∙ sym (span_more (map form_of_use (take i all)) (form_of_use x))
    ∙ ap span (sym (uses_step all i x inside at))

pub split_step : (all : List Use) (i : ℕ) (x : Use) (place : ℕ) (values : List Value) (past : store.Past)
    (st : AggStore) → i < length all → x ≡ get_or all i x → place ≡ span (map form_of_use (take i all))
    → IsAt (given_then (given_then past (split_by (map form_of_use (take i all)) values))
    (contribution_at (form_of_use x) (drop place values))) st
    → IsAt (given_then past (split_by (map form_of_use (take (i + 1) all)) values)) st
split_step all i x place values past st inside at e h =
    let before = map form_of_use (take i all) in
    same_at _ _ st
    (given_both past (split_by before values) (contribution_at (form_of_use x) (drop place values))
    ∙ ap (λ n. given_then past (split_by before values ++ contribution_at (form_of_use x) (drop n values))) e
    ∙ ap (given_then past) (sym (split_more before (form_of_use x) values))
    ∙ ap (λ us. given_then past (split_by us values)) (sym (uses_step all i x inside at)))
    h

-- all uses gave
pub split_all : (all : List Use) (i : ℕ) (values : List Value) (past : store.Past) (st : AggStore) → length all ≤ i
    → IsAt (given_then past (split_by (map form_of_use (take i all)) values)) st
    → IsAt (given_then past (split_by (map form_of_use all) values)) st
split_all all i values past st beyond h =
    subst (λ us. IsAt (given_then past (split_by (map form_of_use us) values)) st) (take_all i all beyond) h

-- the uses of a clause that is found
heads : {X : Type 0} (a b : X) (xs ys : List X) → a ∷ xs ≡ b ∷ ys → (a ≡ b) × (xs ≡ ys)
heads a b xs ys h = (cc, cc)

pub uses_found : (shapes : List ShapeForm) (clauses : List Clause) (uses : List Uses) (i : ℕ) (clause : Clause) (u : Uses)
    → i < length clauses → clause ≡ get_or clauses i clause → u ≡ get_or uses i u
    → AreUses shapes (map form_of_clause clauses) uses
    → form_of_uses u ≡ uses_by shapes (form_of_clause clause).statements
uses_found shapes [] uses i clause u inside at found are = absurd (omega arith)
uses_found shapes (x ∷ clauses) [] i clause u inside at found are = cc
uses_found shapes (x ∷ clauses) (v ∷ uses) zero clause u inside at found are =
    ap form_of_uses found
    ∙ (heads (form_of_uses v) (uses_by shapes (form_of_clause x).statements) _ _ are).0
    ∙ ap (λ (c : Clause). uses_by shapes (form_of_clause c).statements) (sym at)
uses_found shapes (x ∷ clauses) (v ∷ uses) (suc i) clause u inside at found are =
    uses_found shapes clauses uses i clause u (omega arith) at found
    (heads (form_of_uses v) (uses_by shapes (form_of_clause x).statements) _ _ are).1

-- as many uses as clauses
pub uses_long : (shapes : List ShapeForm) (clauses : List Clause) (uses : List Uses)
    → AreUses shapes (map form_of_clause clauses) uses → length uses ≡ length clauses
uses_long shapes clauses uses are =
    sym (length-map uses form_of_uses) ∙ ap length are
    ∙ length-map (map form_of_clause clauses) (λ (c : ClauseForm). uses_by shapes c.statements)
    ∙ length-map clauses form_of_clause

-- the clause that an ECB is taken with
pub clause_is : (clauses : List Clause) (forms : List ClauseForm) (place : ℕ) (clause : Clause)
    → map form_of_clause clauses ≡ forms → place < length clauses → clause ≡ get_or clauses place clause
    → form_of_clause clause ≡ get_or forms place no_clause
clause_is clauses forms place clause own inside at =
    sym (clause_found clauses place clause inside at) ∙ ap (λ cs. get_or cs place no_clause) own

-- a clause that left something gave its values
pub gave_left : (shapes : List ShapeForm) (clauses : List Clause) (forms : List ClauseForm) (uses : List Uses) (place : ℕ)
    (clause : Clause) (u : Uses) (t : Taking) (form : TakenForm) (past : store.Past) (st : AggStore)
    → map form_of_clause clauses ≡ forms → place < length clauses → clause ≡ get_or clauses place clause
    → u ≡ get_or uses place u → AreUses shapes forms uses → t.ecb.clause ≡ get_or forms place no_clause
    → t.taken.outcome ≡ leaves form
    → IsAt (given_then past (split_by (form_of_uses u) form.values)) st
    → IsAt (given_then past (contributions_of shapes t)) st
gave_left shapes clauses forms uses place clause u t form past st own inside at found are its comes h =
    same_at _ _ st
    (ap (λ us. given_then past (split_by us form.values))
    (uses_found shapes clauses uses place clause u inside at found (subst (λ cs. AreUses shapes cs uses) (sym own) are)
    ∙ ap (λ (c : ClauseForm). uses_by shapes c.statements) (clause_is clauses forms place clause own inside at ∙ sym its))
    ∙ ap (λ (o : Outcome). given_then past (option_map_or
    (λ (f : TakenForm). split_by (uses_by shapes t.ecb.clause.statements) f.values) (left_in o) [])) (sym comes))
    h

-- ---- one store is given something

module _ (pasts : ℕ → store.Past) (stores : List AggStore) (cpu : ℕ) (h : AreGiven pasts stores) where
  pub given_here : (events : List store.Event) (p q : AggStore) → cpu < length stores → p ≡ get_or stores cpu p
      → (IsAt (pasts cpu) p → IsAt (given_then (pasts cpu) events) q)
      → AreGiven (with_given pasts cpu events) (slice_set stores cpu q)
  given_here events p q inside found step =
      replaced (λ j. IsAt (with_given pasts cpu events j)) stores cpu q
      (same_at _ _ q (ap (λ b. given_then (pasts cpu) (cond b events [])) (sym (eq-eqb cpu cpu refl)))
      (step (found_at (IsAt (pasts cpu)) stores cpu p inside found (h cpu))))
      (λ j ne. if_some_map _ _ (slice_get stores j)
      (λ st k. same_at _ _ st
      (ap (λ b. given_then (pasts j) (cond b events [])) (sym (ne_eqb cpu j (λ e. ne (sym e)))))
      (given_none (pasts j) st k)) (h j))

  -- nothing is given
  pub given_nothing : AreGiven (with_given pasts cpu []) stores
  given_nothing = λ j. if_some_map _ _ (slice_get stores j)
      (λ st k. same_at _ _ st (by_place j (cpu == j)) (given_none (pasts j) st k)) (h j)
    where
      by_place : (j : ℕ) (b : Bool) → given_then (pasts j) [] ≡ given_then (pasts j) (cond b [] [])
      by_place j true = refl
      by_place j false = refl

-- what a taking gives is given to the store of its processor
pub gave_with : (s : SetUp) (steps : List TracingStep) (t : Taking) (stores : List AggStore) (events : List store.Event)
    → events ≡ contributions_of (shapes_in s) t → AreGiven (with_given (given_after s steps) (cpu_of t) events) stores
    → AreGiven (given_after s (steps ++ takes t ∷ [])) stores
gave_with s steps t stores events are h = λ cpu. if_some_map _ _ (slice_get stores cpu)
    (λ st. same_at _ _ st
    (ap (λ es. given_then (given_after s steps cpu) (cond (cpu_of t == cpu) es [])) are
    ∙ sym (given_more s steps cpu (takes t)))) (h cpu)

-- the uses of the clause that an ECB is taken with give what its taking does
pub uses_give : (shapes : List ShapeForm) (clauses : List Clause) (forms : List ClauseForm) (uses : List Uses) (place : ℕ)
    (clause : Clause) (u : Uses) (t : Taking) → map form_of_clause clauses ≡ forms → place < length clauses
    → clause ≡ get_or clauses place clause → u ≡ get_or uses place u → AreUses shapes forms uses
    → t.ecb.clause ≡ get_or forms place no_clause
    → given_of (form_of_uses u) t.taken.outcome ≡ contributions_of shapes t
uses_give shapes clauses forms uses place clause u t own inside at found are its =
    ap (λ us. given_of us t.taken.outcome)
    (uses_found shapes clauses uses place clause u inside at found (subst (λ cs. AreUses shapes cs uses) (sym own) are)
    ∙ ap (λ (c : ClauseForm). uses_by shapes c.statements) (clause_is clauses forms place clause own inside at ∙ sym its))
