-- Statements do one list of effects, which is that of `perform`.
use Rattle.std.proofs.Common.{◌≡◌, ℕ, zero, suc, List, [], ◌∷◌, Option, Some, None, take, refl, sym, ap, subst, ◌∙◌, arith}
use Rattle.std.specs.Prelude.{slice_get}
use Rattle.std.specs.Option.{option_map_or}
use Rattle.dt_expr.specs.Scene.{SceneForm}
use Rattle.dt_program.specs.Clause.{StatementForm}
use Rattle.dt_record.specs.Pasts.{TracingPast}
use Rattle.dt_record.specs.Performance.{IsPerformance}
use Rattle.dt_record.specs.Taking.{Effect, effect, past_with, perform}
use Rattle.dt_record.specs.laws.Performing.{then_more, then_nothing}

module _ (scene : SceneForm) where
  -- what is done after a first effect and some others
  after_first : (past : TracingPast) (first : Effect) (others : List Effect) (statement : StatementForm) (o : Option Effect)
      → effect scene (past_with (past_with past (first ∷ [])) others) statement ≡ o
      → effect scene (past_with past (first ∷ others)) statement ≡ o
  after_first past first others statement o e =
      subst (λ p. effect scene p statement ≡ o) (sym (then_more past (first ∷ []) others)) e

  after_rest : (past : TracingPast) (first : Effect) (others : List Effect) (statement : StatementForm) (o : Option Effect)
      → effect scene (past_with past (first ∷ others)) statement ≡ o
      → effect scene (past_with (past_with past (first ∷ [])) others) statement ≡ o
  after_rest past first others statement o e =
      subst (λ p. effect scene p statement ≡ o) (then_more past (first ∷ []) others) e

  at_first : (past : TracingPast) (statement : StatementForm) (o : Option Effect) → effect scene past statement ≡ o
      → effect scene (past_with past []) statement ≡ o
  at_first past statement o e = subst (λ p. effect scene p statement ≡ o) (sym (then_nothing past)) e

  -- ---- `perform` is one

  by_effect : (past : TracingPast) (statement : StatementForm) (later : List StatementForm) (rest : Effect → List Effect)
      → ((e : Effect) → IsPerformance scene (past_with past (e ∷ [])) later (rest e))
      → (o : Option Effect) → effect scene past statement ≡ o
      → IsPerformance scene past (statement ∷ later) (option_map_or (λ e. e ∷ rest e) o [])
  by_effect past statement later rest are None none = record {
    few = omega arith;
    each = λ i s done there here. absurd (nothing_at i done here);
    ended = λ s there.
        let same : statement ≡ s = cc in subst (λ x. effect scene (past_with past []) x ≡ None) same (at_first past statement None none);
  }
    where
      nothing_at : (i : ℕ) (done : Effect) → slice_get [] i ≡ Some done → ⊥
      nothing_at zero done e = cc
      nothing_at (suc i) done e = cc
  by_effect past statement later rest are (Some e) does = record {
    few = omega (arith, (are e).few);
    each = at_place;
    ended = λ s there. after_first past e (rest e) s None ((are e).ended s there);
  }
    where
      at_place : (i : ℕ) (s : StatementForm) (done : Effect) → slice_get (statement ∷ later) i ≡ Some s
          → slice_get (e ∷ rest e) i ≡ Some done → effect scene (past_with past (take i (e ∷ rest e))) s ≡ Some done
      at_place zero s done there here =
          let same : statement ≡ s = cc in
          let one : e ≡ done = cc in
          subst (λ x. effect scene (past_with past []) x ≡ Some done) same
          (at_first past statement (Some done) (does ∙ ap (λ d. Some d) one))
      at_place (suc i) s done there here =
          after_first past e (take i (rest e)) s (Some done) ((are e).each i s done there here)

  pub is_performed : (statements : List StatementForm) (past : TracingPast)
      → IsPerformance scene past statements (perform scene past statements)
  is_performed [] past = record {
    few = omega arith;
    each = λ i s done there here. absurd (nothing_at i s there);
    ended = λ s there. cc;
  }
    where
      nothing_at : (i : ℕ) (s : StatementForm) → slice_get [] i ≡ Some s → ⊥
      nothing_at zero s e = cc
      nothing_at (suc i) s e = cc
  is_performed (statement ∷ later) past =
      by_effect past statement later (λ e. perform scene (past_with past (e ∷ [])) later)
      (λ e. is_performed later (past_with past (e ∷ []))) (effect scene past statement) refl

  -- ---- there is no other

  rest_performed : (past : TracingPast) (statement : StatementForm) (later : List StatementForm) (e : Effect)
      (effects : List Effect) → IsPerformance scene past (statement ∷ later) (e ∷ effects)
      → IsPerformance scene (past_with past (e ∷ [])) later effects
  rest_performed past statement later e effects are = record {
    few = omega (arith, are.few);
    each = λ i s done there here. after_rest past e (take i effects) s (Some done) (are.each (suc i) s done there here);
    ended = λ s there. after_rest past e effects s None (are.ended s there);
  }

  pub one_performed : (statements : List StatementForm) (past : TracingPast) (a b : List Effect)
      → IsPerformance scene past statements a → IsPerformance scene past statements b → a ≡ b
  one_performed [] past [] [] x y = refl
  one_performed [] past (e ∷ a) b x y = absurd (omega (arith, x.few))
  one_performed [] past [] (e ∷ b) x y = absurd (omega (arith, y.few))
  one_performed (statement ∷ later) past [] [] x y = refl
  one_performed (statement ∷ later) past [] (e ∷ b) x y =
      let no : None ≡ Some e = sym (x.ended statement refl) ∙ y.each 0 statement e refl refl in cc
  one_performed (statement ∷ later) past (e ∷ a) [] x y =
      let no : None ≡ Some e = sym (y.ended statement refl) ∙ x.each 0 statement e refl refl in cc
  one_performed (statement ∷ later) past (e ∷ a) (d ∷ b) x y =
      let both : Some e ≡ Some d = sym (x.each 0 statement e refl refl) ∙ y.each 0 statement d refl refl in
      let same : e ≡ d = cc in
      let rest : a ≡ b = one_performed later (past_with past (e ∷ [])) a b (rest_performed past statement later e a x)
      (subst (λ z. IsPerformance scene (past_with past (z ∷ [])) later b) (sym same) (rest_performed past statement later d b y)) in
      ap (λ z. z ∷ a) same ∙ ap (λ l. d ∷ l) rest
