-- There is one list of takings of ECBs, one after another.
use Rattle.std.proofs.Common.{◌≡◌, ℕ, zero, suc, ◌+◌, ◌<◌, ◌≤◌, Bool, List, [], ◌∷◌, ◌++◌, Some, length, take, refl, sym, ap}
use Rattle.std.proofs.Common.{subst, ◌∙◌, arith, ⊎_elim, append_assoc}
use Rattle.std.specs.List.{fold, slice_get}
use Rattle.std.proofs.lemmas.Bool.{cases_lt}
use Rattle.std.proofs.lemmas.List.{append-nil, length_push, take-append-le, take_all}
use Rattle.std.proofs.lemmas.Option.{slice_get_within}
use Rattle.dt_ecb.specs.Ecbs.{EcbForm}
use Rattle.dt_machine.specs.Context.{ContextForm}
use Rattle.dt_life.specs.Options.{OptionsForm}
use Rattle.dt_life.specs.Takings.{Taking, taking_of}
use Rattle.dt_life.specs.TracingSteps.{TracingStep, AreTakenInTurn, past_of_steps, steps_and, taken_in_turn}

-- elements of lists
module _ {X : Type 0} where
  get_before : (xs ys : List X) (i : ℕ) → i < length xs → slice_get (xs ++ ys) i ≡ slice_get xs i
  get_before [] ys i h = absurd (omega arith)
  get_before (x ∷ xs) ys zero h = refl
  get_before (x ∷ xs) ys (suc i) h = get_before xs ys i (omega arith)

  get_end : (xs : List X) (x : X) (i : ℕ) → i ≡ length xs → slice_get (xs ++ x ∷ []) i ≡ Some x
  get_end [] x zero e = refl
  get_end [] x (suc i) e = absurd (omega arith)
  get_end (y ∷ xs) x zero e = absurd (omega arith)
  get_end (y ∷ xs) x (suc i) e = get_end xs x i (omega arith)

  get_there : (xs : List X) (i : ℕ) → i < length xs → (x : X) × (slice_get xs i ≡ Some x)
  get_there [] i h = absurd (omega arith)
  get_there (x ∷ xs) zero h = (x, refl)
  get_there (x ∷ xs) (suc i) h = get_there xs i (omega arith)

  take_one : (xs : List X) (i : ℕ) (x : X) → slice_get xs i ≡ Some x → take (i + 1) xs ≡ take i xs ++ x ∷ []
  take_one [] i x e = cc
  take_one (y ∷ xs) zero x e = let same : y ≡ x = cc in ap (λ z. z ∷ []) same
  take_one (y ∷ xs) (suc i) x e =
      let turn : suc i + 1 ≡ suc (i + 1) = omega arith in
      ap (λ n. take n (y ∷ xs)) turn ∙ ap (λ rest. y ∷ rest) (take_one xs i x e)

module _ (options : OptionsForm) (steps : List TracingStep) (in_end : Bool) (context : ContextForm) where
  abbrev Are : List EcbForm → List Taking → Type 0
  Are = AreTakenInTurn options steps in_end context

  abbrev next : List Taking → EcbForm → Taking
  next done ecb = taking_of in_end (past_of_steps options (steps_and steps done)) context ecb

  -- one ECB more
  module _ (ecbs : List EcbForm) (done : List Taking) (are : Are ecbs done) (ecb : EcbForm) where
    abbrev Right : ℕ → EcbForm → Type 0
    Right i e = slice_get (done ++ next done ecb ∷ []) i ≡ Some (next (take i (done ++ next done ecb ∷ [])) e)

    one_before : (i : ℕ) (e : EcbForm) → i < length ecbs → slice_get (ecbs ++ ecb ∷ []) i ≡ Some e → Right i e
    one_before i e h at =
        get_before done (next done ecb ∷ []) i (omega (arith, are.many))
        ∙ are.each i e (sym (get_before ecbs (ecb ∷ []) i h) ∙ at)
        ∙ ap (λ front. Some (next front e)) (sym (take-append-le i done (next done ecb ∷ []) (omega (arith, are.many))))

    one_last : (i : ℕ) (e : EcbForm) → i ≡ length ecbs → slice_get (ecbs ++ ecb ∷ []) i ≡ Some e → Right i e
    one_last i e here at =
        let same : ecb ≡ e = cc (get_end ecbs ecb i here, at) in
        get_end done (next done ecb) i (omega (arith, are.many))
        ∙ ap (λ x. Some (next done x)) same
        ∙ ap (λ front. Some (next front e))
        (sym (take-append-le i done (next done ecb ∷ []) (omega (arith, are.many)) ∙ take_all i done (omega (arith, are.many))))

    one_longer : Are (ecbs ++ ecb ∷ []) (done ++ next done ecb ∷ [])
    one_longer = record {
      many = omega (arith, length_push done (next done ecb), length_push ecbs ecb, are.many);
      each = λ i e at. ⊎_elim
          (λ (below : i < length ecbs). one_before i e below at)
          (λ (above : length ecbs ≤ i). one_last i e
          (let within = slice_get_within (ecbs ++ ecb ∷ []) i e at in omega (arith, above, within, length_push ecbs ecb)) at)
          (cases_lt i (length ecbs));
    }

  in_turn_after : (later ecbs : List EcbForm) (done : List Taking) → Are ecbs done
      → Are (ecbs ++ later) (fold (λ (done : List Taking) ecb. done ++ next done ecb ∷ []) done later)
  in_turn_after [] ecbs done are = subst (λ es. Are es done) (sym (append-nil ecbs)) are
  in_turn_after (ecb ∷ later) ecbs done are =
      subst (λ es. Are es (fold (λ (done : List Taking) e. done ++ next done e ∷ []) (done ++ next done ecb ∷ []) later))
      (append_assoc ecbs (ecb ∷ []) later)
      (in_turn_after later (ecbs ++ ecb ∷ []) (done ++ next done ecb ∷ []) (one_longer ecbs done are ecb))

  -- The function gives such takings.
  pub are_in_turn : (ecbs : List EcbForm)
      → AreTakenInTurn options steps in_end context ecbs (taken_in_turn options steps in_end context ecbs)
  are_in_turn ecbs = in_turn_after ecbs [] [] (record { many = refl; each = λ i e at. cc })

  module _ (ecbs : List EcbForm) (a b : List Taking) (are : Are ecbs a) (they : Are ecbs b) where
    same_front : (i : ℕ) → i ≤ length ecbs → take i a ≡ take i b
    same_front zero h = refl
    same_front (suc i) h =
        let ecb = get_there ecbs i (omega arith) in
        let front = same_front i (omega arith) in
        let turn : suc i ≡ i + 1 = omega arith in
        ap (λ n. take n a) turn
        ∙ take_one a i (next (take i a) ecb.0) (are.each i ecb.0 ecb.1)
        ∙ ap (λ xs. xs ++ next xs ecb.0 ∷ []) front
        ∙ sym (take_one b i (next (take i b) ecb.0) (they.each i ecb.0 ecb.1))
        ∙ ap (λ n. take n b) (sym turn)

    -- and there are no others
    pub one_in_turn : a ≡ b
    one_in_turn =
        sym (take_all (length ecbs) a (omega (arith, are.many))) ∙ same_front (length ecbs) (omega arith)
        ∙ take_all (length ecbs) b (omega (arith, they.many))
