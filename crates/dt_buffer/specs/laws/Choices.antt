-- One more attempted record under switch, chosen or dropped.
use Rattle.std.proofs.Common.{◌≡◌, ℕ, zero, suc, ◌+◌, ◌<◌, ◌≤◌, ◌↔◌, Bool, true, false, List, [], ◌∷◌, ◌++◌, length}
use Rattle.std.proofs.Common.{get_or, take, refl, sym, ap, ◌∙◌, subst, ⊎_elim, IsTrue, arith}
use Rattle.std.specs.List.{concat}
use Rattle.std.proofs.lemmas.Bool.{cases_eq, false≢true}
use Rattle.std.proofs.lemmas.List.{append_assoc, append-nil, take-append-le, take_all, length_push}
use Rattle.dt_buffer.specs.Choice.{IsFittingChoice, ShowsSwitch, chosen_of, chosen_bytes}

-- the attempt, if it is chosen
abbrev one_of : List ℕ → Bool → List (List ℕ)
one_of attempt true = attempt ∷ []
one_of attempt false = []

chosen_of-push : (attempts : List (List ℕ)) (chosen : List Bool) (attempt : List ℕ) (b : Bool)
    → length chosen ≡ length attempts
    → chosen_of (attempts ++ attempt ∷ []) (chosen ++ b ∷ []) ≡ chosen_of attempts chosen ++ one_of attempt b
chosen_of-push [] [] attempt true e = refl
chosen_of-push [] [] attempt false e = refl
chosen_of-push [] (c ∷ chosen) attempt b e = absurd (omega arith)
chosen_of-push (a ∷ attempts) [] attempt b e = absurd (omega arith)
chosen_of-push (a ∷ attempts) (true ∷ chosen) attempt b e =
    ap (λ xs. a ∷ xs) (chosen_of-push attempts chosen attempt b (omega arith))
chosen_of-push (a ∷ attempts) (false ∷ chosen) attempt b e = chosen_of-push attempts chosen attempt b (omega arith)

pub concat-push : (xss : List (List ℕ)) (xs : List ℕ) → concat (xss ++ xs ∷ []) ≡ concat xss ++ xs
concat-push [] xs = append-nil xs
concat-push (ys ∷ xss) xs = ap (λ zs. ys ++ zs) (concat-push xss xs) ∙ sym (append_assoc ys (concat xss) xs)

get_or-push : {X : Type 0} (xs : List X) (x d : X) (i : ℕ) → i < length xs → get_or (xs ++ x ∷ []) i d ≡ get_or xs i d
get_or-push [] x d i h = absurd (omega arith)
get_or-push (y ∷ xs) x d zero h = refl
get_or-push (y ∷ xs) x d (suc i) h = get_or-push xs x d i (omega arith)

pub get_or-last : {X : Type 0} (xs : List X) (x d : X) (i : ℕ) → i ≡ length xs → get_or (xs ++ x ∷ []) i d ≡ x
get_or-last [] x d zero e = refl
get_or-last [] x d (suc i) e = absurd (omega arith)
get_or-last (y ∷ xs) x d zero e = absurd (omega arith)
get_or-last (y ∷ xs) x d (suc i) e = get_or-last xs x d i (omega arith)

pub take-whole : {X : Type 0} (xs : List X) (i : ℕ) → i ≡ length xs → take i xs ≡ xs
take-whole xs i e = take_all i xs (omega arith)

module _ (size : ℕ) (attempts : List (List ℕ)) (chosen : List Bool) (attempt : List ℕ) (b : Bool)
    (choice : IsFittingChoice size attempts chosen)
    (fits : IsTrue b ↔ (length (chosen_bytes attempts chosen) + length attempt ≤ size)) where
  abbrev Fits-at : ℕ → Bool → List (List ℕ) → List Bool → List ℕ → Type 0
  Fits-at i c front taken here = IsTrue c ↔ (length (chosen_bytes front taken) + length here ≤ size)

  -- the choice is right at a place of both lists
  abbrev Right-at : ℕ → Type 0
  Right-at i =
      Fits-at i (get_or (chosen ++ b ∷ []) i false) (take i (attempts ++ attempt ∷ [])) (take i (chosen ++ b ∷ []))
      (get_or (attempts ++ attempt ∷ []) i [])

  choice_before : (i : ℕ) → i < length attempts → Right-at i
  choice_before i h =
      rw (
        get_or-push chosen b false i (omega (arith, choice.whole)),
        take-append-le i attempts (attempt ∷ []) (omega arith),
        take-append-le i chosen (b ∷ []) (omega (arith, choice.whole)),
        get_or-push attempts attempt [] i h,
      )
      (choice.exactly i h)

  choice_last : (i : ℕ) → i ≡ length attempts → Right-at i
  choice_last i e =
      rw (
        get_or-last chosen b false i (omega (arith, choice.whole)),
        take-append-le i attempts (attempt ∷ []) (omega arith),
        take-append-le i chosen (b ∷ []) (omega (arith, choice.whole)),
        take-whole attempts i e,
        take-whole chosen i (omega (arith, choice.whole)),
        get_or-last attempts attempt [] i e,
      )
      fits

  pub choice_more : IsFittingChoice size (attempts ++ attempt ∷ []) (chosen ++ b ∷ [])
  choice_more = record {
    whole = omega (arith, length_push chosen b, length_push attempts attempt, choice.whole);
    exactly = λ i h. ⊎_elim
        (choice_last i)
        (λ ne. choice_before i (omega (arith, length_push attempts attempt, h)))
        (cases_eq i (length attempts));
  }

-- no more are chosen than there are
chosen_few : (attempts : List (List ℕ)) (chosen : List Bool) → length (chosen_of attempts chosen) ≤ length attempts
chosen_few [] chosen = omega arith
chosen_few (a ∷ attempts) [] = omega arith
chosen_few (a ∷ attempts) (true ∷ chosen) = omega (arith, chosen_few attempts chosen)
chosen_few (a ∷ attempts) (false ∷ chosen) = omega (arith, chosen_few attempts chosen)

module _ (size : ℕ) (attempts : List (List ℕ)) (bytes : List ℕ) (drops : ℕ) (attempt : List ℕ)
    (s : ShowsSwitch size attempts bytes drops) where
  grown : (b : Bool)
      → chosen_of (attempts ++ attempt ∷ []) (s.chosen ++ b ∷ []) ≡ chosen_of attempts s.chosen ++ one_of attempt b
  grown b = chosen_of-push attempts s.chosen attempt b s.choice.whole

  pub switch_kept : length bytes + length attempt ≤ size
      → ShowsSwitch size (attempts ++ attempt ∷ []) (bytes ++ attempt) drops
  switch_kept fits = record {
    chosen = s.chosen ++ true ∷ [];
    choice = choice_more size attempts s.chosen attempt true s.choice
        ((λ _. subst (λ n. n + length attempt ≤ size) (ap length s.kept) fits), (λ _. refl));
    kept = ap (λ xs. xs ++ attempt) s.kept ∙ sym (concat-push (chosen_of attempts s.chosen) attempt)
        ∙ sym (ap concat (grown true));
    dropped = omega (
      arith,
      s.dropped,
      length_push attempts attempt,
      ap length (grown true),
      length_push (chosen_of attempts s.chosen) attempt,
    );
  }

  pub switch_dropped : size < length bytes + length attempt
      → ShowsSwitch size (attempts ++ attempt ∷ []) bytes (drops + 1)
  switch_dropped over = record {
    chosen = s.chosen ++ false ∷ [];
    choice = choice_more size attempts s.chosen attempt false s.choice
        ((λ e. absurd (false≢true e)), (λ fits. absurd (omega (arith, ap length s.kept))));
    kept = s.kept ∙ ap concat (sym (append-nil (chosen_of attempts s.chosen))) ∙ sym (ap concat (grown false));
    dropped = omega (
      arith,
      s.dropped,
      chosen_few attempts s.chosen,
      length_push attempts attempt,
      ap length (grown false),
      ap length (append-nil (chosen_of attempts s.chosen)),
    );
  }
