-- Records that are attempted have one choice, and so a switch buffer shows one thing of them.
use Rattle.std.proofs.Common.{◌≡◌, ℕ, zero, suc, ◌+◌, ◌<◌, ◌≤◌, ◌↔◌, Bool, true, false, List, [], ◌∷◌, ◌++◌, length}
use Rattle.std.proofs.Common.{get_or, take, ◌-◌, refl, sym, ap, ◌∙◌, subst, ⊎_elim, IsTrue, arith}
use Rattle.std.proofs.Math.Seq.{take-suc}
use Rattle.std.proofs.lemmas.Bool.{cases_lt, false≢true}
use Rattle.std.proofs.lemmas.List.{append_assoc, append-nil, take_all}
use Rattle.dt_buffer.specs.laws.Choices.{choice_more, get_or-last}
use Rattle.dt_buffer.specs.Choice.{IsFittingChoice, ShowsSwitch, KeepsSwitch, chosen_of, chosen_bytes}

-- what is true exactly where the same holds is the same
pub same_bits : (x y : Bool) (P : Type 0) → IsTrue x ↔ P → IsTrue y ↔ P → x ≡ y
same_bits true true P f g = refl
same_bits true false P f g = sym (g.1 (f.0 refl))
same_bits false true P f g = f.1 (g.0 refl)
same_bits false false P f g = refl

module _ (size : ℕ) (attempts : List (List ℕ)) (a b : List Bool)
    (ca : IsFittingChoice size attempts a) (cb : IsFittingChoice size attempts b) where
  abbrev Fits : ℕ → List Bool → Type 0
  Fits i front = length (chosen_bytes (take i attempts) front) + length (get_or attempts i []) ≤ size

  same_bit : (i : ℕ) → i < length attempts → take i a ≡ take i b → get_or a i false ≡ get_or b i false
  same_bit i h front =
      let P : List Bool → Type 0 = λ t. IsTrue (get_or b i false) ↔ Fits i t in
      same_bits (get_or a i false) (get_or b i false) (Fits i (take i a)) (ca.exactly i h)
      (subst P (sym front) (cb.exactly i h))

  same_front : (i : ℕ) → i ≤ length attempts → take i a ≡ take i b
  same_front zero h = refl
  same_front (suc i) h =
      let front = same_front i (omega arith) in
      take-suc a i false (omega (arith, ca.whole)) ∙ ap (λ t. t ++ get_or a i false ∷ []) front
      ∙ ap (λ x. take i b ++ x ∷ []) (same_bit i (omega arith) front)
      ∙ sym (take-suc b i false (omega (arith, cb.whole)))

  pub one_choice : a ≡ b
  one_choice =
      sym (take_all (length attempts) a (omega (arith, ca.whole))) ∙ same_front (length attempts) (omega arith)
      ∙ take_all (length attempts) b (omega (arith, cb.whole))

module _ (size : ℕ) (attempts : List (List ℕ)) (bytes other : List ℕ) (drops count : ℕ)
    (s : ShowsSwitch size attempts bytes drops) (t : ShowsSwitch size attempts other count) where
  pub one_switch : (bytes ≡ other) × (drops ≡ count)
  one_switch =
      let same = one_choice size attempts s.chosen t.chosen s.choice t.choice in (
        s.kept ∙ ap (chosen_bytes attempts) same ∙ sym t.kept,
        s.dropped ∙ ap (λ c. length attempts - length (chosen_of attempts c)) same ∙ sym t.dropped,
      )

-- one more attempt is chosen, or it isn't
choice_pushed : (size : ℕ) (attempts : List (List ℕ)) (chosen : List Bool) (attempt : List ℕ)
    → IsFittingChoice size attempts chosen → (b : Bool)
    × IsFittingChoice size (attempts ++ attempt ∷ []) (chosen ++ b ∷ [])
choice_pushed size attempts chosen attempt choice = ⊎_elim
    (λ over. (
      false,
      choice_more size attempts chosen attempt false choice
          ((λ e. absurd (false≢true e)), (λ fits. absurd (omega arith))),
    ))
    (λ fits. (true, choice_more size attempts chosen attempt true choice ((λ _. fits), (λ _. refl))))
    (cases_lt size (length (chosen_bytes attempts chosen) + length attempt))

choice_from : (size : ℕ) (done rest : List (List ℕ)) (chosen : List Bool) → IsFittingChoice size done chosen
    → (c : List Bool) × IsFittingChoice size (done ++ rest) c
choice_from size done [] chosen choice =
    (chosen, subst (λ xs. IsFittingChoice size xs chosen) (sym (append-nil done)) choice)
choice_from size done (attempt ∷ rest) chosen choice =
    let b = choice_pushed size done chosen attempt choice in
    let c = choice_from size (done ++ attempt ∷ []) rest (chosen ++ b.0 ∷ []) b.1 in
    (c.0, subst (λ xs. IsFittingChoice size xs c.0) (append_assoc done (attempt ∷ []) rest) c.1)

pub some_choice : (size : ℕ) (attempts : List (List ℕ)) → (c : List Bool) × IsFittingChoice size attempts c
some_choice size attempts =
    choice_from size [] attempts [] (record { whole = refl; exactly = λ i h. absurd (omega arith) })

pub some_switch : (size : ℕ) (attempts : List (List ℕ))
    → (bytes : List ℕ) × (drops : ℕ) × ShowsSwitch size attempts bytes drops
some_switch size attempts =
    let c = some_choice size attempts in (
      chosen_bytes attempts c.0,
      length attempts - length (chosen_of attempts c.0),
      record { chosen = c.0; choice = c.1; kept = refl; dropped = refl },
    )

-- a record is kept exactly where it fits
module _ (size : ℕ) (attempts : List (List ℕ)) (bytes : List ℕ) (drops : ℕ) (attempt : List ℕ)
    (s : ShowsSwitch size attempts bytes drops) (b : Bool)
    (fits : IsTrue b ↔ (length bytes + length attempt ≤ size)) where
  more : IsFittingChoice size (attempts ++ attempt ∷ []) (s.chosen ++ b ∷ [])
  more =
      let P : ℕ → Type 0 = λ n. IsTrue b ↔ (n + length attempt ≤ size) in
      choice_more size attempts s.chosen attempt b s.choice (subst P (ap length s.kept) fits)

  last_bit : get_or (s.chosen ++ b ∷ []) (length attempts) false ≡ b
  last_bit = get_or-last s.chosen b false (length attempts) (sym s.choice.whole)

  pub keeps_switch : IsTrue b ↔ KeepsSwitch size attempts attempt
  keeps_switch =
      let P : Bool → Type 0 = λ x. IsTrue x in
      let Q : List Bool → Type 0 = λ c. IsTrue (get_or c (length attempts) false) in (
        (λ t. record { chosen = s.chosen ++ b ∷ []; choice = more; last = subst P (sym last_bit) t }),
        (λ k. subst P last_bit (subst Q
            (one_choice size (attempts ++ attempt ∷ []) k.chosen (s.chosen ++ b ∷ []) k.choice more) k.last)),
      )
