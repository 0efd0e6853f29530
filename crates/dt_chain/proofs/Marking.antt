-- The probes of a word that were marked, after one more was.
use Rattle.std.proofs.Common.{◌≡◌, ◌≢◌, ℕ, ◌*◌, ◌+◌, ◌/◌, ◌%◌, ◌<◌, ◌&&◌, Bool, true, false, not, cond, eqb, ap, sym, ◌∙◌}
use Rattle.std.proofs.Common.{arith, ⊎_elim}
use Rattle.std.proofs.lemmas.Bool.{cases_eq, eq-eqb, ne_eqb, and_from}
use Rattle.dt_machine.specs.BitWord.{has_bit, is_in_word}
use Rattle.dt_machine.specs.declared.bit_word.BitWord.{BitWord}

-- a number of the word is the probe at its place
pub in_its_word : (at number : ℕ) (word : BitWord) → number < 64 → has_bit word number ≡ true
    → is_in_word at word (at * 64 + number) ≡ true
in_its_word at number word low up =
    and_from _ _ (eq-eqb ((at * 64 + number) / 64) at (omega (arith, low)))
    (ap (has_bit word) (place_of at number low) ∙ up)
  where
    place_of : (at number : ℕ) → number < 64 → (at * 64 + number) % 64 ≡ number
    place_of at number low = omega (arith, low)

module _ (at number : ℕ) (word left new : BitWord) (flag before : Bool)
    (taken : (k : ℕ) → has_bit new k ≡ cond (eqb k number) false (has_bit left k)) where
  -- the probe that was marked now
  pub marked_here : number < 64 → has_bit word number ≡ true
      → flag ≡ cond (is_in_word at word (at * 64 + number) && not (has_bit new ((at * 64 + number) % 64))) flag before
  marked_here low up =
      let gone : has_bit new ((at * 64 + number) % 64) ≡ false =
      taken ((at * 64 + number) % 64)
      ∙ ap (λ b. cond b false (has_bit left ((at * 64 + number) % 64)))
      (eq-eqb ((at * 64 + number) % 64) number (omega (arith, low))) in
      sym (ap (λ b. cond (b && not (has_bit new ((at * 64 + number) % 64))) flag before) (in_its_word at number word low up)
      ∙ ap (λ b. cond (true && not b) flag before) gone)

  -- any other is as it was
  pub marked_before : (probe : ℕ) → probe ≢ at * 64 + number → number < 64
      → cond (is_in_word at word probe && not (has_bit left (probe % 64))) flag before
      ≡ cond (is_in_word at word probe && not (has_bit new (probe % 64))) flag before
  marked_before probe other low =
      ⊎_elim
      (λ (e : probe % 64 ≡ number).
      let away : eqb (probe / 64) at ≡ false = ne_eqb (probe / 64) at (λ same. other (omega (arith, e, same))) in
      ap (λ b. cond ((b && has_bit word (probe % 64)) && not (has_bit left (probe % 64))) flag before) away
      ∙ sym (ap (λ b. cond ((b && has_bit word (probe % 64)) && not (has_bit new (probe % 64))) flag before) away))
      (λ (ne : probe % 64 ≢ number).
      ap (λ b. cond (is_in_word at word probe && not b) flag before)
      (sym (taken (probe % 64) ∙ ap (λ b. cond b false (has_bit left (probe % 64))) (ne_eqb (probe % 64) number ne))))
      (cases_eq (probe % 64) number)

-- what is left was there
pub was_left : (gone was : Bool) → cond gone false was ≡ true → was ≡ true
was_left true was h = cc
was_left false was h = h
