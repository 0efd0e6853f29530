-- The words of a set, after one of them was changed for one number.
use Rattle.std.proofs.Common.{◌≡◌, ◌≢◌, ℕ, ◌/◌, ◌%◌, ◌*◌, ◌+◌, ◌<◌, Bool, cond, eqb, List, length, ap, sym, ◌∙◌, arith}
use Rattle.std.proofs.Common.{⊎_elim, set, get_or}
use Rattle.std.proofs.lemmas.Bool.{cases_eq, eq-eqb, ne_eqb}
use Rattle.std.proofs.lemmas.List.{get_or-set_same, get_or-set_other}
use Rattle.dt_machine.specs.BitWord.{has_bit, has_in}
use Rattle.dt_machine.specs.declared.bit_word.BitWord.{BitWord}

-- in one word, numbers are told apart by their places
pub same_place : (some other : ℕ) → some / 64 ≡ other / 64 → eqb (some % 64) (other % 64) ≡ eqb some other
same_place some other together =
    ⊎_elim
    (λ (e : some ≡ other). eq-eqb _ _ (ap (λ n. n % 64) e) ∙ sym (eq-eqb some other e))
    (λ (ne : some ≢ other). ne_eqb _ _ (λ (e : some % 64 ≡ other % 64). ne (omega (arith, together, e)))
    ∙ sym (ne_eqb some other ne))
    (cases_eq some other)

pub changed_word : (words : List BitWord) (number at place : ℕ) (flag : Bool) (new empty : BitWord)
    → at ≡ number / 64 → place ≡ number % 64 → at < length words
    → ((k : ℕ) → has_bit new k ≡ cond (eqb k place) flag (has_bit (get_or words at empty) k))
    → (other : ℕ) → has_bit (get_or (set words at new) (other / 64) empty) (other % 64)
    ≡ cond (eqb other number) flag (has_bit (get_or words (other / 64) empty) (other % 64))
changed_word words number at place flag new empty its_word its_place within changes other =
    ⊎_elim
    (λ (e : other / 64 ≡ at).
    ap (λ w. has_bit (get_or (set words at new) w empty) (other % 64)) e
    ∙ ap (λ w. has_bit w (other % 64)) (get_or-set_same words at new empty within)
    ∙ changes (other % 64)
    ∙ ap (λ p. cond (eqb (other % 64) p) flag (has_bit (get_or words at empty) (other % 64))) its_place
    ∙ ap (λ b. cond b flag (has_bit (get_or words at empty) (other % 64))) (same_place other number (e ∙ its_word))
    ∙ ap (λ w. cond (eqb other number) flag (has_bit (get_or words w empty) (other % 64))) (sym e))
    (λ (ne : other / 64 ≢ at).
    ap (λ w. has_bit w (other % 64)) (get_or-set_other words at (other / 64) new empty ne)
    ∙ sym (ap (λ b. cond b flag (has_bit (get_or words (other / 64) empty) (other % 64)))
    (ne_eqb other number (λ e. ne (ap (λ n. n / 64) e ∙ sym its_word)))))
    (cases_eq (other / 64) at)

-- the number at a place of a word
pub has_at : (words : List BitWord) (at place : ℕ) → place < 64
    → has_in words (at * 64 + place) ≡ has_bit (get_or words at (record { bits = 0 })) place
has_at words at place low =
    ap (λ w. has_bit (get_or words w (record { bits = 0 })) ((at * 64 + place) % 64)) (word_of_set at place low)
    ∙ ap (has_bit (get_or words at (record { bits = 0 }))) (place_of at place low)
  where
    word_of_set : (at place : ℕ) → place < 64 → (at * 64 + place) / 64 ≡ at
    word_of_set at place low = omega (arith, low)

    place_of : (at place : ℕ) → place < 64 → (at * 64 + place) % 64 ≡ place
    place_of at place low = omega (arith, low)
