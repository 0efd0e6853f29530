-- What a bit of a number is after one bit was set or cleared.
use Rattle.std.proofs.Common.{◌≡◌, ◌↔◌, IsTrue, ◌≢◌, ℕ, ◌-◌, ◌*◌, ◌^◌, ◌%◌, ◌<◌, ◌≤◌, Bool, true, false, cond, eqb}
use Rattle.std.proofs.Common.{⊎_elim, refl, ap, sym, ◌∙◌, arith, w64, bit_and, bit_or}
use Rattle.std.proofs.lemmas.Bool.{cases_lt, eqb-true, eq-eqb, false≢true}
use Rattle.std.proofs.lemmas.Bool.Decides.{nat_tests}
use Rattle.std.proofs.lemmas.Nat.{and_le_l}
use Rattle.std.proofs.lemmas.Nat.Bits.{bit_at_set_same, bit_at_set_other, bit_at_clear_same, bit_at_clear_other}
use Rattle.std.proofs.lemmas.Nat.Bits.{bit_at_above, bit_at-zero, bit_at-trailing_zeros}
use Rattle.std.specs.Int.{bit_at, trailing_zeros}
use lib.Count.{trailing_of_zero}

abbrev set_at : ℕ → ℕ → ℕ
set_at n k = bit_or n (1 * 2 ^ k % 18446744073709551616)

abbrev cleared_at : ℕ → ℕ → ℕ
cleared_at n k = bit_and n (18446744073709551615 - 1 * 2 ^ k % 18446744073709551616)

one_else : (changed kept i k value : ℕ) (flag : Bool) → eqb value 1 ≡ flag
    → (i ≡ k → changed ≡ value) → (i ≢ k → changed ≡ kept)
    → eqb changed 1 ≡ cond (eqb i k) flag (eqb kept 1)
one_else changed kept i k value flag is same other = grind (arith, nat_tests)

-- after the bit k was set
pub up_set : (n k i : ℕ) → k < 64 → eqb (bit_at (set_at n k) i) 1 ≡ cond (eqb i k) true (eqb (bit_at n i) 1)
up_set n k i h =
    one_else (bit_at (set_at n k) i) (bit_at n i) i k 1 true refl
    (λ e. ap (λ j. bit_at (set_at n k) j) e ∙ bit_at_set_same w64 n k h)
    (λ ne. bit_at_set_other w64 n k h i ne)

clear_other : (n k i : ℕ) → n < 18446744073709551616 → k < 64 → i ≢ k → bit_at (cleared_at n k) i ≡ bit_at n i
clear_other n k i fits h ne =
    let below : cleared_at n k ≤ n = and_le_l n _ in
    ⊎_elim
    (λ (low : i < 64). bit_at_clear_other w64 n k h i low ne)
    (λ (high : 64 ≤ i). bit_at_above (cleared_at n k) 64 i (omega arith) high ∙ sym (bit_at_above n 64 i fits high))
    (cases_lt i 64)

-- after the bit k was cleared
pub up_clear : (n k i : ℕ) → n < 18446744073709551616 → k < 64
    → eqb (bit_at (cleared_at n k) i) 1 ≡ cond (eqb i k) false (eqb (bit_at n i) 1)
up_clear n k i fits h =
    one_else (bit_at (cleared_at n k) i) (bit_at n i) i k 0 false refl
    (λ e. ap (λ j. bit_at (cleared_at n k) j) e ∙ bit_at_clear_same w64 n k h)
    (λ ne. clear_other n k i fits h ne)

-- a number with one bit fewer is less
pub less_cleared : (n k : ℕ) → k < 64 → bit_at n k ≡ 1 → cleared_at n k < n
less_cleared n k h up =
    let below : cleared_at n k ≤ n = and_le_l n _ in
    let down : bit_at (cleared_at n k) k ≡ 0 = bit_at_clear_same w64 n k h in
    let other : cleared_at n k ≢ n = λ e.
    let same : bit_at (cleared_at n k) k ≡ bit_at n k = ap (λ m. bit_at m k) e in
    absurd (omega arith) in
    omega arith

-- the place of the lowest one, where there is one
pub lowest_one : (n : ℕ) → n < 18446744073709551616 → trailing_zeros w64 n < 64
    → (trailing_zeros w64 n < 64) × (eqb (bit_at n (trailing_zeros w64 n)) 1 ≡ true)
    × ((i : ℕ) → i < trailing_zeros w64 n → eqb (bit_at n i) 1 ≡ false)
lowest_one n fits near =
    ⊎_elim
    (λ (some : 0 < n).
    let lowest = bit_at-trailing_zeros w64 n some fits in
    (near, ap (λ b. eqb b 1) lowest.1, λ i below. ap (λ b. eqb b 1) (lowest.2 i below)))
    (λ (none : n ≤ 0).
    let zero_ : n ≡ 0 = omega arith in
    let last : trailing_zeros w64 n ≡ 64 = ap (trailing_zeros w64) zero_ ∙ trailing_of_zero 64 in
    absurd (omega (arith, near, last)))
    (cases_lt 0 n)

-- where there is none, no bit is set
pub none_far : (n : ℕ) → n < 18446744073709551616 → 64 ≤ trailing_zeros w64 n
    → (i : ℕ) → eqb (bit_at n i) 1 ≡ false
none_far n fits far i =
    ⊎_elim
    (λ (some : 0 < n). absurd (omega (arith, far, (bit_at-trailing_zeros w64 n some fits).0)))
    (λ (none : n ≤ 0).
    let zero_ : n ≡ 0 = omega arith in
    ap (λ m. eqb (bit_at m i) 1) zero_ ∙ ap (λ b. eqb b 1) (bit_at-zero i))
    (cases_lt 0 n)

-- no bit is set in zero alone
pub none_up : (n : ℕ) → n < 18446744073709551616
    → IsTrue (eqb n 0) ↔ ((i : ℕ) → i < 64 → eqb (bit_at n i) 1 ≡ false)
none_up n fits = (
  λ e i low. ap (λ m. eqb (bit_at m i) 1) (eqb-true n 0 e) ∙ ap (λ b. eqb b 1) (bit_at-zero i),
  λ none. ⊎_elim
      (λ (some : 0 < n).
      let lowest = bit_at-trailing_zeros w64 n some fits in
      absurd (false≢true (sym (none (trailing_zeros w64 n) lowest.0) ∙ ap (λ b. eqb b 1) lowest.1)))
      (λ (zero_ : n ≤ 0). eq-eqb n 0 (omega arith))
      (cases_lt 0 n),
)
