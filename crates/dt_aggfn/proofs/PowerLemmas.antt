-- Which row of `quantize` counts a value.
use Rattle.std.proofs.Common.{◌≡◌, ℕ, zero, suc, ◌+◌, ◌-◌, ◌*◌, ◌^◌, ◌<◌, ◌≤◌, ◌≢◌, min, Bool, true, false, eqb, ltb}
use Rattle.std.proofs.Common.{leb, ◌&&◌, ◌||◌, length, refl, sym, ap, subst, ◌∙◌, ⊎_elim, arith, ℤ, pos, negsuc, neg_ℤ}
use Rattle.std.proofs.Common.{◌-ℤ◌, Some}
use Rattle.std.proofs.Math.Nat.{pow-le-pow_right}
use Rattle.std.proofs.lemmas.Bool.{cases_lt, cases_eq, eq-eqb, ne_eqb, lt-ltb, le-ltb, le-leb, lt-leb}
use Rattle.std.proofs.lemmas.Bool.{false_from_ne_true}
use Rattle.std.proofs.lemmas.Bool.Decides.{Decides-int_eq}
use Rattle.std.proofs.lemmas.Nat.{pow_pos, pow-add, pow_below}
use Rattle.std.proofs.lemmas.Int.{ints}
use Rattle.std.specs.Ordering.{int_eq}
use Rattle.std.specs.Prelude.{unsigned_abs, int_lt, FitsSigned}
use Rattle.std.specs.Int.{w64, cast_signed, cast_unsigned}
use Rattle.dt_aggfn.specs.Rows.{name_at, power_row, minus_power_row, zero_row, rows_to, quantize_rows, IsRowOf}
use Rattle.dt_aggfn.proofs.RowLemmas.{parted, named, length_parts, first_part, middle_part, last_part}

twice : (n : ℕ) → 2 ^ (n + 1) ≡ 2 * 2 ^ n
twice n = pow-add 2 n 1 ∙ omega arith

-- the powers of two rise
rising : (m n : ℕ) → m ≤ n → 2 ^ m ≤ 2 ^ n
rising m n h = pow-le-pow_right {n = 2} (omega arith) h

-- the row for a number from 2^e to less than 2^(e + 1)
counted_by_power : (e a m : ℕ) → 2 ^ e ≤ a → a < 2 * 2 ^ e → m ≤ 62
    → (leb (2 ^ m) a && (eqb m 62 || ltb a (2 ^ (m + 1)))) ≡ eqb m (min e 62)
counted_by_power e a m low high top =
    ⊎_elim (λ lt.
    let r = rising (m + 1) e (omega arith) in
    let t = twice m in
    let p = pow_pos m in
    let x : leb (2 ^ m) a ≡ true = le-leb (2 ^ m) a (omega arith) in
    let y : eqb m 62 ≡ false = ne_eqb m 62 (omega arith) in
    let z : ltb a (2 ^ (m + 1)) ≡ false = le-ltb a (2 ^ (m + 1)) (omega arith) in
    let w : eqb m (min e 62) ≡ false = ne_eqb m (min e 62) (omega arith) in
    rw (x, y, z, w) refl)
    (λ ge. ⊎_elim (λ same.
    let r = rising m e (omega arith) in
    let x : leb (2 ^ m) a ≡ true = le-leb (2 ^ m) a (omega arith) in
    let w : eqb m (min e 62) ≡ true = eq-eqb m (min e 62) same in
    ⊎_elim (λ greatest.
    let y : eqb m 62 ≡ true = eq-eqb m 62 greatest in
    rw (x, y, w) refl)
    (λ less.
    let f : m ≡ e = omega arith in
    let s = ap (λ n. 2 ^ n) f in
    let t = twice m in
    let y : eqb m 62 ≡ false = ne_eqb m 62 less in
    let z : ltb a (2 ^ (m + 1)) ≡ true = lt-ltb a (2 ^ (m + 1)) (omega arith) in
    rw (x, y, z, w) refl)
    (cases_eq m 62))
    (λ other.
    let r = rising (e + 1) m (omega arith) in
    let t = twice e in
    let x : leb (2 ^ m) a ≡ false = lt-leb (2 ^ m) a (omega arith) in
    let w : eqb m (min e 62) ≡ false = ne_eqb m (min e 62) other in
    rw (x, w) refl)
    (cases_eq m (min e 62)))
    (cases_lt m (min e 62))

-- no power's row counts 0
none_at_zero : (m : ℕ) (b : Bool) → (leb (2 ^ m) 0 && b) ≡ false
none_at_zero m b = let x : leb (2 ^ m) 0 ≡ false = lt-leb (2 ^ m) 0 (pow_pos m) in rw x refl

power_at_zero : (m : ℕ) → (power_row m).counts (pos 0) ≡ false
power_at_zero m = none_at_zero m _

shifted : (a b i j : ℕ) → (a ≡ b → i ≡ j) → (i ≡ j → a ≡ b) → eqb a b ≡ eqb i j
shifted a b i j to from =
    ⊎_elim (λ e. eq-eqb a b e ∙ sym (eq-eqb i j (to e)))
    (λ n. ne_eqb a b n ∙ sym (ne_eqb i j (λ k. n (from k)))) (cases_eq a b)

never : (a b : ℕ) → a ≢ b → false ≡ eqb a b
never a b n = sym (ne_eqb a b n)

not_zero : (z : ℤ) → z ≢ pos 0 → zero_row.counts z ≡ false
not_zero z n = false_from_ne_true (int_eq z (pos 0)) (λ e. n ((Decides-int_eq z (pos 0)).0 e))

-- in rows to a greatest power, where it is 62
positive : (n e a : ℕ) → n ≡ 62 → 2 ^ e ≤ a → a < 2 * 2 ^ e → IsRowOf (rows_to n) (pos a) (n + 2 + min e 62)
positive n e zero is low high = absurd (let p = pow_pos e in omega arith)
positive n e (suc a) is low high =
    parted (λ k. minus_power_row (n - k)) power_row zero_row (n + 1) (n + 1) (pos (suc a)) (n + 2 + min e 62)
    (λ k h. never k (n + 2 + min e 62) (omega arith))
    (not_zero (pos (suc a)) (λ x. cc) ∙ never (n + 1) (n + 2 + min e 62) (omega arith))
    (λ k h. counted_by_power e (suc a) k low high (omega arith)
    ∙ shifted k (min e 62) (n + 1 + (1 + k)) (n + 2 + min e 62) (λ x. omega arith) (λ x. omega arith))
    (omega arith)

negative : (n e a : ℕ) → n ≡ 62 → 2 ^ e ≤ suc a → suc a < 2 * 2 ^ e → IsRowOf (rows_to n) (negsuc a) (n - min e 62)
negative n e a is low high =
    parted (λ k. minus_power_row (n - k)) power_row zero_row (n + 1) (n + 1) (negsuc a) (n - min e 62)
    (λ k h. counted_by_power e (suc a) (n - k) low high (omega arith)
    ∙ shifted (n - k) (min e 62) k (n - min e 62) (λ x. omega arith) (λ x. omega arith))
    (not_zero (negsuc a) (λ x. cc) ∙ never (n + 1) (n - min e 62) (omega arith))
    (λ k h. never (n + 1 + (1 + k)) (n - min e 62) (omega arith))
    (omega arith)

at_zero : (n : ℕ) → n ≡ 62 → IsRowOf (rows_to n) (pos 0) (n + 1)
at_zero n is =
    parted (λ k. minus_power_row (n - k)) power_row zero_row (n + 1) (n + 1) (pos 0) (n + 1)
    (λ k h. none_at_zero (n - k) _ ∙ never k (n + 1) (omega arith))
    (sym (eq-eqb (n + 1) (n + 1) refl))
    (λ k h. none_at_zero k _ ∙ never (n + 1 + (1 + k)) (n + 1) (omega arith))
    (omega arith)

-- the same for a value as the code has it
pub row_of_zero : (z : ℤ) → FitsSigned w64 z → cast_unsigned w64 z ≡ 0 → IsRowOf quantize_rows z 63
unfolding quantize_rows
row_of_zero (pos zero) f e = at_zero 62 refl
row_of_zero (pos (suc a)) f e = absurd (omega arith)
row_of_zero (negsuc a) f e = absurd (let h = f.sfits in omega arith)

pub quantized_zero : IsRowOf quantize_rows (pos 0) 63
unfolding quantize_rows
quantized_zero = at_zero 62 refl

pub row_below_zero : (y z : ℤ) (e power : ℕ) → y ≡ z → int_lt y (pos 0) ≡ true → 2 ^ e ≤ unsigned_abs y
    → unsigned_abs y < 2 * 2 ^ e → power ≡ min e 62 → IsRowOf quantize_rows z (62 - power)
unfolding quantize_rows
row_below_zero (pos a) z e power same lt low high is = absurd (grind (arith, ints))
row_below_zero (negsuc a) z e power same lt low high is =
    let P : ℤ → Type 0 = λ v. IsRowOf (rows_to 62) v (62 - power) in
    let Q : ℕ → Type 0 = λ v. IsRowOf (rows_to 62) (negsuc a) (62 - v) in
    subst P same (subst Q (sym is) (negative 62 e a refl low high))

pub row_above_zero : (y z : ℤ) (e power : ℕ) → y ≡ z → int_lt y (pos 0) ≡ false → 2 ^ e ≤ unsigned_abs y
    → unsigned_abs y < 2 * 2 ^ e → power ≡ min e 62 → IsRowOf quantize_rows z (64 + power)
unfolding quantize_rows
row_above_zero (pos a) z e power same ge low high is =
    let P : ℤ → Type 0 = λ v. IsRowOf (rows_to 62) v (64 + power) in
    let Q : ℕ → Type 0 = λ v. IsRowOf (rows_to 62) (pos a) (64 + v) in
    subst P same (subst Q (sym is) (positive 62 e a refl low high))
row_above_zero (negsuc a) z e power same ge low high is = absurd (grind (arith, ints))

-- the names of the rows to a greatest power
minus_name : (n k : ℕ) → k < n + 1 → name_at (rows_to n) k ≡ Some (neg_ℤ (pos (2 ^ (n - k))))
minus_name n k h =
    let l = length_parts (λ i. minus_power_row (n - i)) power_row zero_row (n + 1) (n + 1) in
    named (rows_to n) (minus_power_row (n - k)) k (omega arith)
    (λ d. first_part (λ i. minus_power_row (n - i)) power_row zero_row (n + 1) (n + 1) k d h)

zero_name : (n : ℕ) → name_at (rows_to n) (n + 1) ≡ Some (pos 0)
zero_name n =
    let l = length_parts (λ i. minus_power_row (n - i)) power_row zero_row (n + 1) (n + 1) in
    named (rows_to n) zero_row (n + 1) (omega arith)
    (λ d. middle_part (λ i. minus_power_row (n - i)) power_row zero_row (n + 1) (n + 1) d)

power_name : (n k j : ℕ) → k < n + 1 → n + 1 + (1 + k) ≡ j → name_at (rows_to n) j ≡ Some (pos (2 ^ k))
power_name n k j h e =
    let l = length_parts (λ i. minus_power_row (n - i)) power_row zero_row (n + 1) (n + 1) in
    named (rows_to n) (power_row k) j (omega arith)
    (λ d. last_part (λ i. minus_power_row (n - i)) power_row zero_row (n + 1) (n + 1) k j d h e)

pub name_of_minus : (k : ℕ) → k < 63 → name_at quantize_rows k ≡ Some (neg_ℤ (pos (2 ^ (62 - k))))
unfolding quantize_rows
name_of_minus k h = minus_name 62 k h

pub name_of_zero : name_at quantize_rows 63 ≡ Some (pos 0)
unfolding quantize_rows
name_of_zero = zero_name 62

pub name_of_power : (k : ℕ) → 63 < k → k < 127 → name_at quantize_rows k ≡ Some (pos (2 ^ (k - 64)))
unfolding quantize_rows
name_of_power k low high = power_name 62 (k - 64) k (omega arith) (omega arith)

pub length_quantize_rows : length quantize_rows ≡ 127
unfolding quantize_rows
length_quantize_rows = length_parts (λ i. minus_power_row (62 - i)) power_row zero_row 63 63

-- the powers fit
pub power_fits : (k : ℕ) → k < 63 → FitsSigned w64 (pos (2 ^ k))
power_fits k h = record { sfits = pow_below k 63 h }

pub opposite : (n : ℕ) (r : ℤ) → n < 2 ^ 63 → r ≡ pos n
    → cast_signed w64 (cast_unsigned w64 (pos 0 -ℤ cast_signed w64 (cast_unsigned w64 r))) ≡ neg_ℤ (pos n)
opposite n r h e = omega (arith, ints)
