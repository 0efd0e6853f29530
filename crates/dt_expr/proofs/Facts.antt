-- The laws of the operators.
use Rattle.std.proofs.Common.{◌≡◌, ◌≢◌, ℕ, zero, suc, ◌+◌, ◌-◌, ◌*◌, ◌%◌, ◌/◌, ◌^◌, ◌<◌, refl, sym, ap, ◌∙◌}
use Rattle.std.proofs.Common.{arith, ℤ, pos, negsuc, ◌+ℤ◌, ◌-ℤ◌, ◌*ℤ◌, neg_ℤ, ◌≤ℤ◌, FitsSigned}
use Rattle.std.proofs.Math.Nat.{mod-lt, mod-le, div-add-mod'}
use Rattle.std.specs.Prelude.{int_rem, unsigned_abs}
use Rattle.std.specs.Int.{w64, int_wrap, int_div_euclid, int_bit_not, cast_signed, cast_unsigned, int_rem_euclid}
use Rattle.dt_expr.specs.Operators.{wrapped, DifferBy, shift_count}
use Rattle.std.proofs.lemmas.Int.{ints, to_z-of_z, of_z-to_z, SFits-int_wrap, rem_below}

-- a number that fits and its bits
from_bits : (y : ℤ) → FitsSigned w64 y → (k : ℕ) × (y +ℤ pos (k * 2 ^ 64) ≡ pos (cast_unsigned w64 y))
from_bits (pos m) f = (0, omega (arith, ints))
from_bits (negsuc m) f = (1, omega (arith, ints))

-- the bits of the representative
bits_of : ℤ → ℕ
bits_of z = unsigned_abs (int_rem_euclid z (pos (2 ^ 64)))

shown : (z : ℤ) → bits_of z < 2 ^ 64 → (k : ℕ) × (wrapped z +ℤ pos (k * 2 ^ 64) ≡ pos (bits_of z))
unfolding int_wrap bits_of
shown z h =
    let r = from_bits (wrapped z) (SFits-int_wrap w64 z) in
    (r.0, r.1 ∙ ap pos (of_z-to_z w64 (bits_of z) h))

pub wrapped_differs : (z : ℤ) → DifferBy (2 ^ 64) (wrapped z) z
unfolding bits_of
wrapped_differs (pos a) =
    let small : a % 2 ^ 64 < 2 ^ 64 = omega arith in
    let r = shown (pos a) small in
    (r.0 + a / 2 ^ 64, 0, omega (arith, ints, r.1))
wrapped_differs (negsuc a) =
    let small : 2 ^ 64 - 1 - a % 2 ^ 64 < 2 ^ 64 = omega arith in
    let r = shown (negsuc a) small in
    (r.0, a / 2 ^ 64 + 1, omega (arith, ints, r.1))

pub only_one : (a b : ℤ) → FitsSigned w64 a → FitsSigned w64 b → DifferBy (2 ^ 64) a b → a ≡ b
only_one a b f g d = omega (arith, ints, d.2)

some_divisor : (y : ℤ) → y ≢ pos 0 → 0 < unsigned_abs y
some_divisor (pos zero) n = absurd (n refl)
some_divisor (pos (suc k)) n = omega arith
some_divisor (negsuc k) n = omega arith

pub smaller : (x y : ℤ) → y ≢ pos 0 → unsigned_abs (int_rem x y) < unsigned_abs y
smaller x y n = rem_below x y (some_divisor y n)

negative : (n : ℕ) → neg_ℤ (pos n) ≤ℤ pos 0
negative zero = omega (arith, ints)
negative (suc n) = omega (arith, ints)

pub rem_above : (x y : ℤ) → pos 0 ≤ℤ x → pos 0 ≤ℤ int_rem x y
rem_above (pos a) y h = omega (arith, ints)
rem_above (negsuc a) y h = absurd (omega (arith, ints))

pub rem_under : (x y : ℤ) → x ≤ℤ pos 0 → int_rem x y ≤ℤ pos 0
rem_under (pos a) y h = let l = mod-le a (unsigned_abs y) in omega (arith, ints)
rem_under (negsuc a) y h = negative (suc a % unsigned_abs y)

pub count_below : (z : ℤ) → shift_count z < 64
count_below (pos a) = omega arith
count_below (negsuc a) = omega arith

pub count_differs : (z : ℤ) → DifferBy 64 (pos (shift_count z)) z
count_differs (pos a) = (a / 64, 0, omega (arith, ints))
count_differs (negsuc a) = (0, a / 64 + 1, omega (arith, ints))

pub rounded : (z : ℤ) (m : ℕ) → 0 < m
    → (rest : ℕ) × (rest < m) × (z ≡ int_div_euclid z (pos m) *ℤ pos m +ℤ pos rest)
rounded (pos a) m h = (a % m, mod-lt a h, ap pos (sym (div-add-mod' a m)))
rounded (negsuc a) m h =
    let small = mod-lt a h in
    let split = div-add-mod' a m in
    (m - 1 - a % m, omega arith, omega (arith, ints))

-- the negation less one, by the sign
one_less : (a : ℕ) → neg_ℤ (pos a) -ℤ pos 1 ≡ negsuc a
one_less zero = omega (arith, ints)
one_less (suc a) = omega (arith, ints)

pub complement : (z : ℤ) → FitsSigned w64 z → int_bit_not w64 z ≡ neg_ℤ z -ℤ pos 1
complement (pos a) f =
    let h : a < 2 ^ 63 = f.sfits in
    let bits : 2 ^ 64 - 1 - a ≡ 2 ^ 64 - suc a = omega arith in
    let fits : FitsSigned w64 (negsuc a) = record { sfits = h } in
    ap (cast_signed w64) bits ∙ to_z-of_z w64 (negsuc a) fits ∙ sym (one_less a)
complement (negsuc a) f =
    let h : a < 2 ^ 63 = f.sfits in
    let bits : 2 ^ 64 - 1 - (2 ^ 64 - suc a) ≡ a = omega arith in
    let fits : FitsSigned w64 (pos a) = record { sfits = h } in
    let back : pos a ≡ pos (suc a) -ℤ pos 1 = omega (arith, ints) in
    ap (cast_signed w64) bits ∙ to_z-of_z w64 (pos a) fits ∙ back
