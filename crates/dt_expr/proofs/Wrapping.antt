-- What std's methods leave in 64 bits is the representative of the whole number.
use Rattle.std.proofs.Common.{◌≡◌, ℕ, zero, suc, ◌%◌, ◌/◌, ◌^◌, ◌<◌, ◌≤◌, sym, ap, ◌∙◌, arith, ℤ}
use Rattle.std.proofs.Common.{pos, negsuc, ◌*ℤ◌, neg_ℤ, FitsSigned}
use Rattle.std.proofs.Math.Nat.{div-le_self}
use Rattle.std.specs.Prelude.{int_div}
use Rattle.std.specs.Int.{w64, int_wrap, int_wrapping_div, int_shl, cast_signed, cast_unsigned}
use Rattle.dt_expr.specs.Operators.{wrapped, shift_count, shifted_left}
use Rattle.std.proofs.Math.Facts.{Fits-of_z}
use Rattle.std.proofs.Math.Pow.{pow-lt}
use Rattle.std.proofs.lemmas.Int.{to_z-of_z, int_wrap_fits, wrapping_mul-bits, int_wrap-mul_right}

-- the bits of a number below 2^64 stand for its representative
pub bits_wrap : (n : ℕ) → n < 2 ^ 64 → cast_signed w64 n ≡ int_wrap w64 (pos n)
unfolding int_wrap
bits_wrap n h = let e : n ≡ n % 2 ^ 64 = omega arith in ap (cast_signed w64) e

fitting : (z : ℤ) → FitsSigned w64 z → cast_signed w64 (cast_unsigned w64 z) ≡ int_wrap w64 z
fitting z f = to_z-of_z w64 z f ∙ sym (int_wrap_fits w64 z f)

least : (n : ℕ) → n ≤ 2 ^ 63 → FitsSigned w64 (neg_ℤ (pos n))
least zero h = record { sfits = omega arith }
least (suc n) h = record { sfits = omega arith }

-- the quotient, whose bits are those of a number that fits, or of 2^63
pub quotient_wraps : (x y : ℤ) → FitsSigned w64 x → int_wrapping_div w64 x y ≡ int_wrap w64 (int_div x y)
quotient_wraps (pos a) (pos b) f =
    let l : a / b ≤ a = div-le_self a b in
    let h : a < 2 ^ 63 = f.sfits in
    bits_wrap (a / b) (omega arith)
quotient_wraps (pos a) (negsuc b) f =
    let l : a / suc b ≤ a = div-le_self a (suc b) in
    let h : a < 2 ^ 63 = f.sfits in
    fitting (neg_ℤ (pos (a / suc b))) (least (a / suc b) (omega arith))
quotient_wraps (negsuc a) (pos b) f =
    let l : suc a / b ≤ suc a = div-le_self (suc a) b in
    let h : a < 2 ^ 63 = f.sfits in
    fitting (neg_ℤ (pos (suc a / b))) (least (suc a / b) (omega arith))
quotient_wraps (negsuc a) (negsuc b) f =
    let l : suc a / suc b ≤ suc a = div-le_self (suc a) (suc b) in
    let h : a < 2 ^ 63 = f.sfits in
    bits_wrap (suc a / suc b) (omega arith)

-- the shift, which multiplies by the power of two
shift_wraps : (x : ℤ) (k : ℕ) → FitsSigned w64 x → 2 ^ k < 2 ^ 64 → int_shl w64 x k ≡ int_wrap w64 (x *ℤ pos (2 ^ k))
shift_wraps x k f small =
    wrapping_mul-bits w64 (cast_unsigned w64 x) (2 ^ k) (Fits-of_z f).fits small
    ∙ ap (λ z. int_wrap w64 (z *ℤ cast_signed w64 (2 ^ k))) (to_z-of_z w64 x f)
    ∙ ap (λ z. int_wrap w64 (x *ℤ z)) (bits_wrap (2 ^ k) small)
    ∙ int_wrap-mul_right w64 x (pos (2 ^ k))

pub shift_is : (x count : ℤ) (k : ℕ) → FitsSigned w64 x → k < 64 → k ≡ shift_count count
    → int_shl w64 x (k % 64) ≡ shifted_left x count
shift_is x count k f h e =
    let same : k % 64 ≡ k = omega arith in
    ap (int_shl w64 x) same ∙ shift_wraps x k f (pow-lt h)
    ∙ ap (λ n. wrapped (x *ℤ pos (2 ^ n))) e
