-- Each value is counted by exactly one row.
use Rattle.std.proofs.Common.{ℕ, zero, suc, ◌+◌, ◌-◌, ◌*◌, ◌^◌, ◌<◌, ◌≤◌, refl, ⊎_elim, arith, ℤ, pos, negsuc, min}
use Rattle.std.specs.Prelude.{int_lt}
use Rattle.std.proofs.Math.Nat.{two-pow-succ}
use Rattle.std.proofs.lemmas.Bool.{cases_Bool, le-ltb}
use Rattle.std.proofs.lemmas.Nat.{leading_top}
use Rattle.dt_aggfn.specs.declared.levels.Bounds.{Bounds}
use Rattle.dt_aggfn.specs.Rows.{quantize_rows, lquantize_rows, IsRowOf}
use Rattle.dt_aggfn.proofs.PowerLemmas.{quantized_zero, row_below_zero, row_above_zero}
use Rattle.dt_aggfn.proofs.LevelRowLemmas.{value_below, value_within, value_from_upper}

below_power : (a : ℕ) → a < 2 ^ a
below_power zero = omega arith
below_power (suc a) = let h = below_power a in let t = two-pow-succ a in omega arith

-- a number above 0 lies from one power of two to the next
between_powers : (a : ℕ) → 0 < a → (e : ℕ) × (2 ^ e ≤ a) × (a < 2 * 2 ^ e)
between_powers a some =
    let (e, k, low, high) = leading_top a a some (below_power a) in
    let t = two-pow-succ e in
    (e, low, omega arith)

pub one_quantize_row : (z : ℤ) → (index : ℕ) × IsRowOf quantize_rows z index
one_quantize_row (pos zero) = (63, quantized_zero)
one_quantize_row (pos (suc a)) =
    let (e, low, high) = between_powers (suc a) (omega arith) in
    let above = le-ltb (suc a) 0 (omega arith) in
    (64 + min e 62, row_above_zero (pos (suc a)) (pos (suc a)) e (min e 62) refl above low high refl)
one_quantize_row (negsuc a) =
    let (e, low, high) = between_powers (suc a) (omega arith) in
    (62 - min e 62, row_below_zero (negsuc a) (negsuc a) e (min e 62) refl refl low high refl)

pub one_lquantize_row : (bounds : Bounds) (z : ℤ) → (index : ℕ) × IsRowOf (lquantize_rows bounds) z index
one_lquantize_row bounds z =
    ⊎_elim (λ below. (0, value_below bounds z below))
    (λ low. ⊎_elim (λ high. (_, value_within bounds z low high)) (λ past. (_, value_from_upper bounds z low past))
    (cases_Bool (int_lt z bounds.upper)))
    (cases_Bool (int_lt z bounds.lower))
