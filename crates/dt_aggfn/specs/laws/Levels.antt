-- Where the levels of an `lquantize` begin.
use Rattle.std.proofs.Common.{◌≡◌, ℕ, zero, suc, ◌+◌, ◌*◌, ◌/◌, ◌%◌, ◌<◌, ◌≤◌, true, false, refl, sym, ap, subst, ◌∙◌}
use Rattle.std.proofs.Common.{arith, ℤ, pos, negsuc, ◌+ℤ◌, ◌-ℤ◌, ◌*ℤ◌}
use Rattle.std.proofs.Math.Nat.{mul-le-mul_right}
use Rattle.std.specs.Prelude.{int_lt, int_le, int_div, int_rem, unsigned_abs, FitsSigned}
use Rattle.std.specs.Int.{w64}
use Rattle.std.specs.Ordering.{int_eq}
use Rattle.std.proofs.lemmas.Int.{ints}
use Rattle.dt_aggfn.specs.declared.levels.Bounds.{Bounds}
use Rattle.dt_aggfn.specs.Rows.{level_from, levels_of}

-- what bounds say in natural numbers
even : (a d : ℤ) → int_lt (pos 0) a ≡ true → int_lt (pos 0) d ≡ true → int_rem a d ≡ pos 0
    → a ≡ pos (unsigned_abs (int_div a d) * unsigned_abs d)
even (pos a) (pos zero) p q e = absurd (grind (arith, ints))
even (pos a) (pos (suc d)) p q e =
    let r : a % suc d ≡ 0 = cc in
    ap (λ n. pos n) (let s : a ≡ a / suc d * suc d = omega arith in s)
even (pos a) (negsuc d) p q e = absurd (grind (arith, ints))
even (negsuc a) d p q e = absurd (grind (arith, ints))

step_size : (d : ℤ) → int_lt (pos 0) d ≡ true → d ≡ pos (unsigned_abs d)
step_size (pos d) p = refl
step_size (negsuc d) p = absurd (grind (arith, ints))

some_step : (d : ℤ) → int_lt (pos 0) d ≡ true → 0 < unsigned_abs d
some_step (pos d) p = grind (arith, ints)
some_step (negsuc d) p = absurd (grind (arith, ints))

-- the step as a natural number
abbrev pub step_of : Bounds → ℕ
step_of bounds = unsigned_abs bounds.step

pub step_is : (bounds : Bounds) → bounds.step ≡ pos (step_of bounds)
step_is bounds = step_size bounds.step bounds.right.forward

pub step_some : (bounds : Bounds) → 0 < step_of bounds
step_some bounds = some_step bounds.step bounds.right.forward

wide : (a b : ℤ) → int_lt a b ≡ true → int_lt (pos 0) (b -ℤ a) ≡ true
wide a b h = grind (arith, ints)

width_is : (bounds : Bounds) → bounds.upper -ℤ bounds.lower ≡ pos (levels_of bounds * step_of bounds)
width_is bounds =
    even (bounds.upper -ℤ bounds.lower) bounds.step (wide bounds.lower bounds.upper bounds.right.rising)
    bounds.right.forward bounds.right.even

-- where a level begins, above the lower bound, and the upper bound so
pub from_is : (bounds : Bounds) (k : ℕ) → level_from bounds k ≡ bounds.lower +ℤ pos (k * step_of bounds)
from_is bounds k = ap (λ d. bounds.lower +ℤ (pos k *ℤ d)) (step_is bounds)

pub upper_is : (bounds : Bounds) → bounds.upper ≡ bounds.lower +ℤ pos (levels_of bounds * step_of bounds)
upper_is bounds = let w = width_is bounds in omega (arith, ints)

-- the level after the last would begin at the upper bound
pub upper_from : (bounds : Bounds) → bounds.upper ≡ level_from bounds (levels_of bounds)
upper_from bounds = upper_is bounds ∙ sym (from_is bounds (levels_of bounds))

apart : (l : ℤ) (x y : ℕ) → x < y → int_eq (l +ℤ pos x) (l +ℤ pos y) ≡ false
apart l x y less = grind (arith, ints)

-- no level begins at the upper bound
pub level_is_no_bound : (bounds : Bounds) (k : ℕ) → k < levels_of bounds
    → int_eq (level_from bounds k) bounds.upper ≡ false
level_is_no_bound bounds k within =
    let s = step_some bounds in
    let m : (k + 1) * step_of bounds ≤ levels_of bounds * step_of bounds =
    mul-le-mul_right (step_of bounds) (let l : k + 1 ≤ levels_of bounds = omega (arith, within) in l) in
    ap (λ z. int_eq z bounds.upper) (from_is bounds k)
    ∙ ap (int_eq (bounds.lower +ℤ pos (k * step_of bounds))) (upper_is bounds)
    ∙ apart bounds.lower (k * step_of bounds) (levels_of bounds * step_of bounds) (omega (arith, m, s))

-- in 64 bits
fits_between : (l u a : ℤ) → FitsSigned w64 l → FitsSigned w64 u → int_le l a ≡ true → int_le a u ≡ true
    → FitsSigned w64 a
fits_between l (pos u) (pos a) f g low high = record { sfits = let y = g.sfits in grind (arith, ints) }
fits_between l (negsuc u) (pos a) f g low high = absurd (grind (arith, ints))
fits_between (pos l) u (negsuc a) f g low high = absurd (grind (arith, ints))
fits_between (negsuc l) u (negsuc a) f g low high = record { sfits = let y = f.sfits in grind (arith, ints) }

above_fits : (l u : ℤ) (m w : ℕ) → FitsSigned w64 l → FitsSigned w64 u → u ≡ l +ℤ pos w → m ≤ w
    → FitsSigned w64 (l +ℤ pos m)
above_fits l u m w f g e h = fits_between l u (l +ℤ pos m) f g (grind (arith, ints)) (grind (arith, ints))

-- where the bounds fit, so does each level's beginning
pub level_fits : (bounds : Bounds) (k : ℕ) → k ≤ levels_of bounds → FitsSigned w64 bounds.lower
    → FitsSigned w64 bounds.upper → FitsSigned w64 (level_from bounds k)
level_fits bounds k within f g =
    let m : k * step_of bounds ≤ levels_of bounds * step_of bounds =
    mul-le-mul_right (step_of bounds) within in
    subst (FitsSigned w64) (sym (from_is bounds k))
    (above_fits bounds.lower bounds.upper (k * step_of bounds) (levels_of bounds * step_of bounds) f g
    (upper_is bounds) m)
