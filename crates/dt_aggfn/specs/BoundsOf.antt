-- The bounds of three numbers.
use Rattle.std.specs.Prelude.{◌≡◌, ◌⊎◌, ℤ, pos, ◌-ℤ◌, int_lt, int_le, int_div, int_rem, Bool, true, false, Option, Some, None}
use Rattle.std.specs.Ordering.{int_eq}
use Rattle.std.proofs.Common.{⊎_elim, inl, inr, refl, sym, ◌∙◌}
use Rattle.std.proofs.lemmas.Bool.{cases_Bool, false≢true}
use Rattle.std.proofs.lemmas.Bool.Decides.{Decides-int_eq}
use Rattle.dt_aggfn.specs.Bounds.{AreBounds}
use Rattle.dt_aggfn.specs.declared.levels.Bounds.{Bounds}
use Rattle.dt_aggfn.specs.Limits.{levels_max}

-- Three numbers give these bounds: the bounds have them, and where there are none, the numbers aren't right.
abbrev pub IsBoundsOf : (lower upper step : ℤ) → Option Bounds → Type 0
IsBoundsOf lower upper step None = AreBounds lower upper step → ⊥
IsBoundsOf lower upper step (Some b) = (b.lower ≡ lower) × (b.upper ≡ upper) × (b.step ≡ step)

-- what isn't so where a test that it passes is false
refused : (test : Bool) (P : Type 0) → (P → test ≡ true) → test ≡ false → P → ⊥
refused test P passes failed p = false≢true (sym failed ∙ passes p)

-- three numbers are right or they aren't, as four tests tell
right_or_not : (lower upper step : ℤ) → AreBounds lower upper step ⊎ (AreBounds lower upper step → ⊥)
right_or_not lower upper step =
    let width = upper -ℤ lower in
    let rest = Decides-int_eq (int_rem width step) (pos 0) in
    let Right = AreBounds lower upper step in
    ⊎_elim
    (λ rising. ⊎_elim
    (λ forward. ⊎_elim
    (λ even. ⊎_elim
    (λ few. inl (record { rising = rising; forward = forward; even = rest.0 even; few = few }))
    (λ failed. inr (refused (int_le (int_div width step) (pos levels_max)) Right (λ r. r.few) failed))
    (cases_Bool (int_le (int_div width step) (pos levels_max))))
    (λ failed. inr (refused (int_eq (int_rem width step) (pos 0)) Right (λ r. rest.1 r.even) failed))
    (cases_Bool (int_eq (int_rem width step) (pos 0))))
    (λ failed. inr (refused (int_lt (pos 0) step) Right (λ r. r.forward) failed))
    (cases_Bool (int_lt (pos 0) step)))
    (λ failed. inr (refused (int_lt lower upper) Right (λ r. r.rising) failed))
    (cases_Bool (int_lt lower upper))

some_bounds : (lower upper step : ℤ) → (found : Option Bounds) × IsBoundsOf lower upper step found
some_bounds lower upper step = ⊎_elim
    (λ right. (
      Some (record { lower = lower; upper = upper; step = step; right = right }),
      (refl, refl, refl),
    ))
    (λ wrong. (None, wrong))
    (right_or_not lower upper step)

-- the bounds of three numbers, where they are right
pub bounds_of : (lower upper step : ℤ) → Option Bounds
bounds_of lower upper step = (some_bounds lower upper step).0

pub are_bounds_of : (lower upper step : ℤ) → IsBoundsOf lower upper step (bounds_of lower upper step)
unfolding bounds_of
are_bounds_of lower upper step = (some_bounds lower upper step).1
