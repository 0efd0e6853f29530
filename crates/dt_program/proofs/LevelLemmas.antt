-- The rules that bounds break which rise by a step: one is tested in 128 bits, the other is what is left.
use mir.Syntax.{w128}
use mir.Val.{SFits}
use Rattle.std.proofs.Common.{◌≡◌, ◌<◌, ◌^◌, true, false, ℤ, pos, to_z, of_z, int_lt}
use Rattle.std.proofs.Common.{int_rem, int_div, int_le, ◌-ℤ◌, Bool, Some, refl, sym, ap, ◌∙◌, arith}
use Rattle.std.specs.Ordering.{int_eq}
use Rattle.std.proofs.lemmas.Bool.Decides.{Decides-int_eq}
use Rattle.std.proofs.lemmas.Int.{to_z-of_z}
use Rattle.std.specs.Int.Signed.{mag, mag_rem, rem_z}
use Rattle.dt_aggfn.specs.Bounds.{AreBounds}
use Rattle.dt_aggfn.specs.Limits.{levels_max}
use Rattle.dt_program.specs.Bounds.{bounds_fault}
use Rattle.dt_program.specs.declared.clause.BoundsFault.TheVariants.{Uneven, TooMany}

no_rest : (width by : ℤ) → mag width < 2 ^ 127 → of_z w128 (rem_z width by) ≡ 0 → int_rem width by ≡ pos 0
no_rest width by h e =
    let m = mag_rem width by in
    let k : mag (rem_z width by) < 2 ^ 127 = omega arith in
    let f : SFits w128 (rem_z width by) = record { sfits = k } in
    sym (to_z-of_z w128 (rem_z width by) f) ∙ ap (to_z w128) e

false_where_not : (b : Bool) → (b ≡ true → ⊥) → b ≡ false
false_where_not true n = absurd (n refl)
false_where_not false n = refl

module _ (lower upper step : ℤ) (rising : int_lt lower upper ≡ true) (forward : int_lt (pos 0) step ≡ true) where
  abbrev rest : ℤ
  rest = int_rem (upper -ℤ lower) step

  pub are_uneven : (of_z w128 (rem_z (upper -ℤ lower) step) ≡ 0 → ⊥) → bounds_fault lower upper step ≡ Some Uneven
  are_uneven some =
      let uneven : int_eq rest (pos 0) ≡ false =
      false_where_not _ (λ e. some (ap (of_z w128) ((Decides-int_eq rest (pos 0)).0 e))) in
      rw (rising, forward, uneven) refl

  pub are_too_many : mag (upper -ℤ lower) < 2 ^ 127 → of_z w128 (rem_z (upper -ℤ lower) step) ≡ 0
      → (AreBounds lower upper step → ⊥) → bounds_fault lower upper step ≡ Some TooMany
  are_too_many fits none wrong =
      let even : rest ≡ pos 0 = no_rest (upper -ℤ lower) step fits none in
      let test : int_eq rest (pos 0) ≡ true = (Decides-int_eq rest (pos 0)).1 even in
      let many : int_le (int_div (upper -ℤ lower) step) (pos levels_max) ≡ false =
      false_where_not _
      (λ few. wrong (record { rising = rising; forward = forward; even = even; few = few })) in
      rw (rising, forward, test, many) refl
