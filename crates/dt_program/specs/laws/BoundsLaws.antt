-- Numbers are bounds exactly where they break none of the rules.
use Rattle.std.proofs.Common.{◌≡◌, Bool, true, false, Some, None, cond, refl, ℤ, pos}
use Rattle.std.specs.Prelude.{◌-ℤ◌, int_lt, int_le, int_div, int_rem}
use Rattle.std.specs.Ordering.{int_eq}
use Rattle.std.proofs.lemmas.Bool.Decides.{Decides-int_eq}
use Rattle.dt_aggfn.specs.Bounds.{AreBounds}
use Rattle.dt_aggfn.specs.Limits.{levels_max}
use Rattle.dt_program.specs.Bounds.{bounds_fault}
use Rattle.dt_program.specs.declared.clause.BoundsFault.TheVariants.{NotRising, NoStep, Uneven, TooMany}

-- all rules are kept where none is broken
all_kept : (rising forward even few : Bool)
    → cond rising (cond forward (cond even (cond few None (Some TooMany)) (Some Uneven)) (Some NoStep)) (Some NotRising)
    ≡ None → (rising ≡ true) × (forward ≡ true) × (even ≡ true) × (few ≡ true)
all_kept true true true true e = (refl, refl, refl, refl)
all_kept true true true false e = cc
all_kept true true false few e = cc
all_kept true false even few e = cc
all_kept false forward even few e = cc

pub faultless_bounds : (lower upper step : ℤ) → bounds_fault lower upper step ≡ None → AreBounds lower upper step
faultless_bounds lower upper step e =
    let test : Bool = int_eq (int_rem (upper -ℤ lower) step) (pos 0) in
    let most : Bool = int_le (int_div (upper -ℤ lower) step) (pos levels_max) in
    let kept = all_kept (int_lt lower upper) (int_lt (pos 0) step) test most e in
    record {
      rising = kept.0;
      forward = kept.1;
      even = (Decides-int_eq (int_rem (upper -ℤ lower) step) (pos 0)).0 kept.2;
      few = kept.3;
    }

pub bounds_faultless : (lower upper step : ℤ) → AreBounds lower upper step → bounds_fault lower upper step ≡ None
bounds_faultless lower upper step h =
    let even = (Decides-int_eq (int_rem (upper -ℤ lower) step) (pos 0)).1 h.even in
    rw (h.rising, h.forward, even, h.few) refl
