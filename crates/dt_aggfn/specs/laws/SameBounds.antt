-- Bounds of the same numbers are the same.
use Rattle.std.proofs.Common.{◌≡◌, ℤ, ap, subst}
use Rattle.std.proofs.Props.{props}
use Rattle.dt_aggfn.specs.Bounds.{AreBounds}
use Rattle.dt_aggfn.specs.declared.levels.Bounds.{Bounds}

bounds_prop : (lower upper step : ℤ) (a b : AreBounds lower upper step) → a ≡ b
bounds_prop lower upper step = hlevel props

abbrev Made : (lower upper step : ℤ) → AreBounds lower upper step → Bounds
Made lower upper step right = record { lower = lower; upper = upper; step = step; right = right }

same_step : (lower upper step step' : ℤ) (a : AreBounds lower upper step) (b : AreBounds lower upper step') → step
    ≡ step'
    → Made lower upper step a ≡ Made lower upper step' b
same_step lower upper step step' a b e =
    subst (λ s. (b : AreBounds lower upper s) → Made lower upper step a ≡ Made lower upper s b) e
    (λ b. ap (Made lower upper step) (bounds_prop lower upper step a b)) b

same_upper : (lower upper upper' step step' : ℤ) (a : AreBounds lower upper step) (b : AreBounds lower upper' step')
    → upper ≡ upper' → step ≡ step' → Made lower upper step a ≡ Made lower upper' step' b
same_upper lower upper upper' step step' a b e f =
    subst (λ s. (b : AreBounds lower s step') → Made lower upper step a ≡ Made lower s step' b) e
    (λ b. same_step lower upper step step' a b f) b

pub same_bounds : (a b : Bounds) → a.lower ≡ b.lower → a.upper ≡ b.upper → a.step ≡ b.step → a ≡ b
same_bounds a b e f g =
    subst (λ s. (right : AreBounds s b.upper b.step) → a ≡ Made s b.upper b.step right) e
    (λ right. same_upper a.lower a.upper b.upper a.step b.step a.right right f g) b.right
