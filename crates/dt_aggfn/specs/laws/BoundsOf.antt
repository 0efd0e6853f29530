-- Three numbers have one answer: their bounds, or none.
use Rattle.std.proofs.Common.{◌≡◌, ℤ, Option, Some, None, refl, sym, ap, ◌∙◌, subst}
use Rattle.dt_aggfn.specs.Bounds.{AreBounds}
use Rattle.dt_aggfn.specs.BoundsOf.{IsBoundsOf, bounds_of, are_bounds_of}
use Rattle.dt_aggfn.specs.declared.levels.Bounds.{Bounds}
use Rattle.dt_aggfn.specs.laws.SameBounds.{same_bounds}

-- three numbers have one answer
one_answer : (lower upper step : ℤ) (a b : Option Bounds) → IsBoundsOf lower upper step a
    → IsBoundsOf lower upper step b → a ≡ b
one_answer lower upper step (Some a) (Some b) e f =
    ap Some (same_bounds a b (e.0 ∙ sym f.0) (e.1 ∙ sym f.1) (e.2 ∙ sym f.2))
one_answer lower upper step (Some a) None e f =
    absurd (f (subst (λ l. AreBounds l upper step) e.0 (subst (λ u. AreBounds a.lower u step) e.1
    (subst (λ s. AreBounds a.lower a.upper s) e.2 a.right))))
one_answer lower upper step None (Some b) e f =
    absurd (e (subst (λ l. AreBounds l upper step) f.0 (subst (λ u. AreBounds b.lower u step) f.1
    (subst (λ s. AreBounds b.lower b.upper s) f.2 b.right))))
one_answer lower upper step None None e f = refl

pub no_bounds_of : (lower upper step : ℤ) → (AreBounds lower upper step → ⊥) → None ≡ bounds_of lower upper step
no_bounds_of lower upper step wrong =
    one_answer lower upper step None (bounds_of lower upper step) wrong (are_bounds_of lower upper step)

pub some_bounds_of : (lower upper step : ℤ) (b : Bounds) → b.lower ≡ lower → b.upper ≡ upper → b.step ≡ step
    → Some b ≡ bounds_of lower upper step
some_bounds_of lower upper step b e f g =
    one_answer lower upper step (Some b) (bounds_of lower upper step) (e, f, g) (are_bounds_of lower upper step)

-- bounds are those of their own numbers
pub bounds_of_own : (b : Bounds) → bounds_of b.lower b.upper b.step ≡ Some b
bounds_of_own b = sym (some_bounds_of b.lower b.upper b.step b refl refl refl)
