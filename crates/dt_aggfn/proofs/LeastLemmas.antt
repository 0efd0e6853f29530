-- The least and the greatest value of a bag, when a value is added and when two bags are joined.
use Rattle.std.proofs.Common.{◌≡◌, List, [], ◌∷◌, ◌++◌, refl, ap, ◌∙◌, arith, ℤ, FitsSigned, ◌≢◌}
use Rattle.std.specs.Int.{w64, int_min, int_max}
use Rattle.std.specs.List.{fold, AllByRecursion}
use Rattle.std.proofs.lemmas.Int.{ints, clamps}
use Rattle.std.proofs.lemmas.List.Sums.{fold-append}
use Rattle.dt_aggfn.specs.Cells.{least_of, greatest_of, IsBag}

min_assoc : (a b c : ℤ) → int_min (int_min a b) c ≡ int_min a (int_min b c)
min_assoc a b c = omega (arith, ints, clamps)

max_assoc : (a b c : ℤ) → int_max (int_max a b) c ≡ int_max a (int_max b c)
max_assoc a b c = omega (arith, ints, clamps)

-- a choice of one of two numbers, as `int_min` and `int_max` are
min_from : (a z : ℤ) (bag : List ℤ) → fold int_min (int_min a z) bag ≡ int_min a (fold int_min z bag)
min_from a z [] = refl
min_from a z (y ∷ bag) = ap (λ x. fold int_min x bag) (min_assoc a z y) ∙ min_from a (int_min z y) bag

max_from : (a z : ℤ) (bag : List ℤ) → fold int_max (int_max a z) bag ≡ int_max a (fold int_max z bag)
max_from a z [] = refl
max_from a z (y ∷ bag) = ap (λ x. fold int_max x bag) (max_assoc a z y) ∙ max_from a (int_max z y) bag

pub least_joined : (a b : List ℤ) → a ≢ [] → b ≢ [] → least_of (a ++ b) ≡ int_min (least_of a) (least_of b)
least_joined [] b n m = absurd (n refl)
least_joined (x ∷ a) [] n m = absurd (m refl)
least_joined (x ∷ a) (y ∷ b) n m = fold-append int_min x a (y ∷ b) ∙ min_from (fold int_min x a) y b

pub greatest_joined : (a b : List ℤ) → a ≢ [] → b ≢ []
    → greatest_of (a ++ b) ≡ int_max (greatest_of a) (greatest_of b)
greatest_joined [] b n m = absurd (n refl)
greatest_joined (x ∷ a) [] n m = absurd (m refl)
greatest_joined (x ∷ a) (y ∷ b) n m = fold-append int_max x a (y ∷ b) ∙ max_from (fold int_max x a) y b

-- both are 64-bit numbers where the values are
min_fits : (x y : ℤ) → FitsSigned w64 x → FitsSigned w64 y → FitsSigned w64 (int_min x y)
min_fits x y f g = grind (arith, ints)

max_fits : (x y : ℤ) → FitsSigned w64 x → FitsSigned w64 y → FitsSigned w64 (int_max x y)
max_fits x y f g = grind (arith, ints)

fold_min_fits : (x : ℤ) (bag : List ℤ) → FitsSigned w64 x → AllByRecursion (λ z. FitsSigned w64 z) bag
    → FitsSigned w64 (fold int_min x bag)
fold_min_fits x [] f g = f
fold_min_fits x (y ∷ bag) f g = fold_min_fits (int_min x y) bag (min_fits x y f g.0) g.1

fold_max_fits : (x : ℤ) (bag : List ℤ) → FitsSigned w64 x → AllByRecursion (λ z. FitsSigned w64 z) bag
    → FitsSigned w64 (fold int_max x bag)
fold_max_fits x [] f g = f
fold_max_fits x (y ∷ bag) f g = fold_max_fits (int_max x y) bag (max_fits x y f g.0) g.1

least_fits_by : (bag : List ℤ) → bag ≢ [] → AllByRecursion (λ z. FitsSigned w64 z) bag
    → FitsSigned w64 (least_of bag)
least_fits_by [] n f = absurd (n refl)
least_fits_by (x ∷ bag) n f = fold_min_fits x bag f.0 f.1

greatest_fits_by : (bag : List ℤ) → bag ≢ [] → AllByRecursion (λ z. FitsSigned w64 z) bag
    → FitsSigned w64 (greatest_of bag)
greatest_fits_by [] n f = absurd (n refl)
greatest_fits_by (x ∷ bag) n f = fold_max_fits x bag f.0 f.1

pub least_fits : (bag : List ℤ) → IsBag bag → FitsSigned w64 (least_of bag)
least_fits bag is = least_fits_by bag is.some is.words

pub greatest_fits : (bag : List ℤ) → IsBag bag → FitsSigned w64 (greatest_of bag)
greatest_fits bag is = greatest_fits_by bag is.some is.words
