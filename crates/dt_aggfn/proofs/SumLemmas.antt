-- The wrapped sum of a bag, when a value is added and when two bags are joined.
use Rattle.std.proofs.Common.{◌≡◌, ℕ, ◌+◌, ◌%◌, ◌^◌, ◌<◌, List, [], ◌∷◌, ◌++◌, sym, ap, ◌∙◌, arith, ℤ, pos, ◌+ℤ◌}
use Rattle.std.proofs.Common.{FitsSigned}
use Rattle.std.specs.Int.{w64, int_wrap, cast_signed, cast_unsigned}
use Rattle.std.specs.List.{fold}
use Rattle.std.proofs.Math.Facts.{Fits-of_z}
use Rattle.std.proofs.lemmas.Int.{ints, to_z-of_z, of_z-to_z, int_wrap_fits, wrapping_add-bits, int_wrap-add_left}
use Rattle.std.proofs.lemmas.Int.{int_wrap-add_right, SFits-int_wrap}
use Rattle.std.proofs.lemmas.List.Sums.{fold-append}
use Rattle.dt_aggfn.specs.Cells.{sum_of, word_of}

-- words are added as their numbers are
pub words_added : (x y : ℤ) → FitsSigned w64 x → FitsSigned w64 y
    → (word_of x + word_of y) % 2 ^ 64 ≡ word_of (int_wrap w64 (x +ℤ y))
words_added x y f g =
    let total : ℕ = (word_of x + word_of y) % 2 ^ 64 in
    let small : total < 2 ^ 64 = omega arith in
    sym (of_z-to_z w64 total small)
    ∙ ap (cast_unsigned w64) (wrapping_add-bits w64 (word_of x) (word_of y) (Fits-of_z f).fits (Fits-of_z g).fits
    ∙ ap (λ z. int_wrap w64 (z +ℤ cast_signed w64 (word_of y))) (to_z-of_z w64 x f)
    ∙ ap (λ z. int_wrap w64 (x +ℤ z)) (to_z-of_z w64 y g))

-- a sum from a start
pub sum_from : (s : ℤ) (bag : List ℤ) → fold ◌+ℤ◌ s bag ≡ s +ℤ fold ◌+ℤ◌ (pos 0) bag
sum_from s [] = omega (arith, ints)
sum_from s (z ∷ bag) =
    let whole = sum_from (s +ℤ z) bag in
    let rest = sum_from (pos 0 +ℤ z) bag in
    omega (arith, ints)

whole_sum : (a b : List ℤ) → fold ◌+ℤ◌ (pos 0) (a ++ b) ≡ fold ◌+ℤ◌ (pos 0) a +ℤ fold ◌+ℤ◌ (pos 0) b
whole_sum a b = fold-append ◌+ℤ◌ (pos 0) a b ∙ sum_from (fold ◌+ℤ◌ (pos 0) a) b

pub sum_joined : (a b : List ℤ) → (word_of (sum_of a) + word_of (sum_of b)) % 2 ^ 64 ≡ word_of (sum_of (a ++ b))
sum_joined a b =
    let x : ℤ = fold ◌+ℤ◌ (pos 0) a in
    let y : ℤ = fold ◌+ℤ◌ (pos 0) b in
    words_added (sum_of a) (sum_of b) (SFits-int_wrap w64 x) (SFits-int_wrap w64 y)
    ∙ ap (cast_unsigned w64) (int_wrap-add_left w64 x (int_wrap w64 y) ∙ int_wrap-add_right w64 x y
    ∙ ap (int_wrap w64) (sym (whole_sum a b)))

-- the sum of one value
pub sum_of_one : (z : ℤ) → FitsSigned w64 z → sum_of (z ∷ []) ≡ z
sum_of_one z f = ap (int_wrap w64) (let e : pos 0 +ℤ z ≡ z = omega (arith, ints) in e) ∙ int_wrap_fits w64 z f

pub sum_more : (bag : List ℤ) (z : ℤ) → FitsSigned w64 z
    → (word_of (sum_of bag) + word_of z) % 2 ^ 64 ≡ word_of (sum_of (bag ++ z ∷ []))
sum_more bag z f =
    ap (λ y. (word_of (sum_of bag) + word_of y) % 2 ^ 64) (sym (sum_of_one z f)) ∙ sum_joined bag (z ∷ [])

pub sum_fits : (bag : List ℤ) → FitsSigned w64 (sum_of bag)
sum_fits bag = SFits-int_wrap w64 (fold ◌+ℤ◌ (pos 0) bag)
