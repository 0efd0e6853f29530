-- What the code does to a cell when a value is added, for each function.
use Rattle.std.proofs.Common.{◌≡◌, ℕ, ◌+◌, ◌%◌, ◌^◌, List, [], ◌∷◌, ◌++◌, length, get_or, set, sym, ap, ◌∙◌, arith, ℤ}
use Rattle.std.proofs.Common.{FitsSigned, ◌≢◌}
use Rattle.std.specs.Int.{w64, int_min, int_max, cast_signed}
use Rattle.std.proofs.lemmas.List.{length_push}
use Rattle.std.proofs.lemmas.Int.{to_z-of_z}
use Rattle.dt_aggfn.specs.declared.levels.Bounds.{Bounds}
use Rattle.dt_aggfn.specs.declared.function.AggFn.TheVariants.{Count, Sum, Avg, Min, Max, Quantize, Lquantize}
use Rattle.dt_aggfn.specs.Rows.{quantize_rows, lquantize_rows, IsRowOf}
use Rattle.dt_aggfn.specs.Cells.{cell_of, word_of, least_of, greatest_of, sum_of, IsBag}
use Rattle.dt_aggfn.proofs.CountLemmas.{more_before}
use Rattle.dt_aggfn.proofs.SumLemmas.{sum_more}
use Rattle.dt_aggfn.proofs.LeastLemmas.{least_joined, greatest_joined, least_fits, greatest_fits}

counted : (bag : List ℤ) (z : ℤ) → IsBag bag → (length bag + 1) % 2 ^ 64 ≡ length (bag ++ z ∷ [])
counted bag z is = let few = is.few in omega (arith, length_push bag z)

pub add_count : (cell : List ℕ) (z : ℤ) (bag : List ℤ) (rest : List ℕ) → IsBag bag → cell ≡ cell_of Count bag ++ rest
    → set cell 0 ((get_or cell 0 0 + 1) % 2 ^ 64) ≡ cell_of Count (bag ++ z ∷ []) ++ rest
unfolding cell_of
add_count cell z bag rest is h = rw h (ap (λ n. n ∷ rest) (counted bag z is))

pub add_sum : (cell : List ℕ) (z : ℤ) (bag : List ℤ) (rest : List ℕ) → FitsSigned w64 z → IsBag bag → cell ≡ cell_of Sum bag ++ rest
    → set cell 0 ((get_or cell 0 0 + word_of z) % 2 ^ 64) ≡ cell_of Sum (bag ++ z ∷ []) ++ rest
unfolding cell_of
add_sum cell z bag rest f is h = rw h (ap (λ n. n ∷ rest) (sum_more bag z f))

pub add_avg : (cell : List ℕ) (z : ℤ) (bag : List ℤ) (rest : List ℕ) → FitsSigned w64 z → IsBag bag → cell ≡ cell_of Avg bag ++ rest
    → set (set cell 0 ((get_or cell 0 0 + 1) % 2 ^ 64)) 1
    ((get_or (set cell 0 ((get_or cell 0 0 + 1) % 2 ^ 64)) 1 0 + word_of z) % 2 ^ 64)
    ≡ cell_of Avg (bag ++ z ∷ []) ++ rest
unfolding cell_of
add_avg cell z bag rest f is h =
    rw h (ap (λ n. n ∷ (((word_of (sum_of bag) + word_of z) % 2 ^ 64) ∷ rest)) (counted bag z is)
    ∙ ap (λ n. length (bag ++ z ∷ []) ∷ (n ∷ rest)) (sum_more bag z f))

one_more : (z : ℤ) → z ∷ [] ≢ []
one_more z e = cc

pub add_min : (cell : List ℕ) (z : ℤ) (bag : List ℤ) (rest : List ℕ) → IsBag bag → cell ≡ cell_of Min bag ++ rest
    → set cell 0 (word_of (int_min (cast_signed w64 (get_or cell 0 0)) z)) ≡ cell_of Min (bag ++ z ∷ []) ++ rest
unfolding cell_of
add_min cell z bag rest is h =
    rw h (ap (λ y. word_of (int_min y z) ∷ rest) (to_z-of_z w64 (least_of bag) (least_fits bag is))
    ∙ ap (λ y. word_of y ∷ rest) (sym (least_joined bag (z ∷ []) is.some (one_more z))))

pub add_max : (cell : List ℕ) (z : ℤ) (bag : List ℤ) (rest : List ℕ) → IsBag bag → cell ≡ cell_of Max bag ++ rest
    → set cell 0 (word_of (int_max (cast_signed w64 (get_or cell 0 0)) z)) ≡ cell_of Max (bag ++ z ∷ []) ++ rest
unfolding cell_of
add_max cell z bag rest is h =
    rw h (ap (λ y. word_of (int_max y z) ∷ rest) (to_z-of_z w64 (greatest_of bag) (greatest_fits bag is))
    ∙ ap (λ y. word_of y ∷ rest) (sym (greatest_joined bag (z ∷ []) is.some (one_more z))))

pub add_quantize : (cell : List ℕ) (z : ℤ) (index : ℕ) (bag : List ℤ) (rest : List ℕ) → IsRowOf quantize_rows z index → IsBag bag
    → cell ≡ cell_of Quantize bag ++ rest
    → set cell index ((get_or cell index 0 + 1) % 2 ^ 64) ≡ cell_of Quantize (bag ++ z ∷ []) ++ rest
unfolding cell_of
add_quantize cell z index bag rest of is h =
    let few = is.few in rw h (more_before quantize_rows bag z index rest of (omega arith))

pub add_lquantize : (bounds : Bounds) (cell : List ℕ) (z : ℤ) (index : ℕ) (bag : List ℤ) (rest : List ℕ)
    → IsRowOf (lquantize_rows bounds) z index → IsBag bag → cell ≡ cell_of (Lquantize bounds) bag ++ rest
    → set cell index ((get_or cell index 0 + 1) % 2 ^ 64) ≡ cell_of (Lquantize bounds) (bag ++ z ∷ []) ++ rest
unfolding cell_of
add_lquantize bounds cell z index bag rest of is h =
    let few = is.few in rw h (more_before (lquantize_rows bounds) bag z index rest of (omega arith))
