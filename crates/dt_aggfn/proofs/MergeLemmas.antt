-- What the code does to a cell when another is merged into it, for each function.
use Rattle.std.proofs.Common.{◌≡◌, ℕ, ◌+◌, ◌%◌, ◌^◌, ◌<◌, List, [], ◌∷◌, ◌++◌, length, get_or, set, refl, sym, ap}
use Rattle.std.proofs.Common.{subst, ◌∙◌, arith, ℤ}
use Rattle.std.specs.Int.{w64, int_min, int_max, cast_signed}
use Rattle.std.proofs.lemmas.List.{length-append}
use Rattle.std.proofs.lemmas.Grind.{same_number_lists}
use Rattle.std.proofs.lemmas.Int.{to_z-of_z}
use Rattle.dt_aggfn.specs.declared.function.AggFn.{AggFn}
use Rattle.dt_aggfn.specs.declared.function.AggFn.TheVariants.{Count, Sum, Avg, Min, Max, Quantize, Lquantize}
use Rattle.dt_aggfn.specs.Rows.{CountingRow, quantize_rows, lquantize_rows, counts_of}
use Rattle.dt_aggfn.specs.Cells.{cell_of, word_of, least_of, greatest_of, IsBag}
use Rattle.dt_aggfn.proofs.CountLemmas.{length_counts, count_few, count_joined}
use Rattle.dt_aggfn.proofs.SumLemmas.{sum_joined}
use Rattle.dt_aggfn.proofs.LeastLemmas.{least_joined, greatest_joined, least_fits, greatest_fits}

pub merge_min : (cell other : List ℕ) (a b : List ℤ) → IsBag a → IsBag b → cell ≡ cell_of Min a
    → other ≡ cell_of Min b
    → set cell 0 (word_of (int_min (cast_signed w64 (get_or cell 0 0)) (cast_signed w64 (get_or other 0 0))))
    ≡ cell_of Min (a ++ b)
unfolding cell_of
merge_min cell other a b is isb h k =
    rw (h, k) (ap (λ y. word_of (int_min y (cast_signed w64 (word_of (least_of b)))) ∷ [])
    (to_z-of_z w64 (least_of a) (least_fits a is))
    ∙ ap (λ y. word_of (int_min (least_of a) y) ∷ []) (to_z-of_z w64 (least_of b) (least_fits b isb))
    ∙ ap (λ y. word_of y ∷ []) (sym (least_joined a b is.some isb.some)))

pub merge_max : (cell other : List ℕ) (a b : List ℤ) → IsBag a → IsBag b → cell ≡ cell_of Max a
    → other ≡ cell_of Max b
    → set cell 0 (word_of (int_max (cast_signed w64 (get_or cell 0 0)) (cast_signed w64 (get_or other 0 0))))
    ≡ cell_of Max (a ++ b)
unfolding cell_of
merge_max cell other a b is isb h k =
    rw (h, k) (ap (λ y. word_of (int_max y (cast_signed w64 (word_of (greatest_of b)))) ∷ [])
    (to_z-of_z w64 (greatest_of a) (greatest_fits a is))
    ∙ ap (λ y. word_of (int_max (greatest_of a) y) ∷ []) (to_z-of_z w64 (greatest_of b) (greatest_fits b isb))
    ∙ ap (λ y. word_of y ∷ []) (sym (greatest_joined a b is.some isb.some)))

-- each word is the sum of two words
pub record Added (cell other new : List ℕ) : Type 0 where
  pub long : length new ≡ length cell
  pub words : (k : ℕ) → k < length cell → get_or new k 0 ≡ (get_or cell k 0 + get_or other k 0) % 2 ^ 64

one_word : (new : List ℕ) (n : ℕ) → length new ≡ 1 → get_or new 0 0 ≡ n → new ≡ n ∷ []
one_word [] n h e = absurd (omega arith)
one_word (x ∷ []) n h e = ap (λ y. y ∷ []) e
one_word (x ∷ (y ∷ new)) n h e = absurd (omega arith)

two_words : (new : List ℕ) (n m : ℕ) → length new ≡ 2 → get_or new 0 0 ≡ n → get_or new 1 0 ≡ m → new ≡ n ∷ (m ∷ [])
two_words [] n m h e f = absurd (omega arith)
two_words (x ∷ []) n m h e f = absurd (omega arith)
two_words (x ∷ (y ∷ [])) n m h e f = ap (λ z. z ∷ (y ∷ [])) e ∙ ap (λ z. n ∷ (z ∷ [])) f
two_words (x ∷ (y ∷ (z ∷ new))) n m h e f = absurd (omega arith)

counts : (a b : List ℤ) → IsBag a → IsBag b → (length a + length b) % 2 ^ 64 ≡ length (a ++ b)
counts a b is isb = let few = is.few in let few_too = isb.few in omega (arith, length-append a b)

-- the cells in place of two lists
at_cells : (cell other x y new : List ℕ) → cell ≡ x → other ≡ y → Added cell other new → Added x y new
at_cells cell other x y new h k added =
    let P : List ℕ → Type 0 = λ l. Added l other new in
    let Q : List ℕ → Type 0 = λ l. Added x l new in
    subst Q k (subst P h added)

merged_rows : (rows : List CountingRow) (new : List ℕ) (a b : List ℤ) → IsBag a → IsBag b
    → Added (counts_of rows a) (counts_of rows b) new → new ≡ counts_of rows (a ++ b)
merged_rows rows new a b is isb added =
    let long = added.long in
    let left = length_counts rows a in
    let both = length_counts rows (a ++ b) in
    same_number_lists new (counts_of rows (a ++ b)) (omega arith)
    (λ k h.
    let within : k < length rows = omega arith in
    let below : k < length (counts_of rows a) = omega arith in
    let word = added.words k below in
    let join = count_joined rows a b k within in
    let few_left = count_few rows a k within in
    let few_right = count_few rows b k within in
    let few = is.few in
    let few_too = isb.few in
    omega arith)

merged : (f : AggFn) (new : List ℕ) (a b : List ℤ) → (f ≡ Min → ⊥) → (f ≡ Max → ⊥) → IsBag a → IsBag b
    → Added (cell_of f a) (cell_of f b) new → new ≡ cell_of f (a ++ b)
unfolding cell_of
merged Count new a b n m is isb added =
    one_word new (length (a ++ b)) added.long (added.words 0 (omega arith) ∙ counts a b is isb)
merged Sum new a b n m is isb added = one_word new _ added.long (added.words 0 (omega arith) ∙ sum_joined a b)
merged Avg new a b n m is isb added =
    two_words new (length (a ++ b)) _ added.long (added.words 0 (omega arith) ∙ counts a b is isb)
    (added.words 1 (omega arith) ∙ sum_joined a b)
merged Min new a b n m is isb added = absurd (n refl)
merged Max new a b n m is isb added = absurd (m refl)
merged Quantize new a b n m is isb added = merged_rows quantize_rows new a b is isb added
merged (Lquantize bounds) new a b n m is isb added = merged_rows (lquantize_rows bounds) new a b is isb added

pub merge_words : (f : AggFn) (cell other new : List ℕ) (a b : List ℤ) → (f ≡ Min → ⊥) → (f ≡ Max → ⊥)
    → Added cell other new → IsBag a → IsBag b → cell ≡ cell_of f a → other ≡ cell_of f b → new ≡ cell_of f (a ++ b)
merge_words f cell other new a b n m added is isb h k =
    merged f new a b n m is isb (at_cells cell other (cell_of f a) (cell_of f b) new h k added)
