-- The order of a bag's values doesn't matter.
use Rattle.std.proofs.Common.{◌≡◌, ℕ, suc, ◌≢◌, ◌⊎◌, List, [], ◌∷◌, length, refl, sym, ap, ◌∙◌, ⊎_elim, inl, inr, cond}
use Rattle.std.proofs.Common.{arith, ℤ, pos, ◌+ℤ◌, ◌-ℤ◌, ◌≤ℤ◌}
use Rattle.std.specs.Prelude.{IsPermutation, All, Contains, sum_by, count_by, int_div}
use Rattle.std.specs.Int.{w64, int_wrap, int_min, int_max}
use Rattle.std.specs.List.{fold}
use borrow.Author.Differences.{up, down}
use Rattle.std.proofs.lemmas.Int.{ints, fold-int_min_bounds, fold-int_min_reached, fold-int_max_bounds}
use Rattle.std.proofs.lemmas.Int.{fold-int_max_reached}
use Rattle.std.proofs.lemmas.List.{nil_from_length}
use Rattle.std.proofs.lemmas.List.Sums.{sum_by-cons}
use Rattle.std.proofs.lemmas.List.Elements.{All-cons, All-contains}
use Rattle.std.proofs.lemmas.List.Sorted.{length_permutation, sum_by-IsPermutation, All-permutation}
use Rattle.std.proofs.lemmas.List.Sorted.{Contains-permutation}
use Rattle.dt_aggfn.specs.declared.function.AggFn.{AggFn}
use Rattle.dt_aggfn.specs.declared.function.AggFn.TheVariants.{Count, Sum, Avg, Min, Max, Quantize, Lquantize}
use Rattle.dt_aggfn.specs.Rows.{CountingRow, quantize_rows, lquantize_rows, counts_of, counted_words}
use Rattle.dt_aggfn.specs.Cells.{cell_of, word_of, sum_of, least_of, greatest_of}
use Rattle.dt_aggfn.specs.Answers.{number, rows as row_form, counted_rows, answer_of_bag}
use Rattle.dt_aggfn.proofs.SumLemmas.{sum_from}
use Rattle.dt_aggfn.proofs.AnswerLemmas.{counted_of_bag}

-- how many
same_length : (a b : List ℤ) → IsPermutation a b → length a ≡ length b
same_length a b p = sym (length_permutation a b p)

-- the sum, which is a difference of two sums of natural numbers
difference : (bag : List ℤ) → fold ◌+ℤ◌ (pos 0) bag ≡ pos (sum_by up bag) -ℤ pos (sum_by down bag)
difference [] = refl
difference (z ∷ bag) =
    let rest = difference bag in
    let from = sum_from (pos 0 +ℤ z) bag in
    let above = sum_by-cons up z bag in
    let below = sum_by-cons down z bag in
    omega (arith, ints)

same_sum : (a b : List ℤ) → IsPermutation a b → sum_of a ≡ sum_of b
same_sum a b p =
    ap (int_wrap w64) (difference a ∙ ap (λ n. pos n -ℤ pos (sum_by down a)) (sym (sum_by-IsPermutation up a b p))
    ∙ ap (λ n. pos (sum_by up b) -ℤ pos n) (sym (sum_by-IsPermutation down a b p)) ∙ sym (difference b))

-- the least and the greatest
first_contained : (x : ℤ) (bag : List ℤ) (r : ℤ) → r ≡ x → Contains (x ∷ bag) r
first_contained x bag r e = (0, omega arith, sym e)

later_contained : (x : ℤ) (bag : List ℤ) (r : ℤ) → Contains bag r → Contains (x ∷ bag) r
later_contained x bag r (k, l, e) = (suc k, omega arith, e)

pub least_is : (bag : List ℤ) → bag ≢ [] → Contains bag (least_of bag) × All (λ z. least_of bag ≤ℤ z) bag
least_is [] n = absurd (n refl)
least_is (x ∷ bag) n =
    let r : ℤ = fold int_min x bag in
    let bounds = fold-int_min_bounds x bag r refl in (
      ⊎_elim (first_contained x bag r) (later_contained x bag r) (fold-int_min_reached x bag r refl),
      All-cons (λ z. r ≤ℤ z) x bag bounds.0 bounds.1,
    )

pub greatest_is : (bag : List ℤ) → bag ≢ [] → Contains bag (greatest_of bag) × All (λ z. z ≤ℤ greatest_of bag) bag
greatest_is [] n = absurd (n refl)
greatest_is (x ∷ bag) n =
    let r : ℤ = fold int_max x bag in
    let bounds = fold-int_max_bounds x bag r refl in (
      ⊎_elim (first_contained x bag r) (later_contained x bag r) (fold-int_max_reached x bag r refl),
      All-cons (λ z. z ≤ℤ r) x bag bounds.0 bounds.1,
    )

both_below : (a b : ℤ) → a ≤ℤ b → b ≤ℤ a → a ≡ b
both_below a b h k = omega (arith, ints)

empty_too : (a b : List ℤ) → IsPermutation a b → a ≡ [] → b ≡ []
empty_too a b p e = nil_from_length b (length_permutation a b p ∙ ap length e)

some_too : (a b : List ℤ) → IsPermutation a b → a ≢ [] → b ≢ []
some_too a b p n e =
    n (nil_from_length a (sym (length_permutation a b p) ∙ ap length e))

is_empty : (a : List ℤ) → (a ≡ []) ⊎ (a ≢ [])
is_empty [] = inl refl
is_empty (x ∷ a) = inr (λ e. cc)

same_least : (a b : List ℤ) → IsPermutation a b → least_of a ≡ least_of b
same_least a b p =
    ⊎_elim (λ e. ap least_of e ∙ sym (ap least_of (empty_too a b p e)))
    (λ n.
    let here = least_is a n in
    let there = least_is b (some_too a b p n) in
    both_below (least_of a) (least_of b)
    (All-contains (λ z. least_of a ≤ℤ z) b (least_of b)
    (All-permutation (λ z. least_of a ≤ℤ z) a b p here.1) there.0)
    (All-contains (λ z. least_of b ≤ℤ z) b (least_of a) there.1 (Contains-permutation a b (least_of a) p here.0)))
    (is_empty a)

same_greatest : (a b : List ℤ) → IsPermutation a b → greatest_of a ≡ greatest_of b
same_greatest a b p =
    ⊎_elim (λ e. ap greatest_of e ∙ sym (ap greatest_of (empty_too a b p e)))
    (λ n.
    let here = greatest_is a n in
    let there = greatest_is b (some_too a b p n) in
    both_below (greatest_of a) (greatest_of b)
    (All-contains (λ z. z ≤ℤ greatest_of b) b (greatest_of a) there.1
    (Contains-permutation a b (greatest_of a) p here.0))
    (All-contains (λ z. z ≤ℤ greatest_of a) b (greatest_of b)
    (All-permutation (λ z. z ≤ℤ greatest_of a) a b p here.1) there.0))
    (is_empty a)

-- the counts of rows
same_counts : (all : List CountingRow) (a b : List ℤ) → IsPermutation a b → counts_of all a ≡ counts_of all b
same_counts [] a b p = refl
same_counts (row ∷ all) a b p =
    let one : count_by row.counts a ≡ count_by row.counts b =
    sym (sum_by-IsPermutation (λ z. cond {A = ℕ} (row.counts z) 1 0) a b p) in
    ap (λ n. n ∷ counts_of all a) one ∙ ap (λ ns. count_by row.counts b ∷ ns) (same_counts all a b p)

same_rows : (all : List CountingRow) (a b : List ℤ) → IsPermutation a b → counted_rows all a ≡ counted_rows all b
same_rows all a b p =
    sym (counted_of_bag all a) ∙ ap (counted_words all) (same_counts all a b p) ∙ counted_of_bag all b

pub same_cell : (f : AggFn) (a b : List ℤ) → IsPermutation a b → cell_of f a ≡ cell_of f b
unfolding cell_of
same_cell Count a b p = ap (λ n. n ∷ []) (same_length a b p)
same_cell Sum a b p = ap (λ z. word_of z ∷ []) (same_sum a b p)
same_cell Avg a b p =
    ap (λ n. n ∷ (word_of (sum_of a) ∷ [])) (same_length a b p)
    ∙ ap (λ z. length b ∷ (word_of z ∷ [])) (same_sum a b p)
same_cell Min a b p = ap (λ z. word_of z ∷ []) (same_least a b p)
same_cell Max a b p = ap (λ z. word_of z ∷ []) (same_greatest a b p)
same_cell Quantize a b p = same_counts quantize_rows a b p
same_cell (Lquantize bounds) a b p = same_counts (lquantize_rows bounds) a b p

pub same_answer : (f : AggFn) (a b : List ℤ) → IsPermutation a b → answer_of_bag f a ≡ answer_of_bag f b
unfolding answer_of_bag
same_answer Count a b p = ap (λ n. number (pos n)) (same_length a b p)
same_answer Sum a b p = ap number (same_sum a b p)
same_answer Avg a b p =
    ap (λ z. number (int_div z (pos (length a)))) (same_sum a b p)
    ∙ ap (λ n. number (int_div (sum_of b) (pos n))) (same_length a b p)
same_answer Min a b p = ap number (same_least a b p)
same_answer Max a b p = ap number (same_greatest a b p)
same_answer Quantize a b p = ap row_form (same_rows quantize_rows a b p)
same_answer (Lquantize bounds) a b p = ap row_form (same_rows (lquantize_rows bounds) a b p)
