-- What the code makes of a cell when a bag begins, for each function.
use Rattle.std.proofs.Common.{◌≡◌, ℕ, ◌+◌, ◌%◌, ◌^◌, List, [], ◌∷◌, length, get_or, set, replicate, refl, sym, ap, ◌∙◌}
use Rattle.std.proofs.Common.{arith, ℤ, FitsSigned}
use Rattle.std.specs.Int.{w64}
use Rattle.dt_aggfn.specs.declared.levels.Bounds.{Bounds}
use Rattle.dt_aggfn.specs.declared.function.AggFn.{AggFn}
use Rattle.dt_aggfn.specs.declared.function.AggFn.TheVariants.{Count, Sum, Avg, Min, Max, Quantize, Lquantize}
use Rattle.dt_aggfn.specs.Rows.{CountingRow, quantize_rows, lquantize_rows, counts_of, IsRowOf}
use Rattle.dt_aggfn.specs.Cells.{cell_words, cell_of, word_of}
use Rattle.dt_aggfn.proofs.CountLemmas.{counts_more, counts_none}
use Rattle.dt_aggfn.proofs.SumLemmas.{sum_of_one}
use Rattle.dt_aggfn.proofs.PowerLemmas.{length_quantize_rows}
use Rattle.dt_aggfn.proofs.LevelRowLemmas.{length_lquantize_rows}

one_word : (cell : List ℕ) (n : ℕ) → length cell ≡ 1 → set cell 0 n ≡ n ∷ []
one_word [] n h = absurd (omega arith)
one_word (x ∷ []) n h = refl
one_word (x ∷ (y ∷ cell)) n h = absurd (omega arith)

two_words : (cell : List ℕ) (n m : ℕ) → length cell ≡ 2 → set (set cell 0 n) 1 m ≡ n ∷ (m ∷ [])
two_words [] n m h = absurd (omega arith)
two_words (x ∷ []) n m h = absurd (omega arith)
two_words (x ∷ (y ∷ [])) n m h = refl
two_words (x ∷ (y ∷ (z ∷ cell))) n m h = absurd (omega arith)

pub first_count : (cell : List ℕ) (z : ℤ) → length cell ≡ 1 → set cell 0 1 ≡ cell_of Count (z ∷ [])
unfolding cell_of
first_count cell z h = one_word cell 1 h

pub first_avg : (cell : List ℕ) (z : ℤ) → FitsSigned w64 z → length cell ≡ 2
    → set (set cell 0 1) 1 (word_of z) ≡ cell_of Avg (z ∷ [])
unfolding cell_of
first_avg cell z f h =
    two_words cell 1 (word_of z) h ∙ ap (λ y. 1 ∷ (word_of y ∷ [])) (sym (sum_of_one z f))

-- the functions whose cell is the word of one number
pub first_word : (f : AggFn) (cell : List ℕ) (z : ℤ) → FitsSigned w64 z → (f ≡ Count → ⊥) → (f ≡ Avg → ⊥)
    → (f ≡ Quantize → ⊥) → ((bounds : Bounds) → f ≡ Lquantize bounds → ⊥) → length cell ≡ cell_words f
    → set cell 0 (word_of z) ≡ cell_of f (z ∷ [])
unfolding cell_of
first_word Count cell z f a b c d h = absurd (a refl)
first_word Sum cell z f a b c d h = one_word cell (word_of z) h ∙ ap (λ y. word_of y ∷ []) (sym (sum_of_one z f))
first_word Avg cell z f a b c d h = absurd (b refl)
first_word Min cell z f a b c d h = one_word cell (word_of z) h
first_word Max cell z f a b c d h = one_word cell (word_of z) h
first_word Quantize cell z f a b c d h = absurd (c refl)
first_word (Lquantize bounds) cell z f a b c d h = absurd (d bounds refl)

first_row : (rows : List CountingRow) (cell : List ℕ) (z : ℤ) (index n : ℕ) → IsRowOf rows z index → cell ≡ replicate n 0
    → n ≡ length rows → set cell index ((get_or cell index 0 + 1) % 2 ^ 64) ≡ counts_of rows (z ∷ [])
first_row rows cell z index n of zeros long =
    let empty : cell ≡ counts_of rows [] =
    zeros ∙ ap (λ (k : ℕ). replicate {A = ℕ} k 0) long ∙ sym (counts_none rows) in
    rw empty (counts_more rows [] z index of (omega arith))

pub first_quantize : (cell : List ℕ) (z : ℤ) (index n : ℕ) → IsRowOf quantize_rows z index → cell ≡ replicate n 0
    → n ≡ cell_words Quantize → set cell index ((get_or cell index 0 + 1) % 2 ^ 64) ≡ cell_of Quantize (z ∷ [])
unfolding cell_of
first_quantize cell z index n of zeros long =
    first_row quantize_rows cell z index n of zeros (long ∙ sym length_quantize_rows)

pub first_lquantize : (bounds : Bounds) (cell : List ℕ) (z : ℤ) (index n : ℕ)
    → IsRowOf (lquantize_rows bounds) z index → cell ≡ replicate n 0 → n ≡ cell_words (Lquantize bounds)
    → set cell index ((get_or cell index 0 + 1) % 2 ^ 64) ≡ cell_of (Lquantize bounds) (z ∷ [])
unfolding cell_of
first_lquantize bounds cell z index n of zeros long =
    first_row (lquantize_rows bounds) cell z index n of zeros (long ∙ sym (length_lquantize_rows bounds))
