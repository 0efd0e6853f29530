-- What a cell holds of a bag of values, for each aggregating function. Guide, Aggregations.
use Rattle.std.specs.Prelude.{◌≢◌, ℕ, ◌+◌, ◌<◌, List, [], ◌∷◌, length, ℤ, pos, ◌+ℤ◌, FitsSigned}
use Rattle.std.specs.Int.{w64, int_wrap, int_min, int_max, cast_unsigned}
use Rattle.std.specs.List.{fold, AllByRecursion}
use Rattle.dt_aggfn.specs.declared.function.AggFn.{AggFn}
use Rattle.dt_aggfn.specs.declared.function.AggFn.TheVariants.{Count, Sum, Avg, Min, Max, Quantize, Lquantize}
use Rattle.dt_aggfn.specs.Limits.{bag_limit, quantize_row_count}
use Rattle.dt_aggfn.specs.Rows.{CountingRow, levels_of, quantize_rows, lquantize_rows, counts_of}

-- how many words a cell has
abbrev pub cell_words : AggFn → ℕ
cell_words Count = 1
cell_words Sum = 1
cell_words Avg = 2
cell_words Min = 1
cell_words Max = 1
cell_words Quantize = quantize_row_count
cell_words (Lquantize bounds) = levels_of bounds + 2

-- the rows of a function, of which some have none
abbrev pub rows_of : AggFn → List CountingRow
rows_of Quantize = quantize_rows
rows_of (Lquantize bounds) = lquantize_rows bounds
rows_of f = []

-- the sum of a bag, wrapped at 64 bits
abbrev pub sum_of : List ℤ → ℤ
sum_of bag = int_wrap w64 (fold ◌+ℤ◌ (pos 0) bag)

-- the least and the greatest value of a bag that has one
abbrev pub least_of : List ℤ → ℤ
least_of [] = pos 0
least_of (z ∷ bag) = fold int_min z bag

abbrev pub greatest_of : List ℤ → ℤ
greatest_of [] = pos 0
greatest_of (z ∷ bag) = fold int_max z bag

-- the word of two's complement that a cell keeps for a number
abbrev pub word_of : ℤ → ℕ
word_of z = cast_unsigned w64 z

-- The words of a bag's cell. For `min` and `max` the word of the empty bag says nothing.
unfoldable pub cell_of : AggFn → List ℤ → List ℕ
cell_of Count bag = length bag ∷ []
cell_of Sum bag = word_of (sum_of bag) ∷ []
cell_of Avg bag = length bag ∷ (word_of (sum_of bag) ∷ [])
cell_of Min bag = word_of (least_of bag) ∷ []
cell_of Max bag = word_of (greatest_of bag) ∷ []
cell_of Quantize bag = counts_of quantize_rows bag
cell_of (Lquantize bounds) bag = counts_of (lquantize_rows bounds) bag

-- What a cell may hold: some values, which are signed 64-bit numbers, and not so many that a count wraps.
pub record IsBag (bag : List ℤ) : Type 0 where
  pub some : bag ≢ []
  pub few : length bag < bag_limit
  pub words : AllByRecursion (λ z. FitsSigned w64 z) bag
