-- The rows of `quantize` and `lquantize`: which values each of them counts. Guide, Aggregations.
use Rattle.std.specs.Prelude.{◌≡◌, ℕ, ◌+◌, ◌-◌, ◌^◌, ◌<◌, ◌==◌, Bool, ◌&&◌, ◌||◌, List, [], ◌∷◌, ◌++◌, length, map, count_by, filter, nat_lt, slice_index, slice_index_or, Option, Some, None, ℤ, pos, ◌+ℤ◌, ◌-ℤ◌, ◌*ℤ◌, neg_ℤ, int_lt, int_le, int_div, unsigned_abs}
use Rattle.std.specs.List.{range_with_len}
use Rattle.std.specs.Ordering.{int_eq}
use Rattle.dt_aggfn.specs.declared.levels.Bounds.{Bounds}
use Rattle.dt_aggfn.specs.Limits.{greatest_power}

-- A row has a name, unless it is the one below all levels, and counts the values that pass its test.
pub record CountingRow : Type 0 where
  pub name : Option ℤ
  pub counts : ℤ → Bool

-- ---- quantize

-- Row 2^n counts the values from 2^n to less than 2^(n + 1), and the greatest row all above as well.
abbrev pub power_row : ℕ → CountingRow
power_row n = record {
  name = Some (pos (2 ^ n));
  counts = λ z. int_le (pos (2 ^ n)) z && (n == greatest_power || int_lt z (pos (2 ^ (n + 1))));
}

-- Row -2^n is its mirror: it counts a value where row 2^n counts the value's opposite. So it counts the values from
-- -2^n down to more than -2^(n + 1), and the least row all below as well.
abbrev pub minus_power_row : ℕ → CountingRow
minus_power_row n = record {
  name = Some (neg_ℤ (pos (2 ^ n)));
  counts = λ z. (power_row n).counts (neg_ℤ z);
}

-- Row 0 counts 0.
abbrev pub zero_row : CountingRow
zero_row = record { name = Some (pos 0); counts = λ z. int_eq z (pos 0) }

-- the rows of 0 and of the powers from 2^0 to 2^n with their opposites, rising
abbrev pub rows_to : ℕ → List CountingRow
rows_to n = map (λ k. minus_power_row (n - k)) (range_with_len 0 (n + 1))
    ++ zero_row ∷ map power_row (range_with_len 0 (n + 1))

-- the rows of `quantize`, rising
unfoldable pub quantize_rows : List CountingRow
quantize_rows = rows_to greatest_power

-- ---- lquantize

-- how many levels there are
abbrev pub levels_of : Bounds → ℕ
levels_of bounds = unsigned_abs (int_div (bounds.upper -ℤ bounds.lower) bounds.step)

-- where a level begins, the first being level 0
abbrev pub level_from : Bounds → ℕ → ℤ
level_from bounds k = bounds.lower +ℤ (pos k *ℤ bounds.step)

-- A level counts the values from where it begins to below where the next one does.
abbrev pub level_row : Bounds → ℕ → CountingRow
level_row bounds k = record {
  name = Some (level_from bounds k);
  counts = λ z. int_le (level_from bounds k) z && int_lt z (level_from bounds (k + 1));
}

-- The row below has no name.
abbrev pub below_row : Bounds → CountingRow
below_row bounds = record { name = None; counts = λ z. int_lt z bounds.lower }

-- The last row counts the values from the upper bound on.
abbrev pub upper_row : Bounds → CountingRow
upper_row bounds = record { name = Some bounds.upper; counts = λ z. int_le bounds.upper z }

-- the rows of an `lquantize`, rising
unfoldable pub lquantize_rows : Bounds → List CountingRow
lquantize_rows bounds =
    below_row bounds ∷ (map (level_row bounds) (range_with_len 0 (levels_of bounds)) ++ upper_row bounds ∷ [])

-- ---- what rows count

-- how many values of a bag each row counts
abbrev pub counts_of : List CountingRow → List ℤ → List ℕ
counts_of rows bag = map (λ row. count_by row.counts bag) rows

-- the name of the row at an index, if it has one
abbrev pub name_at : List CountingRow → ℕ → Option ℤ
name_at rows k = slice_index_or (map (λ row. row.name) rows) k None

-- the rows whose word is above 0, each by its name with its word
abbrev pub counted_words : List CountingRow → List ℕ → List (Option ℤ × ℕ)
counted_words rows cell =
    filter (λ counted. nat_lt 0 counted.1)
    (map (λ k. (name_at rows k, slice_index cell k)) (range_with_len 0 (length cell)))

-- The row at an index counts a value, and no other row does.
pub record IsRowOf (rows : List CountingRow) (value : ℤ) (index : ℕ) : Type 0 where
  pub within : index < length rows
  pub only : (k : ℕ) (default : CountingRow) → k < length rows → (slice_index_or rows k default).counts value ≡ (k == index)
