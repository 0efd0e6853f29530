-- All rows of a function have plain labels.
use Rattle.std.proofs.Common.{ℕ, zero, suc, ◌+◌, ◌-◌, ◌<◌, ◌^◌, ◌++◌, Bool, true, false, List, [], ◌∷◌, if◌then◌else◌, Option, Some, ℤ, pos, map, refl, arith}
use Rattle.std.specs.Prelude.{FitsSigned, codes, neg_ℤ}
use Rattle.std.specs.Fmt.{signed_decimal}
use Rattle.std.specs.Int.{w64}
use Rattle.std.specs.List.{AllByRecursion, find, range_with_len}
use Rattle.std.specs.Option.{option_eq, option_map_or}
use Rattle.std.specs.Ordering.{int_eq}
use Rattle.std.proofs.lemmas.List.Elements.{All-append}
use Rattle.std.proofs.lemmas.Nat.{pow_below}
use Rattle.dt_aggfn.specs.declared.levels.Bounds.{Bounds}
use Rattle.dt_aggfn.specs.Rows.{CountingRow, level_from, level_row, levels_of, lquantize_rows, minus_power_row, power_row, quantize_rows, upper_row, zero_row}
use Rattle.dt_front.specs.Distribution.{count_at, level_label, level_rows, picture_rows, power_label, power_rows}
use Rattle.dt_front.specs.Escaping.{ArePlain, IsPlain}
use Rattle.dt_front.specs.Printed.{IsPrintedRow}
use Rattle.dt_front.proofs.FunctionRows.{power_fits}
use Rattle.dt_aggfn.specs.laws.Levels.{level_fits}
use Rattle.dt_front.proofs.Lines.{chosen, plain_tested, signed_plain}

-- a count that is told has 64 bits
found_small : (c : Bool) (count : ℕ) (o : Option (Option ℤ × ℕ)) (name : Option ℤ) → count < 2 ^ 64 → option_map_or (λ counted. counted.1) o 0 < 2 ^ 64
    → option_map_or (λ counted. counted.1) (if c then Some (name, count) else o) 0 < 2 ^ 64
found_small true count o name small rest = small
found_small false count o name small rest = rest

pub count_small : (counts : List (Option ℤ × ℕ)) (name : Option ℤ) → AllByRecursion (λ counted. counted.1 < 2 ^ 64) counts → count_at counts name < 2 ^ 64
count_small [] name each = omega arith
count_small (counted ∷ counts) name each =
    found_small (option_eq int_eq counted.0 name) counted.1 (find (λ c. option_eq int_eq c.0 name) counts) counted.0 each.0 (count_small counts name each.1)

-- a row's label is plain
abbrev HasPlain : (Option ℤ → List ℕ) → CountingRow → Type 0
HasPlain label row = ArePlain (label row.name)

rows_printed : (label : Option ℤ → List ℕ) (counts : List (Option ℤ × ℕ)) (rows : List CountingRow) → AllByRecursion (λ counted. counted.1 < 2 ^ 64) counts
    → AllByRecursion (HasPlain label) rows → AllByRecursion IsPrintedRow (picture_rows label counts rows)
rows_printed label counts [] small each = tt
rows_printed label counts (row ∷ rows) small each = ((each.0, count_small counts row.name small), rows_printed label counts rows small each.1)

each_joined : (P : CountingRow → Type 0) (xs ys : List CountingRow) → AllByRecursion P xs → AllByRecursion P ys → AllByRecursion P (xs ++ ys)
each_joined P [] ys first second = second
each_joined P (x ∷ xs) ys first second = (first.0, each_joined P xs ys first.1 second)

each_made : (P : CountingRow → Type 0) (f : ℕ → CountingRow) (a n : ℕ) → ((k : ℕ) → k < a + n → P (f k)) → AllByRecursion P (map f (range_with_len a n))
each_made P f a zero each = tt
each_made P f a (suc n) each = (each a (omega arith), each_made P f (a + 1) n (λ k small. each k (omega (arith, small))))

opposite_fits : (n : ℕ) → n < 2 ^ 63 → FitsSigned w64 (neg_ℤ (pos n))
opposite_fits zero small = record { sfits = omega arith }
opposite_fits (suc n) small = record { sfits = omega (arith, small) }

pub powers_printed : (counts : List (Option ℤ × ℕ)) → AllByRecursion (λ counted. counted.1 < 2 ^ 64) counts → AllByRecursion IsPrintedRow (power_rows counts)
unfolding quantize_rows
powers_printed counts small =
    rows_printed power_label counts quantize_rows small
    (each_joined (HasPlain power_label) (map (λ k. minus_power_row (62 - k)) (range_with_len 0 63)) (zero_row ∷ map power_row (range_with_len 0 63))
    (each_made (HasPlain power_label) (λ k. minus_power_row (62 - k)) 0 63
    (λ k below. signed_plain (neg_ℤ (pos (2 ^ (62 - k)))) (opposite_fits (2 ^ (62 - k)) (pow_below (62 - k) 63 (omega arith))))) (
      signed_plain (pos 0) (record { sfits = omega arith }),
      each_made (HasPlain power_label) power_row 0 63 (λ k below. signed_plain (pos (2 ^ k)) (power_fits k (omega (arith, below)))),
    ))

bounded : (before : List ℕ) (z : ℤ) → ArePlain before → FitsSigned w64 z → ArePlain (before ++ signed_decimal z)
bounded before z are fits = All-append IsPlain before (signed_decimal z) are (signed_plain z fits)

level_plain : (bounds : Bounds) (z : ℤ) → FitsSigned w64 z → ArePlain (level_label bounds (Some z))
level_plain bounds z fits =
    chosen ArePlain (int_eq z bounds.upper) (codes ">= " ++ signed_decimal z) (signed_decimal z) (bounded (codes ">= ") z (plain_tested (codes ">= ") refl) fits)
    (signed_plain z fits)

pub levels_printed : (bounds : Bounds) (counts : List (Option ℤ × ℕ)) → FitsSigned w64 bounds.lower → FitsSigned w64 bounds.upper
    → AllByRecursion (λ counted. counted.1 < 2 ^ 64) counts → AllByRecursion IsPrintedRow (level_rows bounds counts)
unfolding lquantize_rows
levels_printed bounds counts low high small =
    rows_printed (level_label bounds) counts (lquantize_rows bounds) small (
      bounded (codes "< ") bounds.lower (plain_tested (codes "< ") refl) low,
      each_joined (HasPlain (level_label bounds)) (map (level_row bounds) (range_with_len 0 (levels_of bounds))) (upper_row bounds ∷ [])
          (each_made (HasPlain (level_label bounds)) (level_row bounds) 0 (levels_of bounds)
          (λ k below. level_plain bounds (level_from bounds k) (level_fits bounds k (omega (arith, below)) low high)))
          (level_plain bounds bounds.upper high, tt),
    )
