-- Of the rows of a distribution.
use Rattle.std.proofs.Common.{◌≡◌, ℕ, ◌+◌, ◌-◌, ◌^◌, ◌<◌, Bool, true, List, [], ◌∷◌, ◌++◌, map, Option, Some, refl, ap, sym, ◌∙◌, append_assoc, arith, ℤ, pos, ◌-ℤ◌, if◌then◌else◌}
use Rattle.std.specs.Prelude.{FitsSigned, codes, neg_ℤ}
use Rattle.std.specs.Int.{w64, cast_signed, cast_unsigned}
use Rattle.std.specs.Fmt.{signed_decimal}
use Rattle.std.specs.Ordering.{int_eq}
use Rattle.std.specs.List.{range_with_len}
use Rattle.std.proofs.lemmas.Bool.Decides.{Decides-int_eq}
use Rattle.std.proofs.lemmas.Int.{ints}
use Rattle.std.proofs.lemmas.List.{map_push}
use Rattle.std.proofs.lemmas.List.FromFn.{map-range_with_len_more}
use Rattle.std.proofs.lemmas.Nat.{pow_below}
use Rattle.dt_aggfn.specs.declared.levels.Bounds.{Bounds}
use Rattle.dt_aggfn.specs.Rows.{CountingRow, below_row, level_from, level_row, levels_of, lquantize_rows, minus_power_row, power_row, quantize_rows, upper_row, zero_row}
use Rattle.dt_front.specs.Distribution.{level_label, level_rows, picture_row, picture_rows, power_label, power_rows}
use Rattle.dt_front.specs.Picture.{PictureRowForm}
use Rattle.dt_aggfn.specs.laws.Levels.{level_is_no_bound}

-- the powers fit
pub power_fits : (k : ℕ) → k < 63 → FitsSigned w64 (pos (2 ^ k))
power_fits k h = record { sfits = pow_below k 63 h }

pub opposite : (k : ℕ) (r : ℤ) → k < 63 → r ≡ pos (2 ^ k)
    → cast_signed w64 (cast_unsigned w64 (pos 0 -ℤ cast_signed w64 (cast_unsigned w64 r))) ≡ neg_ℤ (pos (2 ^ k))
opposite k r h e = let f = pow_below k 63 h in omega (arith, ints)

-- with the row of one name more
pub rows_named : (label : Option ℤ → List ℕ) (counts : List (Option ℤ × ℕ)) (done : List CountingRow) (row : CountingRow) (text : List ℕ) (name : Option ℤ)
    (before after : List PictureRowForm) → before ≡ picture_rows label counts done → after ≡ before ++ picture_row counts text name ∷ []
    → name ≡ row.name → text ≡ label row.name → after ≡ picture_rows label counts (done ++ row ∷ [])
rows_named label counts done row text name before after same added named labelled =
    added
    ∙ ap (λ rows. rows ++ picture_row counts text name ∷ []) same
    ∙ ap (λ n. picture_rows label counts done ++ picture_row counts text n ∷ []) named
    ∙ ap (λ t. picture_rows label counts done ++ picture_row counts t row.name ∷ []) labelled
    ∙ sym (map_push (λ r. picture_row counts (label r.name) r.name) done row)

pub minus_named : (counts : List (Option ℤ × ℕ)) (k : ℕ) (z : ℤ) (before after : List PictureRowForm)
    → before ≡ picture_rows power_label counts (map (λ j. minus_power_row (62 - j)) (range_with_len 0 k))
    → after ≡ before ++ picture_row counts (signed_decimal z) (Some z) ∷ [] → z ≡ neg_ℤ (pos (2 ^ (62 - k)))
    → after ≡ picture_rows power_label counts (map (λ j. minus_power_row (62 - j)) (range_with_len 0 (k + 1)))
minus_named counts k z before after same added is =
    rows_named power_label counts (map (λ j. minus_power_row (62 - j)) (range_with_len 0 k)) (minus_power_row (62 - k)) (signed_decimal z) (Some z) before after
    same added (ap (λ (y : ℤ). Some y) is) (ap signed_decimal is)
    ∙ ap (picture_rows power_label counts) (sym (map-range_with_len_more (λ j. minus_power_row (62 - j)) 0 k k (omega arith)))

abbrev opposites : List CountingRow
opposites = map (λ k. minus_power_row (62 - k)) (range_with_len 0 63)

pub power_named : (counts : List (Option ℤ × ℕ)) (k : ℕ) (z : ℤ) (before after : List PictureRowForm)
    → before ≡ picture_rows power_label counts (map (λ j. minus_power_row (62 - j)) (range_with_len 0 63) ++ zero_row ∷ map power_row (range_with_len 0 k))
    → after ≡ before ++ picture_row counts (signed_decimal z) (Some z) ∷ [] → z ≡ pos (2 ^ k)
    → after ≡ picture_rows power_label counts (map (λ j. minus_power_row (62 - j)) (range_with_len 0 63) ++ zero_row ∷ map power_row (range_with_len 0 (k + 1)))
power_named counts k z before after same added is =
    rows_named power_label counts (opposites ++ zero_row ∷ map power_row (range_with_len 0 k)) (power_row k) (signed_decimal z) (Some z) before after
    same added (ap (λ (y : ℤ). Some y) is) (ap signed_decimal is)
    ∙ ap (picture_rows power_label counts) (append_assoc opposites (zero_row ∷ map power_row (range_with_len 0 k)) (power_row k ∷ []))
    ∙ ap (λ rows. picture_rows power_label counts (opposites ++ zero_row ∷ rows)) (sym (map-range_with_len_more power_row 0 k k (omega arith)))

pub all_powers : (counts : List (Option ℤ × ℕ)) (k : ℕ) → k ≡ 63
    → picture_rows power_label counts (map (λ j. minus_power_row (62 - j)) (range_with_len 0 63) ++ zero_row ∷ map power_row (range_with_len 0 k)) ≡ power_rows counts
unfolding quantize_rows
all_powers counts k whole = ap (λ n. picture_rows power_label counts (opposites ++ zero_row ∷ map power_row (range_with_len 0 n))) whole

pub level_named : (bounds : Bounds) (counts : List (Option ℤ × ℕ)) (k : ℕ) (z : ℤ) (before after : List PictureRowForm) → k < levels_of bounds
    → before ≡ picture_rows (level_label bounds) counts (below_row bounds ∷ map (level_row bounds) (range_with_len 0 k))
    → after ≡ before ++ picture_row counts (signed_decimal z) (Some z) ∷ [] → z ≡ level_from bounds k
    → after ≡ picture_rows (level_label bounds) counts (below_row bounds ∷ map (level_row bounds) (range_with_len 0 (k + 1)))
level_named bounds counts k z before after within same added is =
    let label = λ (b : Bool). if b then codes ">= " ++ signed_decimal (level_from bounds k) else signed_decimal (level_from bounds k) in
    rows_named (level_label bounds) counts (below_row bounds ∷ map (level_row bounds) (range_with_len 0 k)) (level_row bounds k) (signed_decimal z) (Some z)
    before after same added (ap (λ (y : ℤ). Some y) is) (ap signed_decimal is ∙ sym (ap label (level_is_no_bound bounds k within)))
    ∙ ap (λ rows. picture_rows (level_label bounds) counts (below_row bounds ∷ rows)) (sym (map-range_with_len_more (level_row bounds) 0 k k (omega arith)))

-- the row from the upper bound on comes last
pub all_levels : (bounds : Bounds) (counts : List (Option ℤ × ℕ)) (k : ℕ) (text : List ℕ) (name : Option ℤ) (before after : List PictureRowForm)
    → k ≡ levels_of bounds
    → before ≡ picture_rows (level_label bounds) counts (below_row bounds ∷ map (level_row bounds) (range_with_len 0 k))
    → after ≡ before ++ picture_row counts text name ∷ [] → name ≡ Some bounds.upper → text ≡ codes ">= " ++ signed_decimal bounds.upper
    → after ≡ level_rows bounds counts
unfolding lquantize_rows
all_levels bounds counts k text name before after whole same added named labelled =
    let label = λ (b : Bool). if b then codes ">= " ++ signed_decimal bounds.upper else signed_decimal bounds.upper in
    let itself : int_eq bounds.upper bounds.upper ≡ true = (Decides-int_eq bounds.upper bounds.upper).1 refl in
    rows_named (level_label bounds) counts (below_row bounds ∷ map (level_row bounds) (range_with_len 0 k)) (upper_row bounds)
    text name before after same added named (labelled ∙ sym (ap label itself))
    ∙ ap (λ n. picture_rows (level_label bounds) counts (below_row bounds ∷ map (level_row bounds) (range_with_len 0 n) ++ upper_row bounds ∷ [])) whole
