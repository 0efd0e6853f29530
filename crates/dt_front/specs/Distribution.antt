-- The rows of a distribution's picture: those of its function, also the ones that count nothing.
use Rattle.std.specs.Prelude.{ℕ, ℤ, List, ◌++◌, map, codes, Option, Some, None, if◌then◌else◌}
use Rattle.std.specs.Option.{option_eq, option_map_or}
use Rattle.std.specs.Ordering.{int_eq}
use Rattle.std.specs.List.{find}
use Rattle.std.specs.Fmt.{signed_decimal}
use Rattle.dt_aggfn.specs.declared.levels.Bounds.{Bounds}
use Rattle.dt_aggfn.specs.Rows.{CountingRow, lquantize_rows, quantize_rows}
use Rattle.dt_front.specs.Picture.{PictureRowForm}

-- the count that is told of the row of a name: the first by this name; 0 where none is
abbrev pub count_at : List (Option ℤ × ℕ) → Option ℤ → ℕ
count_at counts name = option_map_or (λ counted. counted.1) (find (λ counted. option_eq int_eq counted.0 name) counts) 0

-- a picture's row: a label, and the count that is told of a name
abbrev pub picture_row : List (Option ℤ × ℕ) → List ℕ → Option ℤ → PictureRowForm
picture_row counts label name = record { label = label; count = count_at counts name }

-- a picture's row for each row of a function, in order
abbrev pub picture_rows : (Option ℤ → List ℕ) → List (Option ℤ × ℕ) → List CountingRow → List PictureRowForm
picture_rows label counts rows = map (λ row. picture_row counts (label row.name) row.name) rows

-- the label of a row of `quantize`: its name
abbrev pub power_label : Option ℤ → List ℕ
power_label None = codes ""
power_label (Some name) = signed_decimal name

-- the label of a row of an `lquantize`: a level's name; the rows below and above all levels have their bound
abbrev pub level_label : Bounds → Option ℤ → List ℕ
level_label bounds None = codes "< " ++ signed_decimal bounds.lower
level_label bounds (Some name) = if int_eq name bounds.upper then codes ">= " ++ signed_decimal name else signed_decimal name

-- the rows of the picture of a `quantize`, and of an `lquantize`
abbrev pub power_rows : List (Option ℤ × ℕ) → List PictureRowForm
power_rows counts = picture_rows power_label counts quantize_rows

abbrev pub level_rows : Bounds → List (Option ℤ × ℕ) → List PictureRowForm
level_rows bounds counts = picture_rows (level_label bounds) counts (lquantize_rows bounds)
