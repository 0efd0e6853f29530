-- A distribution as the picture that DTrace draws.
use Rattle.std.specs.Prelude.{ℕ, ◌+◌, ◌-◌, ◌*◌, ◌/◌, ◌==◌, max, min, List, ◌++◌, length, sum_by, drop, take, reverse, nat_lt, replicate, codes, decimal, if◌then◌else◌, Bool}
use Rattle.std.specs.List.{flat_map, position_or_len}
use Rattle.dt_names.specs.Bytes.{hyphen, at_sign}
use Rattle.dt_front.specs.Limits.{bar_max, bar_min, beside_bar, label_width}
use Rattle.dt_front.specs.Columns.{at_right, blanks}

-- a row of a distribution: the text that names it, and how many values it counts
pub record PictureRowForm : Type 0 where
  pub label : List ℕ
  pub count : ℕ

abbrev pub is_counted : PictureRowForm → Bool
is_counted row = nat_lt 0 row.count

-- the values that all rows count
abbrev pub total_of : List PictureRowForm → ℕ
total_of rows = sum_by (λ row. row.count) rows

-- how many columns the longest bar has on a page of this width: 40, fewer where the page has fewer than 66, and never fewer than 14
abbrev pub bar_width : ℕ → ℕ
bar_width page = max bar_min (min bar_max (page - beside_bar))

-- The columns of a bar: as many of the longest one's as a count is of the total, to the nearest whole number, and a half up; none where the total is 0.
abbrev pub bar_columns : ℕ → ℕ → ℕ → ℕ
bar_columns longest count total = if total == 0 then 0 else (2 * longest * count + total) / (2 * total)

-- the bar, with blanks up to the last column
abbrev pub bar : ℕ → ℕ → List ℕ
bar longest columns = replicate columns at_sign ++ blanks (longest - columns)

-- a row's line: its name, its bar and its count, without blanks after it
abbrev pub row_line : ℕ → ℕ → PictureRowForm → List ℕ
row_line longest total row =
    at_right label_width row.label ++ codes " |" ++ bar longest (bar_columns longest row.count total) ++ codes " " ++ decimal row.count ++ codes "\n"

-- The rows that are shown: from the first with a count to the last, with one empty row at each end, where there is one.
abbrev pub from_first : List PictureRowForm → List PictureRowForm
from_first rows = drop (position_or_len is_counted rows - 1) rows

abbrev pub to_last : List PictureRowForm → List PictureRowForm
to_last rows = take (length rows - (position_or_len is_counted (reverse rows) - 1)) rows

abbrev pub shown_rows : List PictureRowForm → List PictureRowForm
shown_rows rows = to_last (from_first rows)

-- the word above the bars, in the midst of as many dashes as give it their width
abbrev pub bars_head : ℕ → List ℕ
bars_head longest = replicate ((longest - bar_min) / 2) hyphen ++ codes " Distribution " ++ replicate (longest - bar_min - (longest - bar_min) / 2) hyphen

-- the head of the picture
abbrev pub picture_head : ℕ → List ℕ
picture_head longest = codes "           value  " ++ bars_head longest ++ codes " count\n"

-- the picture on a page of this width: its head, and a line for each row that is shown
abbrev pub picture : ℕ → List PictureRowForm → List ℕ
picture page rows = picture_head (bar_width page) ++ flat_map (row_line (bar_width page) (total_of rows)) (shown_rows rows)
