-- Texts in columns.
use Rattle.std.specs.Prelude.{ℕ, ◌-◌, List, ◌++◌, length, replicate}
use Rattle.dt_names.specs.Bytes.{space}

-- so many blanks
abbrev pub blanks : ℕ → List ℕ
blanks count = replicate count space

-- A text at the left of a column of this width, and one at its right. A longer text stands whole, and makes its row wider.
abbrev pub at_left : ℕ → List ℕ → List ℕ
at_left width text = text ++ blanks (width - length text)

abbrev pub at_right : ℕ → List ℕ → List ℕ
at_right width text = blanks (width - length text) ++ text
