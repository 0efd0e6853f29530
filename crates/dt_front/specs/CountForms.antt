-- Counts without where they lie in memory.
use Rattle.std.specs.Prelude.{ℕ, ℤ, Option}
use Rattle.dt_front.specs.declared.distribution.RowCount.{RowCount}

-- the name of a row, and how many values it counts
abbrev pub form_of_row_count : RowCount → Option ℤ × ℕ
form_of_row_count counted = (counted.least, counted.count)
