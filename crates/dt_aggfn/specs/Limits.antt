-- The limits, with their numbers. The law `limits_agree` says that the code keeps these.
use Rattle.std.specs.Prelude.{ℕ}

-- the most levels of a linear quantization
abbrev pub levels_max : ℕ
levels_max = 512

-- the most words of a cell: a linear quantization has a row below its levels and a row from its upper bound on
abbrev pub cell_words_max : ℕ
cell_words_max = 514

-- the exponent of the greatest power of two that names a row
abbrev pub greatest_power : ℕ
greatest_power = 62

-- how many rows a quantization has
abbrev pub quantize_row_count : ℕ
quantize_row_count = 127

-- a bag has fewer values than this, which is 2 ^ 62
abbrev pub bag_limit : ℕ
bag_limit = 4611686018427387904
