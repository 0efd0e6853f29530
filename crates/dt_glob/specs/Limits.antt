-- The limits, with their numbers. The law `limits_agree` says that the code keeps these.
use Rattle.std.specs.Prelude.{ℕ}

-- the most bytes of a pattern
abbrev pub pattern_max : ℕ
pattern_max = 63
