-- The limits, with their numbers. The law `limits_agree` says that the code keeps these.
use Rattle.std.specs.Prelude.{ℕ}

-- the most bytes of a line that isn't long
abbrev pub line_max : ℕ
line_max = 65536
