-- The limits, with their numbers. The law `limits_agree` says that the code keeps these.
use Rattle.std.specs.Prelude.{ℕ}

-- the most reads of an input: after so many it counts as one that fails
abbrev pub reads_max : ℕ
reads_max = 268435456
