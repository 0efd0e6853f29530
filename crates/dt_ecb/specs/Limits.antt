-- The limits, with their numbers. The law `limits_agree` says that the code keeps these.
use Rattle.std.specs.Prelude.{ℕ}

-- the most ECBs of a consumer
abbrev pub ecbs_max : ℕ
ecbs_max = 1024

-- the most aggregations of a consumer
abbrev pub aggregations_max : ℕ
aggregations_max = 64
