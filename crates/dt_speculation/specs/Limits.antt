-- The limits, with their numbers. The law `limits_agree` says that the code keeps these.
use Rattle.std.specs.Prelude.{ℕ}

-- the most identifiers
abbrev pub nspec_max : ℕ
nspec_max = 64

-- the fewest bytes of a part, which is an identifier's buffer of one processor
abbrev pub specsize_min : ℕ
specsize_min = 4

-- the most bytes of a part
abbrev pub specsize_max : ℕ
specsize_max = 65536

-- the most processors, each of which has a part of each identifier
abbrev pub parts_max : ℕ
parts_max = 64

-- how many failed draws are counted, 2 ^ 40
abbrev pub failed_limit : ℕ
failed_limit = 1099511627776
