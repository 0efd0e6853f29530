-- The limits, with their numbers. The law `limits_agree` says that the code keeps these.
use Rattle.std.specs.Prelude.{ℕ}

-- the most bytes that the entries of a store may cost
abbrev pub aggsize_max : ℕ
aggsize_max = 1048576

-- the most parts of a key
abbrev pub keys_max : ℕ
keys_max = 4

-- the most stores that a table joins
abbrev pub stores_max : ℕ
stores_max = 64

-- how many contributions a store counts, 2 ^ 40
abbrev pub added_limit : ℕ
added_limit = 1099511627776
