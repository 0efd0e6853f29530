-- The limits, with their numbers. The law `limits_agree` says that the code keeps these.
use Rattle.std.specs.Prelude.{ℕ}

-- the most bytes of a principal buffer
abbrev pub buffer_size_max : ℕ
buffer_size_max = 1048576

-- how many drops a buffer counts, 2 ^ 40
abbrev pub drops_limit : ℕ
drops_limit = 1099511627776
