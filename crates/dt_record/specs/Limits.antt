-- The limits, with their numbers. The law `limits_agree` says that the code keeps these.
use Rattle.std.specs.Prelude.{ℕ}

-- how many bytes an EPID takes in a record
abbrev pub epid_size : ℕ
epid_size = 4

-- the most bytes of a record
abbrev pub record_max : ℕ
record_max = 516

-- the most values that one clause gives to aggregations
abbrev pub values_max : ℕ
values_max = 40
