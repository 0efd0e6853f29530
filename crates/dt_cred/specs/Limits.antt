-- The limits, with their numbers. The law `limits_agree` says that the code keeps these.
use Rattle.std.specs.Prelude.{ℕ}

-- how many arguments a firing has
abbrev pub argument_count : ℕ
argument_count = 10

-- how many frames each stack of a firing has
abbrev pub frame_count : ℕ
frame_count = 8
