-- The limits, with their numbers. The law `limits_agree` says that the code keeps these.
use Rattle.std.specs.Prelude.{ℕ}

-- the most descriptions of a clause
abbrev pub descriptions_max : ℕ
descriptions_max = 16

-- the most statements of a clause
abbrev pub statements_max : ℕ
statements_max = 8

-- the most keys of an aggregation
abbrev pub keys_max : ℕ
keys_max = 4

-- the most frames that a stack is asked for
abbrev pub frames_max : ℕ
frames_max = 8

-- the most clauses of a program
abbrev pub clauses_max : ℕ
clauses_max = 64

-- the most tokens of a predicate, an argument, a key or a value
abbrev pub tokens_max : ℕ
tokens_max = 64
