-- The limits, with their numbers. The law `limits_agree` says that the code keeps these.
use Rattle.std.specs.Prelude.{ℕ}

-- the fewest bytes of room that a consumer may ask for
abbrev pub dynvarsize_min : ℕ
dynvarsize_min = 32

-- the most bytes of room
abbrev pub dynvarsize_max : ℕ
dynvarsize_max = 1048576

-- how many bytes of the room a variable costs that isn't 0
abbrev pub local_size : ℕ
local_size = 32

-- how many drops are counted, 2 ^ 40
abbrev pub local_drops_limit : ℕ
local_drops_limit = 1099511627776
