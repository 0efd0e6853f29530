-- The limits, with their numbers. The law `limits_agree` says that the code keeps these.
use Rattle.std.specs.Prelude.{ℕ, ◌+◌}
use Rattle.dt_machine.specs.Limits.{probe_id_max}

-- how many seats there are
abbrev pub seat_count : ℕ
seat_count = 256

-- how many lists of seats there are: one for each number up to the largest identifier of a probe
abbrev pub list_count : ℕ
list_count = probe_id_max + 1
