-- The names of the facts of a processor: they come after those of all seats.
use Rattle.std.specs.Prelude.{ℕ, ◌+◌}
use Rattle.dt_chain.specs.Limits.{seat_count}
use Rattle.dt_seat.specs.Names.{first_name}

-- the name of a processor's log
abbrev pub log_name : (cpus cpu : ℕ) → ℕ
log_name cpus cpu = first_name cpus seat_count + cpu
