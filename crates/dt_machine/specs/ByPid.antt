-- Where the process of each number lies, from a table of marks: one more than its place, or 0.
use Rattle.std.specs.Prelude.{ℕ, zero, suc, Option, Some, None, slice_index}
use Rattle.dt_machine.specs.declared.by_pid.ByPid.{ByPid}

abbrev pub place_marked : ℕ → Option ℕ
place_marked zero = None
place_marked (suc place) = Some place

-- the place of the process of a number
abbrev pub place_in : ByPid → ℕ → Option ℕ
place_in by_pid pid = place_marked (slice_index by_pid.marks.items pid)
