-- Why numbers are no bounds of an `lquantize` (`AreBounds` of dt_aggfn).
use Rattle.std.specs.Prelude.{ℤ, pos, ◌-ℤ◌, int_lt, int_le, int_div, int_rem, Option, Some, None, if◌then◌else◌}
use Rattle.std.specs.Ordering.{int_eq}
use Rattle.dt_aggfn.specs.Limits.{levels_max}
use Rattle.dt_program.specs.declared.clause.BoundsFault.{BoundsFault}
use Rattle.dt_program.specs.declared.clause.BoundsFault.TheVariants.{NotRising, NoStep, Uneven, TooMany}

-- the first of the rules for bounds that these break, if they break one
abbrev pub bounds_fault : (lower upper step : ℤ) → Option BoundsFault
bounds_fault lower upper step = if int_lt lower upper then (if int_lt (pos 0) step
    then (if int_eq (int_rem (upper -ℤ lower) step) (pos 0)
    then (if int_le (int_div (upper -ℤ lower) step) (pos levels_max) then None else Some TooMany)
    else Some Uneven) else Some NoStep) else Some NotRising
