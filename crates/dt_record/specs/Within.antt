-- Clauses within the limits of a program, whatever their texts and numbers are.
use Rattle.std.specs.Prelude.{◌≤◌, length}
use Rattle.std.specs.List.{AllByRecursion}
use Rattle.dt_program.specs.Clause.{ClauseForm, StatementForm}
use Rattle.dt_program.specs.Clause as program
use Rattle.dt_program.specs.Limits.{statements_max, keys_max, frames_max}

-- a stack is asked for no more frames than it may be, and an aggregation has no more keys than it may have
abbrev pub IsStatementWithinLimits : StatementForm → Type 0
IsStatementWithinLimits (program.stack n) = n ≤ frames_max
IsStatementWithinLimits (program.ustack n) = n ≤ frames_max
IsStatementWithinLimits (program.aggregate name keys call) = length keys ≤ keys_max
IsStatementWithinLimits _ = Unit {0}

-- the clause has no more statements than it may have, each within its limits
pub record IsWithinLimits (clause : ClauseForm) : Type 0 where
  pub few : length clause.statements ≤ statements_max
  pub each : AllByRecursion IsStatementWithinLimits clause.statements
