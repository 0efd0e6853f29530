-- What statements do, said of the whole list of their effects. The law `one_performance` says that `perform` gives it.
use Rattle.std.specs.Prelude.{◌≡◌, ℕ, ◌≤◌, List, Some, None, length, slice_get, take}
use Rattle.dt_expr.specs.Scene.{SceneForm}
use Rattle.dt_program.specs.Clause.{StatementForm}
use Rattle.dt_record.specs.Pasts.{TracingPast}
use Rattle.dt_record.specs.Taking.{Effect, effect, past_with}

-- Each effect is what the statement at its place does after what those before it assigned and drew. The list ends with the statements,
-- or before one in which a division by zero is evaluated then.
pub record IsPerformance (scene : SceneForm) (past : TracingPast) (statements : List StatementForm) (effects : List Effect)
    : Type 0 where
  pub few : length effects ≤ length statements
  pub each : (i : ℕ) (statement : StatementForm) (done : Effect) → slice_get statements i ≡ Some statement
      → slice_get effects i ≡ Some done → effect scene (past_with past (take i effects)) statement ≡ Some done
  pub ended : (statement : StatementForm) → slice_get statements (length effects) ≡ Some statement
      → effect scene (past_with past effects) statement ≡ None
