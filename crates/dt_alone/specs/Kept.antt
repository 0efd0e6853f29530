-- When a runner's variables and speculations are after steps.
use Rattle.std.specs.Prelude.{ℕ, ◌≤◌, List}
use Rattle.dt_locals.specs.LocalsAreAt.{local_drops_of}
use Rattle.dt_record.specs.TracingAt.{TracingAt}
use Rattle.dt_speculation.specs.IsAt.{fails_of}
use Rattle.dt_alone.specs.declared.kept.KeptState.{KeptState}
use Rattle.dt_life.specs.Options.{OptionsForm}
use Rattle.dt_life.specs.TracingSteps.{TracingStep, past_of_steps}

-- They are at the end of what came to them by these steps.
abbrev pub IsKeptAt : OptionsForm → List TracingStep → KeptState → Type 0
IsKeptAt options steps kept = TracingAt (past_of_steps options steps) kept.locals kept.specs

-- They count at most so many drops, and as many failed draws.
abbrev pub DropsAtMost : ℕ → KeptState → Type 0
DropsAtMost n kept = (local_drops_of kept.locals ≤ n) × (fails_of kept.specs ≤ n)
