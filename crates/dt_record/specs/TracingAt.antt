-- When variables and speculative buffers are at the end of a past.
use Rattle.dt_locals.specs.LocalsAreAt.{LocalsAreAt}
use Rattle.dt_locals.specs.declared.locals.Locals.{Locals}
use Rattle.dt_speculation.specs.IsAt.{SpecsAt}
use Rattle.dt_speculation.specs.declared.speculations.Specs.{Specs}
use Rattle.dt_record.specs.Pasts.{TracingPast}

-- Both are at the end of what came to them.
pub record TracingAt (past : TracingPast) (locals : Locals) (specs : Specs) : Type 0 where
  pub variables : LocalsAreAt past.locals locals
  pub speculations : SpecsAt past.specs specs
