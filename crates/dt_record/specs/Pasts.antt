-- What came to a consumer's thread-local variables and speculations, and then what comes after it.
use Rattle.std.specs.Prelude.{List}
use Rattle.dt_locals.specs.History.{Assignment, LocalsPast, locals_then}
use Rattle.dt_speculation.specs.History.{SpecEvent, SpecPast, specs_then}

-- What came to a consumer's thread-local variables and to its speculations.
pub record TracingPast : Type 0 where
  pub locals : LocalsPast
  pub specs : SpecPast

abbrev pub past_then : TracingPast → List Assignment → List SpecEvent → TracingPast
past_then past assignments events = record {
  locals = locals_then past.locals assignments;
  specs = specs_then past.specs events;
}
