-- A consumer's thread-local variables and speculations, and what was dropped of them. Guide, Thread-Local Variables; Speculative
-- Tracing.
use Rattle.std.specs.Prelude.{ℕ, List}
use Rattle.dt_cred.specs.declared.account.Account.{Account}
use Rattle.dt_locals.specs.History.{LocalsPast}
use Rattle.dt_machine.specs.Registry.{Registry}
use Rattle.dt_speculation.specs.Answers.{failed_draws}
use Rattle.dt_speculation.specs.History.{SpecPast}
use Rattle.dt_speculation.specs.Parts.{spec_drops}
use Rattle.dt_life.specs.Life.{Item, SetUp, set_up, tracing_steps}
use Rattle.dt_life.specs.TracingSteps.{dynamic_drops, locals_of, specs_of}

module _ (account : Account) (registry : Registry) (s : SetUp) where
  -- what came to the variables, and to the speculations
  abbrev pub locals_in : LocalsPast
  locals_in = locals_of s.options (tracing_steps account registry s)

  abbrev pub specs_in : SpecPast
  specs_in = specs_of s.options (tracing_steps account registry s)

  -- the assignments on a processor that found no room
  abbrev pub dyndrops_in : (cpu : ℕ) → ℕ
  dyndrops_in cpu = dynamic_drops s.options (tracing_steps account registry s) cpu

  -- the records on a processor that their speculations dropped
  abbrev pub specdrops_in : (cpu : ℕ) → ℕ
  specdrops_in cpu = spec_drops specs_in cpu

  -- the draws that found all identifiers in use
  abbrev pub specfails_in : ℕ
  specfails_in = failed_draws specs_in.events

module _ (account : Account) (registry : Registry) (life : List Item) where
  -- what came to the variables in a life, and to the speculations
  abbrev pub locals : LocalsPast
  locals = locals_in account registry (set_up account registry life)

  abbrev pub specs : SpecPast
  specs = specs_in account registry (set_up account registry life)
