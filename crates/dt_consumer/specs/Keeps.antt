-- How a consumer keeps its set-up, and what happened on each processor: what `StandsFor` is made of.
use Rattle.std.specs.Prelude.{◌≡◌, ℕ, ◌+◌, Bool, true, false, List, [], ◌∷◌, None, IfSome, if◌then◌else◌, MatchOption}
use Rattle.std.specs.Prelude.{length, map, slice_get}
use Rattle.dt_buffer.specs.History.{of_end}
use Rattle.dt_cred.specs.declared.account.Account.{Account}
use Rattle.dt_locals.specs.LocalsAreAt.{LocalsAreAt}
use Rattle.dt_machine.specs.Registry.{Registry}
use Rattle.dt_speculation.specs.IsAt.{SpecsAt}
use Rattle.dt_speculation.specs.Parts.{spec_drops}
use Rattle.dt_lang.specs.Program.{form_of_clause}
use Rattle.dt_ecb.specs.Ecbs.{of_probe}
use Rattle.dt_ecb.specs.Forms.{shapes_of}
use Rattle.dt_life.specs.Buffers.{errors_after, buffer_past_after, past_in}
use Rattle.dt_life.specs.Life.{SetUp, ecbs_in, phase_of, seen_count, shapes_in, tracing_steps}
use Rattle.dt_life.specs.Stores.{given_after}
use Rattle.dt_life.specs.Takings.{TracingEvent, snapped, truncated, closed}
use Rattle.dt_life.specs.TracingSteps.{TracingStep, dynamic_drops, locals_of, specs_of}
use Rattle.dt_life.specs.Uses.{AreGiven}
use Rattle.dt_consumer.specs.Tallies.{Tally, AreTallied}
use Rattle.dt_consumer.specs.TracedEcbs.{traced_among}
use Rattle.dt_consumer.specs.Uses.{AreUses}
use Rattle.dt_consumer.specs.declared.consumer.Consumer.{Consumer}
use Rattle.dt_consumer.specs.declared.course.Course.{Course}
use Rattle.dt_consumer.specs.declared.course.Course.TheVariants.{Running, Over}
use Rattle.dt_life.specs.declared.phase.Phase.{Phase}
use Rattle.dt_life.specs.declared.phase.Phase.TheVariants.{Inactive, Active, Stopped}
use Rattle.dt_consumer.specs.declared.processors.Processors.{Processors}
use Rattle.dt_consumer.specs.declared.tracing.Tracing.{Tracing}
use Rattle.dt_life.specs.Forms.{form_of_options}
use Rattle.dt_life.specs.Placed.{AreEcbs}

module _ (account : Account) (registry : Registry) (s : SetUp) (steps : List TracingStep) where
  -- what came to a processor by steps
  abbrev pub tally_after : (cpu : ℕ) → Tally
  tally_after cpu = record {
    came = buffer_past_after account registry s steps cpu;
    errors = errors_after steps cpu;
    dyndrops = dynamic_drops s.options steps cpu;
    specdrops = spec_drops (specs_of s.options steps) cpu;
  }

  -- All processors are after steps, and so are their stores, the variables and the speculations.
  pub record AreAfter (processors : Processors) : Type 0 where
    pub each : AreTallied tally_after processors.all.items
    pub stores : AreGiven (given_after s steps) processors.stores.items
    pub locals : LocalsAreAt (locals_of s.options steps) processors.locals
    pub specs : SpecsAt (specs_of s.options steps) processors.specs

-- the phase of a consumer that traces or has traced
abbrev pub phase_by : Course → Phase
phase_by Running = Active
phase_by (Over cause) = Stopped cause

-- the phase of a consumer that never traced: it may be closed
abbrev pub phase_untraced : Bool → Phase
phase_untraced is_closed = if is_closed then Stopped None else Inactive

-- Nothing was taken: buffers may have been read and aggregations truncated after a close, and that is all.
abbrev pub is_quiet : List TracingEvent → Bool
is_quiet [] = true
is_quiet (snapped cpu ∷ events) = is_quiet events
is_quiet (truncated name ∷ events) = is_quiet events
is_quiet (closed ∷ events) = is_quiet events
is_quiet _ = false

module _ (account : Account) (registry : Registry) (s : SetUp) where
  -- What is there from `go` on: a list of ECBs for each probe, with what a firing needs of one that traces a variable alone, and each processor with what
  -- was taken there.
  pub record IsTracing (tracing : Tracing) : Type 0 where
    pub lists : (probe : ℕ) → IfSome (slice_get tracing.lists.items probe)
        (λ list. AreEcbs s.clauses (of_probe probe (ecbs_in account registry s)) list.ecbs.items)
    pub traced : (probe : ℕ) → IfSome (slice_get tracing.lists.items probe)
        (λ list. list.traced ≡ traced_among s.clauses list.ecbs.items)
    pub all_lists : length tracing.lists.items ≡ length registry.probes + 1
    pub processors : AreAfter account registry s (tracing_steps account registry s) tracing.processors
    pub all_processors : length tracing.processors.all.items ≡ registry.cpus
    pub uses : AreUses (shapes_in s) s.clauses tracing.uses.items
    pub history : tracing.history ≡ s.options.histsize
    pub seen : tracing.seen ≡ seen_count s.since
    pub standing : phase_of s ≡ phase_by tracing.course
    pub end_last : tracing.course ≡ Running → (cpu : ℕ) → of_end (past_in account registry s cpu).events ≡ []

  -- A consumer that never traced: nothing was taken.
  pub record IsUntraced (is_closed : Bool) : Type 0 where
    pub quiet : is_quiet s.since ≡ true
    pub standing : phase_of s ≡ phase_untraced is_closed

  -- A consumer keeps its set-up.
  pub record Keeps (consumer : Consumer) : Type 0 where
    pub same_account : consumer.account ≡ account
    pub options : form_of_options consumer.options ≡ s.options
    pub clauses : map form_of_clause consumer.programs.clauses.items ≡ s.clauses
    pub ecbs : AreEcbs s.clauses (ecbs_in account registry s) consumer.programs.ecbs.items
    pub shapes : shapes_of consumer.programs.shapes ≡ shapes_in s
    pub tracing : MatchOption consumer.tracing (IsUntraced consumer.closed) IsTracing
