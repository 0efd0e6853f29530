-- The steps of a consumer's tracing: one list over all processors, off which buffers, errors, stores, variables and speculations are
-- read. Guide, Thread-Local Variables; Speculative Tracing.
use Rattle.std.specs.Prelude.{◌≡◌, Some, length, slice_get, take, ℕ, ◌==◌, ◌&&◌, Bool, not, List, [], ◌∷◌, ◌++◌, map, zip, count_by, if◌then◌else◌}
use Rattle.std.specs.List.{flat_map, fold}
use Rattle.std.specs.Option.{option_map_or}
use Rattle.dt_cred.specs.declared.account.Account.{Account}
use Rattle.dt_ecb.specs.Ecbs.{EcbForm, of_probe}
use Rattle.dt_locals.specs.Chosen.{locals_choice}
use Rattle.dt_locals.specs.History.{Assignment, LocalsPast}
use Rattle.dt_machine.specs.Registry.{Registry}
use Rattle.dt_speculation.specs.History.{SpecEvent, SpecPast}
use Rattle.dt_life.specs.Options.{OptionsForm}
use Rattle.dt_record.specs.Pasts.{TracingPast}
use Rattle.dt_machine.specs.Context.{ContextForm}
use Rattle.dt_life.specs.Takings.{TracingEvent, snapped, truncated, is_end, context_at, Taking, assignments_of, cpu_of, spec_events_of}
use Rattle.dt_life.specs.Takings.{taking_of, through_exit}

-- A step: an ECB is taken, a processor's buffer is read by a snap, or the aggregation of a name is truncated.
pub data TracingStep : Type 0 where
  takes : Taking → TracingStep
  reads : (cpu : ℕ) → TracingStep
  truncates : (name : List ℕ) → TracingStep

-- what a step takes on a processor
abbrev pub taken_on : (cpu : ℕ) → TracingStep → List Taking
taken_on cpu (takes t) = if cpu_of t == cpu then t ∷ [] else []
taken_on cpu _ = []

-- what a step assigns to variables, each with the processor on which it does
abbrev pub assigned_in : TracingStep → List (ℕ × Assignment)
assigned_in (takes t) = map (λ assignment. (cpu_of t, assignment)) (assignments_of t)
assigned_in _ = []

-- what comes to speculations by a step
abbrev pub speculated_in : TracingStep → List SpecEvent
speculated_in (takes t) = spec_events_of t
speculated_in _ = []

module _ (options : OptionsForm) (steps : List TracingStep) where
  -- what came to the variables: all that was assigned, on whichever processor
  abbrev pub locals_of : LocalsPast
  locals_of = record {
    dynvarsize = options.dynvarsize;
    assignments = map (λ (one : ℕ × Assignment). one.1) (flat_map assigned_in steps);
  }

  -- what came to the speculations
  abbrev pub specs_of : SpecPast
  specs_of = record { nspec = options.nspec; specsize = options.specsize; events = flat_map speculated_in steps }

  abbrev pub past_of_steps : TracingPast
  past_of_steps = record { locals = locals_of; specs = specs_of }

  -- The dynamic variable drops of a processor: the assignments on it that aren't kept.
  abbrev pub dynamic_drops : (cpu : ℕ) → ℕ
  dynamic_drops cpu = count_by (λ (one : (ℕ × Assignment) × Bool). one.0.0 == cpu && not one.1)
      (zip (flat_map assigned_in steps) (locals_choice locals_of))

-- steps, and then these takings
abbrev pub steps_and : List TracingStep → List Taking → List TracingStep
steps_and steps new = steps ++ map takes new

module _ (options : OptionsForm) (steps : List TracingStep) (in_end : Bool) (context : ContextForm) where
  -- The takings of ECBs, one after another: as many, and each is its own ECB's after the steps and the takings before it.
  pub record AreTakenInTurn (ecbs : List EcbForm) (takings : List Taking) : Type 0 where
    pub many : length takings ≡ length ecbs
    pub each : (i : ℕ) (ecb : EcbForm) → slice_get ecbs i ≡ Some ecb
        → slice_get takings i ≡ Some (taking_of in_end (past_of_steps options (steps_and steps (take i takings))) context ecb)

  -- the one list of such takings
  abbrev pub taken_in_turn : List EcbForm → List Taking
  taken_in_turn ecbs = fold
      (λ (done : List Taking) ecb. done ++ taking_of in_end (past_of_steps options (steps_and steps done)) context ecb ∷ [])
      [] ecbs

  -- what is taken of ECBs: after an exit the later ones aren't; in END an exit is passed over
  abbrev pub takings_of : List EcbForm → List Taking
  takings_of ecbs = if in_end then taken_in_turn ecbs else through_exit (taken_in_turn ecbs)

  -- those of the probe that fires, in order of EPID
  abbrev pub taken_at : List EcbForm → List Taking
  taken_at ecbs = takings_of (of_probe context.firing.probe ecbs)

module _ (account : Account) (registry : Registry) (options : OptionsForm) (ecbs : List EcbForm) where
  -- what is taken by an event after other steps
  abbrev pub taken_by : List TracingStep → TracingEvent → List Taking
  taken_by earlier event = option_map_or
      (λ (context : ContextForm). taken_at options earlier (is_end event) context ecbs) (context_at account registry event) []

  -- the steps of an event after other steps
  abbrev pub steps_by : List TracingStep → TracingEvent → List TracingStep
  steps_by earlier (snapped cpu) = reads cpu ∷ []
  steps_by earlier (truncated name) = truncates name ∷ []
  steps_by earlier event = map takes (taken_by earlier event)

  abbrev pub steps_then : List TracingStep → TracingEvent → List TracingStep
  steps_then earlier event = earlier ++ steps_by earlier event

  -- the steps of events, the newest event first, the oldest step first
  abbrev pub steps_since : List TracingEvent → List TracingStep
  steps_since [] = []
  steps_since (event ∷ events) = steps_then (steps_since events) event
