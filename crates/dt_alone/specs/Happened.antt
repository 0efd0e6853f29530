-- What happened on each processor, as a runner lists it, the oldest first.
use Rattle.std.specs.Prelude.{◌≡◌, ℕ, ◌+◌, ◌<◌, ◌==◌, Bool, true, false, List, [], ◌∷◌, ◌++◌, length, map, filter}
use Rattle.std.specs.Prelude.{if◌then◌else◌}
use Rattle.std.specs.List.{flat_map}
use Rattle.std.specs.Option.{option_map, option_to_list}
use Rattle.std.specs.Global.{Vec}
use Rattle.dt_aggstore.specs.History as store
use Rattle.dt_buffer.specs.Ending.{fitting}
use Rattle.dt_buffer.specs.History as buffer
use Rattle.dt_ecb.specs.Shapes.{ShapeForm}
use Rattle.dt_speculation.specs.Answers.{failed_draws}
use Rattle.dt_speculation.specs.History.{SpecEvent, SpecPast}
use Rattle.dt_speculation.specs.Parts.{is_dropped, spec_drops}
use Rattle.dt_alone.specs.declared.happened.Happened.{Happened}
use Rattle.dt_alone.specs.declared.happened.Happened.TheVariants.{Failed, Left, Committed, Snapped, Truncated, VariableDropped, RecordDropped, DrawFailed}
use Rattle.dt_alone.specs.declared.happened.Contribution.{Contribution}
use Rattle.dt_alone.specs.declared.happened.StatusCount.{StatusCount}
use Rattle.dt_alone.specs.declared.happened.StatusCount.TheVariants as counted
use Rattle.dt_life.specs.Buffers.{comes_by_steps, errors_after}
use Rattle.dt_life.specs.Options.{OptionsForm}
use Rattle.dt_life.specs.Stores.{given_by_steps}
use Rattle.dt_life.specs.TracingSteps.{TracingStep, dynamic_drops, specs_of}

-- a contribution as stores are given it
abbrev pub given_as : Contribution → store.Event
given_as one = store.given one.aggregation one.key.parts.items one.number

-- what comes to the buffer of a processor
abbrev pub comes_to : ℕ → Happened → List buffer.BufferEvent
comes_to cpu (Left there in_end left) =
    if there == cpu then
    option_to_list (option_map (λ (bytes : Vec ℕ). buffer.attempt bytes.items in_end) left.bytes) else []
comes_to cpu (Committed there in_end part) = if there == cpu then buffer.attempt part.items in_end ∷ [] else []
comes_to cpu (Snapped there) = if there == cpu then buffer.swap ∷ [] else []
comes_to cpu _ = []

-- a clause that a division by zero ended on a processor
abbrev pub is_fault_on : ℕ → Happened → Bool
is_fault_on cpu (Failed there) = there == cpu
is_fault_on cpu _ = false

-- an assignment that found no room, on a processor
abbrev pub is_variable_dropped_on : ℕ → Happened → Bool
is_variable_dropped_on cpu (VariableDropped there) = there == cpu
is_variable_dropped_on cpu _ = false

-- a record that a speculation dropped, on a processor
abbrev pub is_record_dropped_on : ℕ → Happened → Bool
is_record_dropped_on cpu (RecordDropped there) = there == cpu
is_record_dropped_on cpu _ = false

-- what is counted on a processor
abbrev pub is_counted_on : StatusCount → ℕ → Happened → Bool
is_counted_on counted.Failed = is_fault_on
is_counted_on counted.VariableDropped = is_variable_dropped_on
is_counted_on counted.RecordDropped = is_record_dropped_on

abbrev pub counted_on : StatusCount → ℕ → List Happened → ℕ
counted_on what cpu happened = length (filter (is_counted_on what cpu) happened)

-- a draw that found all identifiers in use
abbrev pub is_draw_failed : Happened → Bool
is_draw_failed DrawFailed = true
is_draw_failed _ = false

-- something that a clause left
abbrev pub is_left : Happened → Bool
is_left (Left there in_end left) = true
is_left _ = false

-- how many of them there are
abbrev pub left_count : List Happened → ℕ
left_count happened = length (filter is_left happened)

-- what comes to the store of a processor
abbrev pub gives_to : ℕ → Happened → List store.Event
gives_to cpu (Left there in_end left) = if there == cpu then map given_as left.given.items else []
gives_to cpu (Truncated aggregation) = store.truncated aggregation ∷ []
gives_to cpu _ = []

abbrev pub all_to : ℕ → List Happened → List buffer.BufferEvent
all_to cpu happened = flat_map (comes_to cpu) happened

-- the records that come to it and aren't longer than it
abbrev pub fitting_on : ℕ → ℕ → List Happened → List (List ℕ)
fitting_on size cpu happened = fitting size (buffer.attempts (all_to cpu happened))

abbrev pub given_to : ℕ → List Happened → List store.Event
given_to cpu happened = flat_map (gives_to cpu) happened

-- What is told of a processor: what came to its buffer and to its store, its errors, the variables and the records that were dropped
-- there; and the draws that failed, wherever they were made.
pub record ProcessorTold : Type 0 where
  pub came : List buffer.BufferEvent
  pub failures : ℕ
  pub given : List store.Event
  pub variables_dropped : ℕ
  pub records_dropped : ℕ
  pub draws_failed : ℕ

-- what a list of what happened tells of a processor
abbrev pub told_on : ℕ → List Happened → ProcessorTold
told_on cpu happened = record {
  came = all_to cpu happened;
  failures = length (filter (is_fault_on cpu) happened);
  given = given_to cpu happened;
  variables_dropped = length (filter (is_variable_dropped_on cpu) happened);
  records_dropped = length (filter (is_record_dropped_on cpu) happened);
  draws_failed = length (filter is_draw_failed happened);
}

-- what steps tell of a processor
abbrev pub told_by : List ShapeForm → OptionsForm → List TracingStep → ℕ → ProcessorTold
told_by shapes options steps cpu = record {
  came = comes_by_steps cpu steps;
  failures = errors_after steps cpu;
  given = given_by_steps shapes cpu steps;
  variables_dropped = dynamic_drops options steps cpu;
  records_dropped = spec_drops (specs_of options steps) cpu;
  draws_failed = failed_draws (specs_of options steps).events;
}

-- What happened brought what these steps do, on each of so many processors.
abbrev pub Brings : (cpus : ℕ) → List ShapeForm → OptionsForm → List Happened → List TracingStep → Type 0
Brings cpus shapes options happened steps =
    (cpu : ℕ) → cpu < cpus → told_on cpu happened ≡ told_by shapes options steps cpu

-- what is told, and then this
abbrev pub told_both : ProcessorTold → ProcessorTold → ProcessorTold
told_both first later = record {
  came = first.came ++ later.came;
  failures = first.failures + later.failures;
  given = first.given ++ later.given;
  variables_dropped = first.variables_dropped + later.variables_dropped;
  records_dropped = first.records_dropped + later.records_dropped;
  draws_failed = first.draws_failed + later.draws_failed;
}

-- drops and failed draws, and nothing else
abbrev pub only_drops : (variables records draws : ℕ) → ProcessorTold
only_drops variables records draws = record {
  came = [];
  failures = 0;
  given = [];
  variables_dropped = variables;
  records_dropped = records;
  draws_failed = draws;
}

-- attempts of records at the buffer, and nothing else
abbrev pub only_attempts : (in_end : Bool) → List (List ℕ) → ProcessorTold
only_attempts in_end records = record {
  came = map (λ bytes. buffer.attempt bytes in_end) records;
  failures = 0;
  given = [];
  variables_dropped = 0;
  records_dropped = 0;
  draws_failed = 0;
}

-- how many of them their parts drop on a processor
abbrev pub dropped_of : (on : ℕ) → SpecPast → List SpecEvent → ℕ
dropped_of on past puts = length (filter (is_dropped on past) puts)
