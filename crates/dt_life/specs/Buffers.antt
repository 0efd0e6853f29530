-- What comes to the principal buffers of a consumer, and its errors. Guide, Buffers and Buffering.
use Rattle.std.specs.Prelude.{ℕ, ◌==◌, ◌&&◌, List, [], ◌∷◌, ◌++◌, map, if◌then◌else◌}
use Rattle.std.specs.List.{flat_map}
use Rattle.std.specs.Option.{option_to_list}
use Rattle.dt_buffer.specs.History.{BufferPast, attempt, swap}
use Rattle.dt_buffer.specs.History as buffer
use Rattle.dt_cred.specs.declared.account.Account.{Account}
use Rattle.dt_machine.specs.Registry.{Registry}
use Rattle.dt_life.specs.Life.{Item, SetUp, end_size, set_up, tracing_steps}
use Rattle.dt_life.specs.Options.{is_fill}
use Rattle.dt_life.specs.Takings.{Taking, cpu_of, faults, parts_committed, record_of}
use Rattle.dt_life.specs.TracingSteps.{TracingStep, takes, reads, taken_on}

-- The records that a taking attempts to put into a processor's buffer, each as one: on its own processor the record that it
-- leaves, and on each processor the parts that it commits.
abbrev pub records_to : (cpu : ℕ) → Taking → List (List ℕ)
records_to cpu t = (if cpu_of t == cpu then option_to_list (record_of t) else []) ++ parts_committed cpu t

abbrev pub attempts_to : (cpu : ℕ) → Taking → List buffer.BufferEvent
attempts_to cpu t = map (λ bytes. attempt bytes t.in_end) (records_to cpu t)

-- what a step brings to a processor's buffer: attempts, or, by a snap, a swap
abbrev pub comes_by : (cpu : ℕ) → TracingStep → List buffer.BufferEvent
comes_by cpu (takes t) = attempts_to cpu t
comes_by cpu (reads n) = if n == cpu then swap ∷ [] else []
comes_by cpu _ = []

-- the same for steps, in order
abbrev pub comes_by_steps : (cpu : ℕ) → List TracingStep → List buffer.BufferEvent
comes_by_steps cpu steps = flat_map (comes_by cpu) steps

-- the clauses that a division by zero ended on a processor
abbrev pub errors_after : List TracingStep → (cpu : ℕ) → ℕ
errors_after steps cpu = faults (flat_map (taken_on cpu) steps)

-- a buffer's past, and then these
abbrev pub followed_by : BufferPast → List buffer.BufferEvent → BufferPast
followed_by past events = record {
  policy = past.policy;
  size = past.size;
  reserve = past.reserve;
  events = past.events ++ events;
}

module _ (account : Account) (registry : Registry) where
  -- Under fill, processor 0 keeps the bytes of one record of each of END's ECBs free for them.
  abbrev pub reserve_on : SetUp → ℕ → ℕ
  reserve_on s cpu = if is_fill s.options.bufpolicy && cpu == 0 then end_size account registry s else 0

  -- the past of a processor's buffer, after steps
  abbrev pub buffer_past_after : SetUp → List TracingStep → ℕ → BufferPast
  buffer_past_after s steps cpu = record {
    policy = s.options.bufpolicy;
    size = s.options.bufsize;
    reserve = reserve_on s cpu;
    events = comes_by_steps cpu steps;
  }

  abbrev pub past_in : SetUp → ℕ → BufferPast
  past_in s cpu = buffer_past_after s (tracing_steps account registry s) cpu

  abbrev pub errors_in : SetUp → ℕ → ℕ
  errors_in s cpu = errors_after (tracing_steps account registry s) cpu

module _ (account : Account) (registry : Registry) (life : List Item) (cpu : ℕ) where
  -- what came to the buffer of a processor in a life, and the errors there
  abbrev pub past : BufferPast
  past = past_in account registry (set_up account registry life) cpu

  abbrev pub errors : ℕ
  errors = errors_in account registry (set_up account registry life) cpu
