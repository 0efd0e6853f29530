-- How much a consumer that traces counts at most. Only invariants and proofs need these definitions.
use Rattle.std.specs.Prelude.{ℕ, ◌+◌, ◌*◌, ◌≤◌}
use Rattle.dt_buffer.specs.IsAt.{drops_of}
use Rattle.dt_ecb.specs.Limits.{ecbs_max}
use Rattle.dt_locals.specs.LocalsAreAt.{local_drops_of}
use Rattle.dt_program.specs.Limits.{statements_max}
use Rattle.dt_speculation.specs.IsAt.{fails_of}
use Rattle.dt_consumer.specs.declared.course.Course.{Course}
use Rattle.dt_consumer.specs.declared.course.Course.TheVariants.{Running, Over}
use Rattle.dt_consumer.specs.declared.processor.Processor.{Processor}
use Rattle.dt_consumer.specs.declared.processors.Processors.{Processors}

-- A processor counts at most so many drops, and as many errors.
abbrev pub AtMost : ℕ → Processor → Type 0
AtMost n processor =
    (drops_of processor.buffer ≤ n) × (processor.errors ≤ n) × (processor.dyndrops ≤ n) × (processor.specdrops ≤ n)

-- it counts at most so many more of each
abbrev pub AtMostMore : ℕ → Processor → Processor → Type 0
AtMostMore n old new =
    (drops_of new.buffer ≤ drops_of old.buffer + n) × (new.errors ≤ old.errors + n)
    × (new.dyndrops ≤ old.dyndrops + n) × (new.specdrops ≤ old.specdrops + n)

-- the variables and the speculations count at most so many drops and failed draws
abbrev pub FailsAtMost : ℕ → Processors → Type 0
FailsAtMost n processors = (local_drops_of processors.locals ≤ n) × (fails_of processors.specs ≤ n)

-- the most that one taking adds to a count: its assignments and draws, its own record, and one part for each statement
abbrev pub COMES_BY_ONE : ℕ
COMES_BY_ONE = 2 * statements_max + 1

-- the same of one firing, by all ECBs
abbrev pub COMES_MAX : ℕ
COMES_MAX = COMES_BY_ONE * ecbs_max

-- the most contributions of one firing
abbrev pub GIVES_MAX : ℕ
GIVES_MAX = statements_max * ecbs_max

-- how many firings of a consumer's own there were at most: BEGIN, and END where tracing is over
abbrev pub own_firings : Course → ℕ
own_firings Running = 1
own_firings (Over cause) = 2

-- how many firings there must be left to be seen: one where tracing goes on
abbrev pub must_be_left : Course → ℕ
must_be_left Running = 1
must_be_left (Over cause) = 0
