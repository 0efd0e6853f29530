-- What came to a processor and is counted there. `StandsFor` is made of it; who uses a consumer needs no part of it.
use Rattle.std.specs.Prelude.{◌≡◌, ◌==◌, ◌+◌, ℕ, Bool, List, Option, None, map, slice_get, is_some, if◌then◌else◌, IfSome}
use Rattle.std.specs.Prelude.{count_by}
use Rattle.std.specs.Option.{option_to_list}
use Rattle.dt_buffer.specs.History.{BufferPast, attempt, new_buffer_past}
use Rattle.dt_buffer.specs.IsAt.{BufferIsAt}
use Rattle.dt_buffer.specs.declared.policy.Policy.{Policy}
use Rattle.dt_life.specs.Buffers.{followed_by}
use Rattle.dt_life.specs.Takings.{puts_in}
use Rattle.dt_record.specs.Taking.{Outcome, TakenForm, abandoned, leaves, passed_over}
use Rattle.dt_speculation.specs.History.{SpecPast}
use Rattle.dt_speculation.specs.Parts.{is_dropped}
use Rattle.dt_consumer.specs.declared.processor.Processor.{Processor}

-- What came to a processor's buffer, and the errors and drops that are counted there.
pub record Tally : Type 0 where
  pub came : BufferPast
  pub errors : ℕ
  pub dyndrops : ℕ
  pub specdrops : ℕ

-- that of a new processor
abbrev pub new_tally : Policy → ℕ → ℕ → Tally
new_tally policy size reserve =
    record { came = new_buffer_past policy size reserve; errors = 0; dyndrops = 0; specdrops = 0 }

-- A processor has what came to it.
pub record IsTallied (tally : Tally) (processor : Processor) : Type 0 where
  pub stands : BufferIsAt tally.came processor.buffer
  pub counted : processor.errors ≡ tally.errors
  pub dynamic_dropped : processor.dyndrops ≡ tally.dyndrops
  pub speculative_dropped : processor.specdrops ≡ tally.specdrops

-- Each processor has.
abbrev pub AreTallied : (ℕ → Tally) → List Processor → Type 0
AreTallied tallies all = (cpu : ℕ) → IfSome (slice_get all cpu) (IsTallied (tallies cpu))

-- a tally, and then attempts at its buffer
abbrev pub with_records : Bool → List (List ℕ) → Tally → Tally
with_records in_end records tally = record {
  came = followed_by tally.came (map (λ bytes. attempt bytes in_end) records);
  errors = tally.errors;
  dyndrops = tally.dyndrops;
  specdrops = tally.specdrops;
}

-- the record that is attempted at the buffer, of what a clause left
abbrev pub record_in : TakenForm → Option (List ℕ)
record_in form = if is_some form.spec then None else form.record_bytes

-- a tally, and then the record that a clause left: it is attempted at the buffer, or a part drops it
abbrev pub with_left : Bool → (cpu : ℕ) → SpecPast → TakenForm → Tally → Tally
with_left in_end cpu specs form tally = record {
  came = (with_records in_end (option_to_list (record_in form)) tally).came;
  errors = tally.errors;
  dyndrops = tally.dyndrops;
  specdrops = tally.specdrops + count_by (is_dropped cpu specs) (puts_in cpu form);
}

-- a tally, and then what comes of a clause that ends no speculation: its record is attempted at the buffer, or an error counted
abbrev pub with_outcome : Bool → Outcome → Tally → Tally
with_outcome in_end abandoned tally = record {
  came = tally.came;
  errors = tally.errors + 1;
  dyndrops = tally.dyndrops;
  specdrops = tally.specdrops;
}
with_outcome in_end passed_over tally = tally
with_outcome in_end (leaves form) tally = with_records in_end (option_to_list (record_in form)) tally

-- one tally changes
abbrev pub changed_at : (ℕ → Tally) → (cpu : ℕ) → Tally → ℕ → Tally
changed_at tallies cpu tally j = if cpu == j then tally else tallies j

-- a processor counts the same errors and drops
abbrev pub CountsTheSame : Processor → Processor → Type 0
CountsTheSame old new =
    (new.errors ≡ old.errors) × (new.dyndrops ≡ old.dyndrops) × (new.specdrops ≡ old.specdrops)
