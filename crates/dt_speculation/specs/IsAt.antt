-- When the speculative buffers are at the end of a past: they then answer and lend what the definitions say of that past.
use Rattle.std.specs.Prelude.{◌≡◌, ℕ, ◌+◌, ◌<◌, Bool, true, false, List, [], length, slice_get, slice_index_or, MatchOption}
use Rattle.dt_buffer.specs.Choice.{ShowsSwitch}
use Rattle.dt_speculation.specs.Answers.{AreAnswered, failed_draws}
use Rattle.dt_speculation.specs.History.{SpecPast}
use Rattle.dt_speculation.specs.Records.{records_of}
use Rattle.dt_speculation.specs.Uses.{is_in_use}
use Rattle.dt_speculation.specs.declared.part.SpecPart.{SpecPart}
use Rattle.dt_speculation.specs.declared.speculation.Speculation.{Speculation}
use Rattle.dt_speculation.specs.declared.speculations.Specs.{Specs}

-- A part holds what the switch policy keeps of some records.
pub record PartIsAt (size : ℕ) (records : List (List ℕ)) (part : SpecPart) : Type 0 where
  pub same_size : part.size ≡ size
  pub drops : ℕ
  pub shows : ShowsSwitch size records part.kept.items drops

-- An identifier is in use or not, and its part of each processor holds what is kept of the records there.
pub record SpeculationIsAt (size : ℕ) (in_use : Bool) (records : ℕ → List (List ℕ)) (one : Speculation) : Type 0 where
  pub same_use : one.in_use ≡ in_use
  pub parts : (cpu : ℕ) → MatchOption (slice_get one.parts.items cpu) (records cpu ≡ []) (PartIsAt size (records cpu))

-- The buffers are at the end of a past.
pub record SpecsAt (past : SpecPast) (specs : Specs) : Type 0 where
  pub many : length specs.all.items ≡ past.nspec
  pub each : (place : ℕ) → MatchOption (slice_get specs.all.items place) (is_in_use (place + 1) past.events ≡ false)
      (SpeculationIsAt past.specsize (is_in_use (place + 1) past.events) (λ cpu. records_of (place + 1) cpu past.events))
  pub failed : specs.fails ≡ failed_draws past.events
  pub answered : AreAnswered past

-- This is the first place of an identifier that isn't in use.
pub record IsFirstFree (all : List Speculation) (place : ℕ) : Type 0 where
  pub inside : place < length all
  pub free_there : (d : Speculation) → (slice_index_or all place d).in_use ≡ false
  pub taken : (k : ℕ) (d : Speculation) → k < place → (slice_index_or all k d).in_use ≡ true

-- how many draws failed so far
abbrev pub fails_of : Specs → ℕ
fails_of specs = specs.fails

-- how many processors there are
abbrev pub cpus_of : Specs → ℕ
cpus_of specs = specs.cpus
