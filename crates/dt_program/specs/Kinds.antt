-- Which statements may not stand together in a clause. Guide, Speculative Tracing.
use Rattle.std.specs.Prelude.{Bool, true, false}
use Rattle.dt_program.specs.Clause.{StatementForm}
use Rattle.dt_program.specs.Clause as program

-- A statement puts something into the record; directs the record to a speculation; commits one; gives to an aggregation or ends
-- tracing, which no discard undoes; or does none of these.
pub data StatementKind : Type 0 where
  recording speculating committing irrevocable unrestricted : StatementKind

abbrev pub statement_kind : StatementForm → StatementKind
statement_kind (program.trace a) = recording
statement_kind (program.stack n) = recording
statement_kind (program.ustack n) = recording
statement_kind (program.speculate f) = speculating
statement_kind (program.commit f) = committing
statement_kind (program.aggregate name keys call) = irrevocable
statement_kind (program.exit f) = irrevocable
statement_kind _ = unrestricted

-- puts something into the record
abbrev pub is_recording_kind : StatementKind → Bool
is_recording_kind recording = true
is_recording_kind _ = false

-- directs the record to a speculation
abbrev pub is_speculating_kind : StatementKind → Bool
is_speculating_kind speculating = true
is_speculating_kind _ = false

-- a statement of one kind excludes one of another behind it
abbrev pub excludes : (earlier later : StatementKind) → Bool
excludes speculating speculating = true
excludes speculating committing = true
excludes speculating irrevocable = true
excludes committing speculating = true
excludes irrevocable speculating = true
excludes recording speculating = true
excludes recording committing = true
excludes committing recording = true
excludes _ _ = false
