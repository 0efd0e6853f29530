-- Of what a clause's record is made, and records back from their bytes.
use Rattle.std.specs.Prelude.{ℕ, ◌+◌, ◌*◌, List, ◌++◌, map, sum, codes, decimal, Option, Some, None, if◌then◌else◌}
use Rattle.std.specs.List.{flat_map}
use Rattle.std.specs.Option.{option_to_list}
use Rattle.dt_program.specs.Clause.{ClauseForm, StatementForm}
use Rattle.dt_program.specs.Clause as program
use Rattle.dt_names.specs.Limits.{padded_size}
use Rattle.dt_record.specs.Taking.{leaves_record}
use Rattle.dt_record.specs.Limits.{epid_size}

-- a value of a record: a number, a text, or so many frames of one of the stacks
pub data FieldForm : Type 0 where
  number text : FieldForm
  stack ustack : (frames : ℕ) → FieldForm

-- the word that tells a value of a record, with the number of frames of a stack
abbrev pub field_word : FieldForm → List ℕ
field_word number = codes "number"
field_word text = codes "string"
field_word (stack frames) = codes "stack" ++ decimal frames
field_word (ustack frames) = codes "ustack" ++ decimal frames

-- what a statement puts into the record
abbrev pub field_of : StatementForm → Option FieldForm
field_of (program.trace (program.number f)) = Some number
field_of (program.trace (program.text t)) = Some text
field_of (program.stack n) = Some (stack n)
field_of (program.ustack n) = Some (ustack n)
field_of _ = None

-- the values after the EPID, in order
abbrev pub fields_of : List StatementForm → List FieldForm
fields_of statements = flat_map (λ statement. option_to_list (field_of statement)) statements

-- those of a clause's record; none where the clause leaves no record
abbrev pub layout_of : ClauseForm → Option (List FieldForm)
layout_of clause = if leaves_record clause.statements then Some (fields_of clause.statements) else None

-- how many bytes a value takes
abbrev pub field_size : FieldForm → ℕ
field_size number = 8
field_size text = padded_size
field_size (stack n) = 8 * n
field_size (ustack n) = 8 * n

-- the length of the record: the EPID's four bytes and the values; 0 where there is none
abbrev pub layout_size : Option (List FieldForm) → ℕ
layout_size None = 0
layout_size (Some fields) = epid_size + sum (map field_size fields)
