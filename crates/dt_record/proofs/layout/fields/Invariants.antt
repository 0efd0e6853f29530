-- The fields of the statements so far, and no more than these.
use Rattle.std.proofs.Common.{◌≡◌, ◌≤◌, map, take}
use Rattle.arrayvec.specs.ArrayVec.{array_vec_len}
use Rattle.dt_program.specs.Clause.{form_of_statement}
use Rattle.dt_record.specs.Fields.{form_of_field}
use Rattle.dt_record.specs.Layout.{fields_of}
use Rattle.dt_record.proofs.layout.fields.Given as goal

abbrev pub invariant-loop-statement : goal.invariant-loop-statement
invariant-loop-statement l = record {
  fields : map form_of_field l.fields.items ≡ fields_of (map form_of_statement (take l.statement-index l.statements));
  few : array_vec_len l.fields ≤ l.statement-index;
}
