-- What is known of clauses before they are taken. `StandsFor` needs no part of it.
use Rattle.std.specs.Prelude.{List, map}
use Rattle.dt_lang.specs.Program.{form_of_clause}
use Rattle.dt_program.specs.declared.clause.Clause.{Clause}
use Rattle.dt_record.specs.Taking.{leaves_record, only_gives, only_records}
use Rattle.dt_consumer.specs.declared.outline.Outline.{Outline}

-- whether a clause leaves a record, whether it does nothing else, and whether it does nothing but give to aggregations
abbrev pub outline_of : Clause → Outline
outline_of clause = record {
  leaves_record = leaves_record (form_of_clause clause).statements;
  only_records = only_records (form_of_clause clause).statements;
  only_gives = only_gives (form_of_clause clause).statements;
}

-- that of each clause
abbrev pub outlines_of : List Clause → List Outline
outlines_of clauses = map outline_of clauses
