-- The rows of the records so far are added.
use Rattle.std.proofs.Common.{◌≡◌, ◌++◌, map, take}
use Rattle.dt_record.specs.Records.{form_of_record}
use Rattle.dt_front.specs.Records.{rows_text}
use Rattle.dt_front.specs.RowForms.{form_of_row_probe}
use Rattle.dt_front.proofs.records.push_rows.Given as goal

abbrev pub invariant-loop-record : goal.invariant-loop-record
invariant-loop-record l = l.out.items
    ≡ l.fn.out.items ++ rows_text l.page l.quiet l.cpu (map form_of_row_probe l.probes) (map form_of_record (take l.record-index l.records))
