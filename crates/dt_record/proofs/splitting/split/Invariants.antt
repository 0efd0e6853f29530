-- The records so far are the bytes before the rest, which gets shorter.
use Rattle.std.proofs.Common.{◌≡◌, ◌++◌, map, length}
use Rattle.std.specs.List.{flat_map, AllByRecursion}
use Rattle.dt_record.specs.Fields.{form_of_layout}
use Rattle.dt_record.specs.Records.{form_of_record}
use Rattle.dt_record.specs.Split.{IsRecordOf, record_bytes}
use Rattle.dt_record.proofs.splitting.split.Given as goal

abbrev pub invariant-loop-rest : goal.invariant-loop-rest
invariant-loop-rest l = record {
  each : AllByRecursion (IsRecordOf (map form_of_layout l.layouts)) (map form_of_record l.records.items);
  same : flat_map record_bytes (map form_of_record l.records.items) ++ l.rest ≡ l.bytes;
}

abbrev pub decreases-loop-rest : goal.decreases-loop-rest
decreases-loop-rest l = length l.rest
