-- The values so far are the bytes before the rest, and the rest is as long as the fields that are left.
use Rattle.std.proofs.Common.{◌≡◌, ◌++◌, map, take, drop, length, sum}
use Rattle.std.specs.List.{flat_map}
use Rattle.dt_record.specs.Fields.{form_of_field}
use Rattle.dt_record.specs.Layout.{field_size}
use Rattle.dt_record.specs.Records.{form_of_recorded}
use Rattle.dt_record.specs.Split.{FitAll, recorded_bytes}
use Rattle.dt_record.proofs.splitting.values_of.Given as goal

abbrev pub invariant-loop-field : goal.invariant-loop-field
invariant-loop-field l = record {
  fit : FitAll (map form_of_field (take l.field-index l.fields)) (map form_of_recorded l.values.items);
  long : length l.rest ≡ sum (map field_size (map form_of_field (drop l.field-index l.fields)));
  same : flat_map recorded_bytes (map form_of_recorded l.values.items) ++ l.rest ≡ l.bytes;
}
