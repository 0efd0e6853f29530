-- The values so far are added.
use Rattle.std.proofs.Common.{◌≡◌, ◌++◌, map, take}
use Rattle.std.specs.List.{flat_map}
use Rattle.dt_record.specs.Records.{form_of_recorded}
use Rattle.dt_front.specs.Rows.{recorded_text}
use Rattle.dt_front.proofs.row.push_values.Given as goal

abbrev pub invariant-loop-value : goal.invariant-loop-value
invariant-loop-value l = l.out.items ≡ l.fn.out.items ++ flat_map recorded_text (map form_of_recorded (take l.value-index l.record.values.items))
