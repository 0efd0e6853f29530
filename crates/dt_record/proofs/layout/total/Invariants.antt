-- What the fields so far take.
use Rattle.std.proofs.Common.{◌≡◌, ◌*◌, ◌≤◌, map, take, sum}
use Rattle.dt_cred.specs.declared.firing.TheConstants.{FRAMES}
use Rattle.dt_record.specs.Fields.{form_of_field}
use Rattle.dt_record.specs.Layout.{field_size}
use Rattle.dt_record.proofs.layout.total.Given as goal

abbrev pub invariant-loop-field : goal.invariant-loop-field
invariant-loop-field l = record {
  total : l.total ≡ sum (map field_size (map form_of_field (take l.field-index l.fields)));
  small : l.total ≤ 8 * FRAMES * l.field-index;
}
