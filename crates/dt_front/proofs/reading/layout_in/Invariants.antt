-- The words so far are those of the fields so far.
use Rattle.std.proofs.Common.{◌≡◌, ◌≤◌, length, map, take}
use Rattle.serde_json.specs.Data.{string}
use Rattle.serde_json.specs.View.{view}
use Rattle.dt_record.specs.Fields.{form_of_field}
use Rattle.dt_record.specs.Layout.{field_word}
use Rattle.dt_front.proofs.reading.layout_in.Given as goal

abbrev pub invariant-loop-word : goal.invariant-loop-word
invariant-loop-word l = record {
  same : map view (take l.word-index l.words) ≡ map (λ field. string (field_word field)) (map form_of_field l.fields.items);
  few : length l.fields.items ≤ 8;
}
