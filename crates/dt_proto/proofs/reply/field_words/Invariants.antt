-- The words of the fields so far.
use Rattle.std.proofs.Common.{◌≡◌, map, take}
use Rattle.serde_json.specs.View.{view}
use Rattle.dt_record.specs.Fields.{form_of_field}
use Rattle.dt_proto.specs.Reply.{field_data}
use Rattle.dt_proto.proofs.reply.field_words.Given as goal

abbrev pub invariant-loop-field : goal.invariant-loop-field
invariant-loop-field l = map view l.values.items
    ≡ map field_data (map form_of_field (take l.field-index l.field-items))
