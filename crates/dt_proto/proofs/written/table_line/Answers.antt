-- What is to be shown of `table_line`.
use Rattle.std.proofs.Common.{codes, map, sym, ◌∙◌}
use Rattle.std.specs.List.{join_with_byte}
use Rattle.serde_json.specs.Data.{string}
use Rattle.serde_json.specs.Written.{compact_text}
use Rattle.dt_names.specs.Bytes.{comma}
use Rattle.dt_aggstore.specs.EntryNames.{form_of_row}
use Rattle.dt_proto.specs.Rows.{function_word, row_text}
use Rattle.dt_proto.specs.Scalars.{characters}
use Rattle.dt_proto.proofs.TableTexts.{text-aggregated}
use Rattle.dt_proto.proofs.Texts.{added_seven}
use Rattle.dt_proto.proofs.written.table_line.Goals as goal

pub returns : goal.returns
returns c =
    let table = map form_of_row c.args.rows.now in
    added_seven (codes "{\"fn\":\"") (function_word c.args.function) (codes "\",\"name\":")
    (compact_text (string (characters c.args.name.now))) (codes ",\"ok\":true,\"rows\":[")
    (join_with_byte comma (map row_text table)) (codes "]}\n")
    c.in_ok-line.line.items c.extend_from_slice.new.self.items c.extend_from_slice-2.new.self.items
    c.push_string.new.line.items c.extend_from_slice-3.new.self.items c.push_rows.new.line.items
    c.extend_from_slice-4.new.self.items
    c.in_ok-line.ensures (rw (c.as_bytes.ensures.value, c.word_of.ensures) at c.in_ok-extend_from_slice.ensures.items)
    c.in_ok-extend_from_slice-2.ensures.items (rw c.in_ok-title.ensures at c.in_ok-push_string.ensures)
    c.in_ok-extend_from_slice-3.ensures.items c.in_ok-push_rows.ensures c.in_ok-extend_from_slice-4.ensures.items
    ∙ sym (text-aggregated c.args.name.now c.args.function table)
