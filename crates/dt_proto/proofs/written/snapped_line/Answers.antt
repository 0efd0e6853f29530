-- What is to be shown of `snapped_line`.
use Rattle.std.proofs.Common.{codes, decimal, if◌then◌else◌, sym, ◌∙◌, rules}
use Rattle.hex.specs.Hex.{encode_lower}
use Rattle.dt_proto.proofs.Texts.{added_nine, bytes_small, text-snapped}
use Rattle.dt_proto.proofs.written.snapped_line.Goals as goal

pub returns : goal.returns
returns c =
    let small = bytes_small c.args.records.now (λ i. search (rules, c.type_inv.records i)) in
    added_nine (codes "{\"cpu\":") (decimal c.args.cpu) (codes ",\"data\":\"") (encode_lower c.args.records.now)
    (codes "\",\"drops\":") (decimal c.args.drops) (codes ",\"filled\":")
    (if c.args.filled then codes "true" else codes "false") (codes ",\"ok\":true}\n")
    c.in_ok-line.line.items c.push_number.new.line.items c.extend_from_slice.new.self.items
    c.extend_from_slice-2.new.self.items c.extend_from_slice-3.new.self.items c.push_number-2.new.line.items
    c.extend_from_slice-4.new.self.items c.extend_from_slice-5.new.self.items c.extend_from_slice-6.new.self.items
    c.in_ok-line.ensures (rw c.from.ensures at c.in_ok-push_number.ensures)
    c.in_ok-extend_from_slice.ensures.items
    (rw (c.as_bytes.ensures.value, c.in_ok-digits.ensures) at c.in_ok-extend_from_slice-2.ensures.items)
    c.in_ok-extend_from_slice-3.ensures.items c.in_ok-push_number-2.ensures
    c.in_ok-extend_from_slice-4.ensures.items
    (rw c.flag_text.ensures at c.in_ok-extend_from_slice-5.ensures.items)
    c.in_ok-extend_from_slice-6.ensures.items
    ∙ sym (text-snapped c.args.cpu c.args.drops c.args.records.now c.args.filled small)
