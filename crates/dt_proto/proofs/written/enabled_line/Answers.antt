-- What is to be shown of `enabled_line`.
use Rattle.std.proofs.Common.{codes, decimal, sym, ◌∙◌}
use Rattle.dt_proto.proofs.Texts.{added_five, text-enabled}
use Rattle.dt_proto.proofs.written.enabled_line.Goals as goal

pub returns : goal.returns
returns c =
    added_five (codes "{\"count\":") (decimal c.args.count) (codes ",\"first\":") (decimal c.args.first)
    (codes ",\"ok\":true}\n")
    c.in_ok-line.line.items c.push_number.new.line.items c.extend_from_slice.new.self.items
    c.push_number-2.new.line.items c.extend_from_slice-2.new.self.items
    c.in_ok-line.ensures (rw c.from.ensures at c.in_ok-push_number.ensures)
    c.in_ok-extend_from_slice.ensures.items (rw c.from-2.ensures at c.in_ok-push_number-2.ensures)
    c.in_ok-extend_from_slice-2.ensures.items
    ∙ sym (text-enabled c.args.count c.args.first)
