-- What is to be shown of `status_line`.
use Rattle.std.proofs.Common.{codes, decimal, sym, ◌∙◌}
use Rattle.serde_json.specs.Written.{compact_text}
use Rattle.dt_life.specs.Phase.{phase_word}
use Rattle.dt_proto.specs.Reply.{cause_data, exit_data, numbers_text}
use Rattle.dt_proto.proofs.StatusTexts.{added, text-of_status}
use Rattle.dt_proto.proofs.written.status_line.Goals as goal

pub returns : goal.returns
returns c =
    let phase = c.args.phase in
    added (codes "{\"aggdrops\":[") (numbers_text c.args.aggdrops.now) (codes "],\"cause\":")
    (compact_text (cause_data phase)) (codes ",\"dyndrops\":[") (numbers_text c.args.dyndrops.now) (codes "],\"errors\":[")
    (numbers_text c.args.errors.now) (codes "],\"exit\":") (compact_text (exit_data phase))
    (codes ",\"ok\":true,\"phase\":\"") (phase_word phase) (codes "\",\"seen\":") (decimal c.args.seen)
    (codes ",\"specdrops\":[") (numbers_text c.args.specdrops.now) (codes "],\"specfails\":") (decimal c.args.specfails)
    (codes "}\n")
    c.in_ok-line.line.items c.push_numbers.new.line.items c.extend_from_slice.new.self.items
    c.extend_from_slice-2.new.self.items c.extend_from_slice-3.new.self.items c.push_numbers-2.new.line.items
    c.extend_from_slice-4.new.self.items c.push_numbers-3.new.line.items c.extend_from_slice-5.new.self.items
    c.push_exit.new.line.items c.extend_from_slice-6.new.self.items c.extend_from_slice-7.new.self.items
    c.extend_from_slice-8.new.self.items c.push_number.new.line.items c.extend_from_slice-9.new.self.items
    c.push_numbers-4.new.line.items c.extend_from_slice-10.new.self.items c.push_number-2.new.line.items
    c.extend_from_slice-11.new.self.items
    c.in_ok-line.ensures c.in_ok-push_numbers.ensures c.in_ok-extend_from_slice.ensures.items
    (rw c.cause_text.ensures at c.in_ok-extend_from_slice-2.ensures.items)
    c.in_ok-extend_from_slice-3.ensures.items c.in_ok-push_numbers-2.ensures
    c.in_ok-extend_from_slice-4.ensures.items c.in_ok-push_numbers-3.ensures c.in_ok-extend_from_slice-5.ensures.items
    c.in_ok-push_exit.ensures c.in_ok-extend_from_slice-6.ensures.items
    (rw (c.as_bytes.ensures.value, c.word.ensures) at c.in_ok-extend_from_slice-7.ensures.items)
    c.in_ok-extend_from_slice-8.ensures.items c.in_ok-push_number.ensures c.in_ok-extend_from_slice-9.ensures.items
    c.in_ok-push_numbers-4.ensures c.in_ok-extend_from_slice-10.ensures.items c.in_ok-push_number-2.ensures
    c.in_ok-extend_from_slice-11.ensures.items
    ∙ sym (text-of_status phase c.args.seen c.args.errors.now c.args.aggdrops.now c.args.dyndrops.now
    c.args.specdrops.now c.args.specfails)
