-- The oldest goes and the newest takes its place, or there is room for it.
use Rattle.std.proofs.Common.{length, refl, arith, ◌∙◌}
use Rattle.dt_buffer.proofs.Overwriting.{one_length_held, ring_put_some, ring_turned, room_start}
use Rattle.dt_buffer.proofs.ring.RingStore.put_alike.Goals as goal

pub returns-then-capacity-len-clause-shows : goal.returns-then-capacity-len-clause-shows
returns-then-capacity-len-clause-shows c = λ size attempts s.
    ring_turned size attempts c.args.bytes.now c.args.self.now _ s c.saturating_sub-left.result c.fill_from_slice.result
    c.truncate_front.new.self (c.args.self.now.alike (length c.args.bytes.now) c.requires.known) c.requires.some
    (omega arith) (omega (arith, s.room, c.requires.short)) (omega arith)
    (omega (arith, c.saturating_sub-left.ensures)) c.truncate_front.ensures c.fill_from_slice.ensures.count
    c.fill_from_slice.ensures.items refl refl

pub returns-else-capacity-len-clause-shows : goal.returns-else-capacity-len-clause-shows
returns-else-capacity-len-clause-shows c = λ size attempts s.
    ring_put_some size attempts c.args.bytes.now c.args.self.now c.args.self.now _ s
    (λ records at. room_start c.args.self.now.bytes.capacity records (length c.args.bytes.now) c.args.self.now at)
    (λ records at. omega arith) refl refl c.note_alike.ensures.drops _ c.fill_from_slice-else-capacity-len.ensures.count
    (c.note_alike.ensures.bytes ∙ c.fill_from_slice-else-capacity-len.ensures.items)
    (one_length_held size attempts c.args.self.now (length c.args.bytes.now) s
    (c.args.self.now.alike (length c.args.bytes.now) c.requires.known) c.requires.some)
    c.note_alike.ensures.lengths
