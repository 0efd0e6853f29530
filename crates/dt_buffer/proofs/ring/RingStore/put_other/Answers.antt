-- A record is kept after room was made for it, or it is too long.
use Rattle.std.proofs.Common.{refl, arith, rules, ◌∙◌}
use Rattle.dt_buffer.proofs.Overwriting.{ring_dropped, ring_put_some, ring_put_empty}
use Rattle.dt_buffer.proofs.ring.RingStore.put_other.Goals as goal

pub returns-then-capacity-bytes-clause-shows : goal.returns-then-capacity-bytes-clause-shows
returns-then-capacity-bytes-clause-shows c = λ size attempts s.
    ring_dropped size attempts c.args.bytes.now c.args.self.now _ s
    (omega (arith, s.room, c.capacity.ensures.capacity)) s.room s.places refl refl refl

pub returns-then-not-is_empty-clause-shows : goal.returns-then-not-is_empty-clause-shows
returns-then-not-is_empty-clause-shows c = λ size attempts s.
    ring_put_some size attempts c.args.bytes.now c.args.self.now c.make_room.new.self _ s
    c.make_room.ensures.makes_room c.make_room.ensures.room c.make_room.ensures.capacity c.make_room.ensures.places
    (c.note_length.ensures.drops ∙ c.make_room.ensures.drops) _ c.fill_from_slice.ensures.count
    (c.note_length.ensures.bytes ∙ c.fill_from_slice.ensures.items) (search rules) c.note_length.ensures.lengths

pub returns-else-not-is_empty-clause-shows : goal.returns-else-not-is_empty-clause-shows
returns-else-not-is_empty-clause-shows c = λ size attempts s.
    ring_put_empty size attempts c.args.bytes.now c.args.self.now c.make_room.new.self _ s
    c.make_room.ensures.makes_room c.make_room.ensures.room c.make_room.ensures.capacity c.make_room.ensures.places
    c.make_room.ensures.drops _ c.fill_from_slice.ensures.count c.fill_from_slice.ensures.items (search rules) refl
