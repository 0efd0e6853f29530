-- The oldest record goes; where none is left, all the room is free.
use Rattle.std.proofs.Common.{ℕ, List, sym, ap, subst, ◌∙◌, arith}
use Rattle.circular_buffer.specs.Buffer.{Buffer}
use Rattle.dt_buffer.proofs.Overwriting.{room_step, room_whole, none_left, all_rest}
use Rattle.dt_buffer.specs.Ending.{AreAllOf}
use Rattle.dt_buffer.specs.Ending.{fitting}
use Rattle.dt_buffer.proofs.ring.RingStore.make_room.Goals as goal

pub loop-self-preserved : goal.loop-self-preserved
loop-self-preserved c = record {
  drops = c.loop-self.invariant.drops;
  capacity = ap (λ (b : Buffer ℕ). b.capacity) c.truncate_front.ensures ∙ c.loop-self.invariant.capacity;
  places = ap (λ (b : Buffer ℕ). b.capacity) c.pop_front.ensures.items ∙ c.loop-self.invariant.places;
  makes = λ attempts s.
      room_step c.args.self.now.bytes.capacity (fitting c.args.self.now.bytes.capacity attempts) c.args.wanted
      c.loop-self.self.bytes.items c.loop-self.self.lengths.items (c.loop-self.invariant.makes attempts s)
      c.in-Some.oldest c.saturating_sub-left.result c.truncate_front.new.self.items c.pop_front.new.self.items
      c.in-Some.ensures.value (ap (λ (b : Buffer ℕ). b.items) c.pop_front.ensures.items)
      (omega (arith, c.saturating_sub-left.ensures, c.len-in-loop-self.ensures.len))
      (ap (λ (b : Buffer ℕ). b.items) c.truncate_front.ensures)
      (omega (
        arith,
        c.loop-self-test.true,
        c.capacity.ensures.capacity,
        c.len.ensures.len,
        c.loop-self.invariant.capacity,
      ));
}

pub returns-in_default-clause-room : goal.returns-in_default-clause-room
returns-in_default-clause-room c = λ attempts s.
    room_whole c.args.self.now.bytes.capacity (fitting c.args.self.now.bytes.capacity attempts) c.args.wanted
    c.loop-self.self.bytes.items c.loop-self.self.lengths.items (c.loop-self.invariant.makes attempts s)
    (none_left c.loop-self.self.lengths.items (sym c.pop_front.ensures.value ∙ c.in_default.is)) c.requires

pub invariant_of-self-in-loop-self-clause-alike : goal.invariant_of-self-in-loop-self-clause-alike
invariant_of-self-in-loop-self-clause-alike c = λ each is.
    let P : List ℕ → Type 0 = λ xs. AreAllOf xs each in
    subst P (sym (ap (λ (b : Buffer ℕ). b.items) c.pop_front.ensures.items))
    (all_rest c.loop-self.self.lengths.items each (c.loop-self.self.alike each is))
