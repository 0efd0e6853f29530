-- While room is made, what is held is an end of the records, and no longer one leaves the room.
use Rattle.std.proofs.Common.{◌≡◌, ℕ, List, length}
use Rattle.dt_buffer.specs.Ending.{fitting}
use Rattle.dt_buffer.specs.Stores.{RingIsAt, MakesRoom}
use Rattle.dt_buffer.proofs.ring.RingStore.make_room.Given as goal

abbrev pub invariant-loop-self : goal.invariant-loop-self
invariant-loop-self l = record {
  drops : l.self.drops ≡ l.initial.self.drops;
  capacity : l.self.bytes.capacity ≡ l.initial.self.bytes.capacity;
  places : l.self.lengths.capacity ≡ l.initial.self.lengths.capacity;
  makes : (attempts : List (List ℕ)) → RingIsAt l.initial.self.bytes.capacity attempts l.initial.self
      → MakesRoom l.initial.self.bytes.capacity (fitting l.initial.self.bytes.capacity attempts) l.fn.wanted
      l.self.bytes.items l.self.lengths.items;
}

abbrev pub decreases-loop-self : goal.decreases-loop-self
decreases-loop-self l = length l.self.lengths.items
