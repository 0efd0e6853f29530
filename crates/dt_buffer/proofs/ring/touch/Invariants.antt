-- While the room is written, it stays as large.
use Rattle.std.proofs.Common.{◌≡◌}
use Rattle.dt_buffer.proofs.ring.touch.Given as goal

abbrev pub invariant-loop : goal.invariant-loop
invariant-loop l = (l.bytes.capacity ≡ l.initial.bytes.capacity)
