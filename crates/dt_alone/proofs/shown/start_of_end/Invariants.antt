-- The records from a place on fit, with the room that is left.
use Rattle.std.proofs.Common.{◌≡◌, ◌+◌, ◌-◌, length, drop}
use Rattle.dt_alone.specs.Happened.{fitting_on}
use Rattle.dt_buffer.specs.Beginning.{size_of}
use Rattle.dt_alone.proofs.shown.start_of_end.Given as goal

abbrev pub invariant-loop-later : goal.invariant-loop-later
invariant-loop-later l = record {
  left : size_of (fitting_on l.size l.cpu (drop (length l.happened - l.later) l.happened)) + l.room ≡ l.size;
}
