-- The parts so far are empty.
use Rattle.std.proofs.Common.{◌≡◌, [], length}
use Rattle.std.specs.List.{All}
use Rattle.dt_speculation.specs.IsAt.{PartIsAt}
use Rattle.dt_speculation.proofs.speculation.Speculation.new.Given as goal

abbrev pub invariant-loop-cpu : goal.invariant-loop-cpu
invariant-loop-cpu l = record {
  counted : length l.parts.items ≡ l._cpu;
  empty : All (PartIsAt l.size []) l.parts.items;
}
