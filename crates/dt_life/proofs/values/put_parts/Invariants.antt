-- The parts so far.
use Rattle.std.proofs.Common.{◌≡◌, map, take}
use Rattle.dt_life.specs.Aggregations as spec
use Rattle.dt_life.proofs.values.put_parts.Given as goal

abbrev pub invariant-loop-value : goal.invariant-loop-value
invariant-loop-value l = l.parts.items ≡ map spec.part_of (take l.value-index l.value-items)
