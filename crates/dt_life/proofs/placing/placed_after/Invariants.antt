-- The ECBs so far, each with its place.
use Rattle.std.proofs.Common.{◌≡◌, map, take}
use Rattle.dt_life.specs.Placed as spec
use Rattle.dt_life.proofs.placing.placed_after.Given as goal

abbrev pub invariant-loop-ecb : goal.invariant-loop-ecb
invariant-loop-ecb l = l.placed.items ≡ map (spec.placed_after l.before) (take l.ecb-index l.ecbs)
