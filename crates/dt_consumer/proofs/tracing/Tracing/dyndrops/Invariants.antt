-- Those of the processors so far.
use Rattle.std.proofs.Common.{◌≡◌, map, take}
use Rattle.dt_consumer.proofs.tracing.Tracing.dyndrops.Given as goal

abbrev pub invariant-loop-one : goal.invariant-loop-one
invariant-loop-one l =
    l.dyndrops.items ≡ map (λ processor. processor.dyndrops) (take l.one-index l.self.processors.all.items)
