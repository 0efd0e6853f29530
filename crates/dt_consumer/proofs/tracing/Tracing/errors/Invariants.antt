-- The errors of the processors so far.
use Rattle.std.proofs.Common.{◌≡◌, map, take}
use Rattle.dt_consumer.proofs.tracing.Tracing.errors.Given as goal

abbrev pub invariant-loop-processor : goal.invariant-loop-processor
invariant-loop-processor l =
    l.errors.items ≡ map (λ processor. processor.errors) (take l.processor-index l.self.processors.all.items)
