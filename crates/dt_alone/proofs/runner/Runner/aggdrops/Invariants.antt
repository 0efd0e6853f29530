-- The drops of the stores so far.
use Rattle.std.proofs.Common.{◌≡◌, map}
use Rattle.std.specs.List.{range_with_len}
use Rattle.dt_aggstore.specs.Chosen.{drops}
use Rattle.dt_alone.specs.Happened.{given_to}
use Rattle.dt_alone.proofs.runner.Runner.aggdrops.Given as goal

abbrev pub invariant-loop-store : goal.invariant-loop-store
invariant-loop-store l = l.aggdrops.items
    ≡ map (λ cpu. drops (record { size = l.self.options.aggsize; events = given_to cpu l.self.since.items }))
    (range_with_len 0 l.store-index)
