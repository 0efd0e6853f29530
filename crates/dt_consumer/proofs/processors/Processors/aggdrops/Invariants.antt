-- The drops of the stores so far.
use Rattle.std.proofs.Common.{◌≡◌, ℕ, map}
use Rattle.std.specs.List.{range_with_len}
use Rattle.dt_aggstore.specs.Chosen.{drops}
use Rattle.dt_aggstore.specs.History as stores
use Rattle.dt_life.specs.Uses.{AreGiven}
use Rattle.dt_consumer.proofs.processors.Processors.aggdrops.Given as goal

abbrev pub invariant-loop-store : goal.invariant-loop-store
invariant-loop-store l = (pasts : ℕ → stores.Past) → AreGiven pasts l.self.stores.items
    → l.aggdrops.items ≡ map (λ cpu. drops (pasts cpu)) (range_with_len 0 l.store-index)
