-- The stores so far were truncated.
use Rattle.std.proofs.Common.{◌≡◌, ℕ, length}
use Rattle.std.specs.List.{All}
use Rattle.dt_aggstore.specs.History as stores
use Rattle.dt_life.specs.Uses.{GivenAtMost, AreGiven}
use Rattle.dt_life.specs.laws.Stores.{truncated_to}
use Rattle.dt_consumer.proofs.processors.Processors.trunc.Given as goal

abbrev pub invariant-loop-cpu : goal.invariant-loop-cpu
invariant-loop-cpu l = record {
  all : l.self.all ≡ l.fn.self.all;
  locals : l.self.locals ≡ l.fn.self.locals;
  specs : l.self.specs ≡ l.fn.self.specs;
  len : length l.self.stores.items ≡ length l.fn.self.stores.items;
  given : (pasts : ℕ → stores.Past) → AreGiven pasts l.fn.self.stores.items
      → AreGiven (truncated_to l.aggregation pasts l.cpu) l.self.stores.items;
  gives : (n : ℕ) → All (GivenAtMost n) l.fn.self.stores.items → All (GivenAtMost n) l.self.stores.items;
}
