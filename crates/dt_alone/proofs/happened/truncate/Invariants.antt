-- The stores so far were truncated.
use Rattle.std.proofs.Common.{◌≡◌, ℕ, length}
use Rattle.std.specs.List.{All}
use Rattle.dt_aggstore.specs.History as stores
use Rattle.dt_life.specs.Uses.{GivenAtMost, AreGiven}
use Rattle.dt_life.specs.laws.Stores.{truncated_to}
use Rattle.dt_alone.proofs.happened.truncate.Given as goal

abbrev pub invariant-loop-cpu : goal.invariant-loop-cpu
invariant-loop-cpu l = record {
  len : length l.stores ≡ length l.fn.stores;
  given : (pasts : ℕ → stores.Past) → AreGiven pasts l.fn.stores
      → AreGiven (truncated_to l.aggregation pasts l.cpu) l.stores;
  gives : (n : ℕ) → All (GivenAtMost n) l.fn.stores → All (GivenAtMost n) l.stores;
}
