-- The stores so far: nothing was given to any.
use Rattle.std.proofs.Common.{◌≡◌, length}
use Rattle.std.specs.List.{All}
use Rattle.dt_aggstore.specs.History.{new_past}
use Rattle.dt_life.specs.Uses.{GivenAtMost, AreGiven}
use Rattle.dt_life.proofs.stores.empty_stores.Given as goal

abbrev pub invariant-loop-cpu : goal.invariant-loop-cpu
invariant-loop-cpu l = record {
  counted : length l.stores.items ≡ l._cpu;
  fresh : AreGiven (λ cpu. new_past l.size) l.stores.items;
  gives : All (GivenAtMost 0) l.stores.items;
}
