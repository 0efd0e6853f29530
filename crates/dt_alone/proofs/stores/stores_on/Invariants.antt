-- What was given to each store so far.
use Rattle.std.proofs.Common.{◌≡◌, ◌*◌, length, take}
use Rattle.std.specs.List.{All}
use Rattle.dt_program.specs.declared.clause.TheConstants.{STATEMENTS_MAX}
use Rattle.dt_alone.specs.Happened.{given_to, left_count}
use Rattle.dt_life.specs.Uses.{GivenAtMost, AreGiven}
use Rattle.dt_alone.proofs.stores.stores_on.Given as goal

abbrev pub invariant-loop-one : goal.invariant-loop-one
invariant-loop-one l = record {
  each : AreGiven (λ cpu. record { size = l.size; events = given_to cpu (take l.one-index l.happened) })
      l.stores.items;
  len : length l.stores.items ≡ l.cpus;
  gives : All (GivenAtMost (left_count (take l.one-index l.happened) * STATEMENTS_MAX)) l.stores.items;
}
