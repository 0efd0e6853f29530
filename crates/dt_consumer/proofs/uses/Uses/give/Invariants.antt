-- The uses so far gave what is theirs of the values.
use Rattle.std.proofs.Common.{◌≡◌, ◌≤◌, ◌+◌, ◌*◌, map, take}
use Rattle.dt_aggstore.specs.History.{Past}
use Rattle.dt_aggstore.specs.IsAt.{IsAt, added_of}
use Rattle.dt_program.specs.declared.clause.TheConstants.{KEYS_MAX}
use Rattle.dt_consumer.specs.Uses.{form_of_use}
use Rattle.dt_life.specs.Uses.{given_then}
use Rattle.dt_life.specs.Aggregations.{split_by}
use Rattle.dt_life.specs.laws.Giving.{span}
use Rattle.dt_consumer.proofs.uses.Uses.give.Given as goal

abbrev pub invariant-loop-one : goal.invariant-loop-one
invariant-loop-one l = record {
  place : l.place ≡ span (map form_of_use (take l.one-index l.one-items));
  near : l.place ≤ l.one-index * (KEYS_MAX + 1);
  stands : (past : Past) → IsAt past l.fn.store
      → IsAt (given_then past (split_by (map form_of_use (take l.one-index l.one-items)) l.values)) l.store;
  counts : added_of l.store ≤ added_of l.fn.store + l.one-index;
}
