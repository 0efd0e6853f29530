-- The contributions so far were given.
use Rattle.std.proofs.Common.{◌≤◌, ◌+◌, map, take}
use Rattle.dt_aggstore.specs.History.{Past}
use Rattle.dt_aggstore.specs.IsAt.{IsAt, added_of}
use Rattle.dt_alone.specs.Happened.{given_as}
use Rattle.dt_life.specs.Uses.{given_then}
use Rattle.dt_alone.proofs.happened.Left.give.Given as goal

abbrev pub invariant-loop-one : goal.invariant-loop-one
invariant-loop-one l = record {
  stands : (past : Past) → IsAt past l.fn.store
      → IsAt (given_then past (map given_as (take l.one-index l.one-items))) l.store;
  counts : added_of l.store ≤ added_of l.fn.store + l.one-index;
}
