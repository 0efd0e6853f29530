-- The names that are counted so far, and those of the uses that are left.
use Rattle.std.proofs.Common.{◌≡◌, ◌+◌, ◌≤◌, ◌++◌, drop}
use Rattle.dt_ecb.specs.Shapes as spec
use Rattle.dt_ecb.proofs.ClashLemmas.{forms}
use Rattle.dt_ecb.proofs.clashes.last_names.Given as goal

abbrev pub invariant-loop-i : goal.invariant-loop-i
invariant-loop-i l = record {
  few : l.count ≤ l.i;
  whole : l.count + spec.names_count (forms (drop l.i l.uses) ++ forms l.later)
      ≡ spec.names_count (forms l.uses ++ forms l.later);
}
