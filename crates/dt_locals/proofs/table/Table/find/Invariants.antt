-- All from the home on so far are taken, and by others.
use Rattle.std.proofs.Common.{◌≤◌, ◌<◌, ℕ}
use Rattle.std.specs.Prelude.{◌≢◌, pos}
use Rattle.dt_locals.specs.Hash.{home_in}
use Rattle.dt_locals.specs.Slots.{value_at, local_at}
use Rattle.dt_locals.proofs.table.Table.find.Given as goal

abbrev pub invariant-loop-place : goal.invariant-loop-place
invariant-loop-place l = record {
  passed : (before : ℕ) → home_in l.self.homes l.variable ≤ before → before < l.place
      → (value_at l.self.slots.items before ≢ pos 0) × (local_at l.self.slots.items before ≢ l.variable);
}
