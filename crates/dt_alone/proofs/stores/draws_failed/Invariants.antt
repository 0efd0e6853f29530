-- The failed draws so far.
use Rattle.std.proofs.Common.{◌≡◌, ◌≤◌, filter, length, take}
use Rattle.dt_alone.specs.Happened.{is_draw_failed}
use Rattle.dt_alone.proofs.stores.draws_failed.Given as goal

abbrev pub invariant-loop-one : goal.invariant-loop-one
invariant-loop-one l = record {
  counted : l.count ≡ length (filter is_draw_failed (take l.one-index l.happened));
  few : l.count ≤ l.one-index;
}
