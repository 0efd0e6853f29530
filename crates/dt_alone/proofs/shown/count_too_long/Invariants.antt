-- How many are too long so far.
use Rattle.std.proofs.Common.{◌≡◌, ◌≤◌, length, take}
use Rattle.dt_alone.specs.Happened.{all_to}
use Rattle.dt_buffer.specs.Ending.{too_long}
use Rattle.dt_buffer.specs.History.{attempts}
use Rattle.dt_alone.proofs.shown.count_too_long.Given as goal

abbrev pub invariant-loop-one : goal.invariant-loop-one
invariant-loop-one l = record {
  counted : l.count ≡ length (too_long l.size (attempts (all_to l.cpu (take l.one-index l.happened))));
  few : l.count ≤ l.one-index;
}
