-- The beginning of the records so far.
use Rattle.std.proofs.Common.{◌≤◌, length, take}
use Rattle.dt_alone.specs.Happened.{all_to}
use Rattle.dt_alone.specs.Shown.{IsBeginningOf, of_kind}
use Rattle.dt_alone.proofs.shown.beginning_of.Given as goal

abbrev pub invariant-loop-one : goal.invariant-loop-one
invariant-loop-one l = record {
  begins : IsBeginningOf l.room (of_kind l.of_end (all_to l.cpu (take l.one-index l.happened)))
      (record { bytes = l.bytes; is_cut = l.is_cut });
  within : length l.bytes.items ≤ l.room;
}
