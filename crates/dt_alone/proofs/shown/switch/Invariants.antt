-- What is shown of what happened so far.
use Rattle.std.proofs.Common.{◌≤◌, length, take}
use Rattle.dt_alone.specs.Happened.{all_to}
use Rattle.dt_buffer.specs.Choice.{ShowsSwitch}
use Rattle.dt_buffer.specs.History.{since_swap}
use Rattle.dt_alone.proofs.shown.switch.Given as goal

abbrev pub invariant-loop-one : goal.invariant-loop-one
invariant-loop-one l = record {
  shows : ShowsSwitch l.size (since_swap (all_to l.cpu (take l.one-index l.happened))) l.bytes.items l.drops;
  within : length l.bytes.items ≤ l.size;
  few : l.drops ≤ l.one-index;
}
