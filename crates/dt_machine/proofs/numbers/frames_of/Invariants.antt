-- What holds at each turn of the loops of `frames_of`.
use Rattle.std.proofs.Common.{◌≡◌, ◌-◌, ◌++◌, map, take, replicate, All, IsSome}
use Rattle.serde_json.specs.View.{view}
use Rattle.dt_machine.specs.Given.{unsigned}
use Rattle.dt_machine.specs.Rows.{number_in}
use Rattle.dt_machine.proofs.numbers.frames_of.Given as goal
use Rattle.dt_cred.specs.Limits.{frame_count}

abbrev pub invariant-loop-i : goal.invariant-loop-i
invariant-loop-i l = record {
  each : All IsSome (take l.i (map unsigned (map view l.list)));
  found : l.found ≡ map number_in (take l.i (map unsigned (map view l.list))) ++ replicate (frame_count - l.i) 0;
}
