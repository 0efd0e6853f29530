-- What holds at each turn of the loops of `read_script`.
use Rattle.std.proofs.Common.{◌≡◌, take}
use Rattle.dt_machine.specs.Rows.{IsRightFiring, script}
use Rattle.dt_machine.specs.Sections.{firing_rows, registry_of}
use Rattle.dt_machine.proofs.Searching.{RightUpTo}
use Rattle.dt_machine.proofs.scripts.read_script.Given as goal

abbrev pub invariant-loop-place : goal.invariant-loop-place
invariant-loop-place l = record {
  right : RightUpTo (IsRightFiring (registry_of l.sections)) (firing_rows l.rows) l.place;
  read : l.found.items ≡ script l.cpu 0 (take l.place (firing_rows l.rows));
}
