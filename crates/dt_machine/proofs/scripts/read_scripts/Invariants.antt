-- What holds at each turn of the loops of `read_scripts`.
use Rattle.std.proofs.Common.{◌≡◌, map, take}
use Rattle.dt_machine.specs.Reading.{AllRight}
use Rattle.dt_machine.specs.Rows.{IsRightFiring, scripts}
use Rattle.dt_machine.specs.Sections.{scripts_rows, registry_of}
use Rattle.dt_machine.proofs.Searching.{RightUpTo}
use Rattle.dt_machine.proofs.scripts.read_scripts.Given as goal

abbrev pub invariant-loop-cpu : goal.invariant-loop-cpu
invariant-loop-cpu l = record {
  right : RightUpTo (λ _ script. AllRight (IsRightFiring (registry_of l.sections)) script)
      (scripts_rows l.scripts) l.cpu;
  read : map (λ script. script.items) l.found.items ≡ scripts 0 (take l.cpu (scripts_rows l.scripts));
}
