-- What holds at each turn of the loops of `read_probes`.
use Rattle.std.proofs.Common.{◌≤◌, ◌∷◌, take, codes}
use Rattle.dt_machine.specs.Rows.{AreProbes, IsRightProbe}
use Rattle.dt_machine.specs.Sections.{texts}
use Rattle.dt_machine.proofs.Searching.{RightUpTo}
use Rattle.dt_machine.proofs.probes.read_probes.Given as goal
use Rattle.dt_machine.specs.Limits.{probes_max}

abbrev pub invariant-loop-value : goal.invariant-loop-value
invariant-loop-value l = record {
  few : l.value-index ≤ probes_max;
  right : RightUpTo (IsRightProbe l.processes) (texts l.rows) l.value-index;
  are : AreProbes 1 (codes "dtrace:::BEGIN" ∷ codes "dtrace:::END" ∷ take l.value-index (texts l.rows)) l.probes.items;
}
