-- What the reading of a file has of its tests.
use Rattle.std.proofs.Common.{◌≡◌, ◌∙◌, ◌+◌, ◌<◌, List, length, lit<, ap, arith}
use Rattle.serde_json.specs.Data.{Data}
use Rattle.dt_cred.specs.declared.firing.Firing.{Firing as FiringType}
use Rattle.dt_machine.specs.declared.fault.FaultNumber.TheVariants.{Cpus, Account, Process, Probe, Script}
use Rattle.dt_machine.specs.Reading.{AllRightIn}
use Rattle.dt_machine.specs.Rows.{FiringRow, HasRoom, scripts}
use Rattle.dt_machine.specs.Sections.{AreSections, registry_of}
use Rattle.dt_machine.specs.declared.sections.Sections.{Sections}
use Rattle.dt_machine.specs.laws.Scripts.{few_rows, scripts_at, length-script}
use Rattle.dt_machine.specs.laws.Soundness.{HasPassed}
use Rattle.dt_machine.proofs.Firings.{short_enough}
use Rattle.dt_machine.specs.Limits.{script_max}

pub short_scripts : (all : List (List FiringRow)) → AllRightIn HasRoom all
    → AllRightIn {A = FiringType} (λ before _. length before < script_max) (scripts 0 all)
short_scripts all room k found there =
    let at = scripts_at 0 all k found there in
    let few = few_rows at.rows script_max (room k at.rows at.there) in
    let counted : length found ≡ length at.rows = ap length at.is ∙ length-script (0 + k) 0 at.rows in
    short_enough found script_max (omega arith)

pub has_passed : (d : Data) (s : Sections) → AreSections d s → HasPassed d (registry_of s)
has_passed d s a = record {
  registers = a.registers;
  cpus = a.passed Cpus (lit< tt);
  accounts = a.passed Account (lit< tt);
  processes = a.passed Process (lit< tt);
  probes = a.passed Probe (lit< tt);
  scripts = a.passed Script (lit< tt);
}
