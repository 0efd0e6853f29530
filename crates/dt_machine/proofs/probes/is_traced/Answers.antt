-- What the proof of `is_traced` is told at its goals.
use Rattle.std.proofs.Common.{◌∙◌, sym}
use Rattle.dt_machine.specs.laws.Soundness.{at_pid}
use Rattle.dt_machine.proofs.ByPid.{is_some-find}
use Rattle.dt_machine.proofs.probes.is_traced.Goals as goal

pub returns-in-Pid : goal.returns-in-Pid
returns-in-Pid c =
    let same = is_some-find (at_pid c.in-Pid.pid) c.args.processes.now in
    rw c.in-Pid.is ((λ h. same ∙ sym c.is_process.ensures ∙ h), (λ h. c.is_process.ensures ∙ sym same ∙ h))
