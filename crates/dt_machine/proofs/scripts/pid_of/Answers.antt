-- What the proof of `pid_of` is told at its goals.
use Rattle.dt_machine.proofs.ByPid.{unknown}
use Rattle.dt_machine.proofs.scripts.pid_of.Goals as goal

pub returns-in_err-pid : goal.returns-in_err-pid
returns-in_err-pid c = rw c.from_residual.ensures
    (λ known. unknown c.args.sections.now.processes.items c.args.number c.requires.small c.in_err-pid.ensures known)
