-- The process of a `pid` provider's number, where it can be one.
use Rattle.std.proofs.Common.{inl, inr, arith}
use Rattle.dt_ecb.proofs.ProbeLemmas.{process_found}
use Rattle.dt_ecb.proofs.matches.traced_process.Goals as goal
use Rattle.dt_ecb.proofs.matches.traced_process.Goals.{then-pid-from, else-pid-from}

pub returns-after-pid-from : goal.returns-after-pid-from
returns-after-pid-from c =
    process_found c.args.machine.now.registry c.process.ensures.sound.small_pids _ c.in-Pid.pid _ _ c.in-Pid.is
    (elim c.if-pid-from.branch [
      | then-pid-from w ↦ inl (omega arith, omega arith)
      | else-pid-from w ↦ inr (omega arith, omega arith)
    ])
    c.process.ensures.value
