-- What holds at each turn of the loops of `read_processes`.
use Rattle.std.proofs.Common.{◌≡◌, ◌≤◌, ◌<◌, ◌^◌, map, take, All, IsSome}
use Rattle.dt_cred.specs.declared.account.Process.{Process}
use Rattle.dt_machine.specs.Rows.{ProcessRow, IsRightProcess, process}
use Rattle.dt_machine.specs.Sections.{process_rows, Indexes}
use Rattle.dt_machine.proofs.Searching.{RightUpTo}
use Rattle.dt_machine.proofs.processes.read_processes.Given as goal
use Rattle.dt_machine.specs.Limits.{processes_max}

abbrev pub invariant-loop-value : goal.invariant-loop-value
invariant-loop-value l = record {
  few : l.value-index ≤ processes_max;
  right : RightUpTo IsRightProcess (process_rows l.rows) l.value-index;
  known : All (λ (row : ProcessRow). IsSome row.pid) (take l.value-index (process_rows l.rows));
  read : l.processes.items ≡ map process (take l.value-index (process_rows l.rows));
  small : All (λ (found : Process). found.pid < 2 ^ 32) l.processes.items;
  indexes : Indexes l.by_pid l.processes.items;
}
