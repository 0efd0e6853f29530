-- What holds at each turn of the loops of `read_accounts`.
use Rattle.std.proofs.Common.{◌≡◌, ◌≤◌, map, take}
use Rattle.dt_machine.specs.Rows.{IsRightAccount, account}
use Rattle.dt_machine.specs.Sections.{account_rows}
use Rattle.dt_machine.proofs.Searching.{RightUpTo}
use Rattle.dt_machine.proofs.accounts.read_accounts.Given as goal
use Rattle.dt_machine.specs.Limits.{accounts_max}

abbrev pub invariant-loop-value : goal.invariant-loop-value
invariant-loop-value l = record {
  few : l.value-index ≤ accounts_max;
  right : RightUpTo IsRightAccount (account_rows l.rows) l.value-index;
  read : l.accounts.items ≡ map account (take l.value-index (account_rows l.rows));
}
