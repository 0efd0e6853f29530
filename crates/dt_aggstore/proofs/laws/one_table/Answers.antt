-- Pasts have exactly one table.
use Rattle.dt_aggstore.proofs.Tables.{one_table}
use Rattle.dt_aggstore.proofs.SomeTables.{some_table, is_table}
use Rattle.dt_aggstore.proofs.laws.one_table.Goals as goal

pub returns-clause-some : goal.returns-clause-some
returns-clause-some c = some_table

pub returns-clause-one : goal.returns-clause-one
returns-clause-one c = one_table

pub returns-clause-value : goal.returns-clause-value
returns-clause-value c = is_table
