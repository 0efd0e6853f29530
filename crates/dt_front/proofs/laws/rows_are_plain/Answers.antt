-- What is to be shown of `rows_are_plain`.
use Rattle.dt_front.proofs.PlainRows.{head_lines, rows_lines}
use Rattle.dt_front.proofs.laws.rows_are_plain.Goals as goal

pub returns : goal.returns
returns c = record { head = head_lines; rows = rows_lines }
