-- What is to be shown of `tables_are_plain`.
use Rattle.dt_front.proofs.PlainTables.{key_lines, table_head_lines, table_lines, title_lines, value_lines}
use Rattle.dt_front.proofs.laws.tables_are_plain.Goals as goal

pub returns : goal.returns
returns c = record { probes_head = table_head_lines; probes = table_lines; titles = title_lines; keys = key_lines; numbers = value_lines }
