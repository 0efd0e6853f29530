-- What holds at each turn of the loops of `first_long`.
use Rattle.dt_machine.specs.Reading.{AllRight}
use Rattle.dt_machine.specs.Rows.{HasRoom}
use Rattle.dt_machine.specs.Sections.{scripts_rows}
use Rattle.dt_machine.proofs.Searching.{RightUpTo}
use Rattle.dt_machine.proofs.scripts.first_long.Given as goal

abbrev pub invariant-loop-cpu : goal.invariant-loop-cpu
invariant-loop-cpu l = RightUpTo (λ _ script. AllRight HasRoom script) (scripts_rows l.scripts) l.cpu
