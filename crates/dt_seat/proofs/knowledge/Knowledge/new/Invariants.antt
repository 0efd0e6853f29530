-- The fact of a seat whose sessions knew nothing.
use Rattle.std.proofs.Common.{[]}
use Rattle.dt_facts.specs.Facts.{items_fact}
use Rattle.dt_seat.proofs.knowledge.Knowledge.new.Given as goal

abbrev pub ghosts-go_on : goal.ghosts-go_on
ghosts-go_on a = record { fact = items_fact [] }
