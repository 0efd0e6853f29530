-- The fact of a seat that wrote nothing.
use Rattle.std.proofs.Common.{[]}
use Rattle.dt_facts.specs.Facts.{writes_fact}
use Rattle.dt_publisher.proofs.making.no_writes.Given as goal

abbrev pub ghosts-go_on : goal.ghosts-go_on
ghosts-go_on a = record { fact = writes_fact [] }
