-- The fact of a seat that had no life.
use Rattle.std.proofs.Common.{[]}
use Rattle.dt_facts.specs.Facts.{life_fact}
use Rattle.dt_seat.proofs.making.no_lives.Given as goal

abbrev pub ghosts-go_on : goal.ghosts-go_on
ghosts-go_on a = record { fact = life_fact [] }
