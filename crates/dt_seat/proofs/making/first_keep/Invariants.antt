-- The fact of a processor that took nothing.
use Rattle.std.proofs.Common.{None}
use Rattle.dt_facts.specs.Facts.{processor_fact}
use Rattle.dt_seat.proofs.making.first_keep.Given as goal

abbrev pub ghosts-go_on : goal.ghosts-go_on
ghosts-go_on g a = record { fact = processor_fact None }
