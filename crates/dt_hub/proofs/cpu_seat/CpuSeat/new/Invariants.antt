-- The log of a processor that fired nothing.
use Rattle.std.proofs.Common.{[]}
use Rattle.dt_facts.specs.Facts.{log_fact}
use Rattle.dt_hub.proofs.cpu_seat.CpuSeat.new.Given as goal

abbrev pub ghosts-go_on : goal.ghosts-go_on
ghosts-go_on g a = record { fact = log_fact [] }
