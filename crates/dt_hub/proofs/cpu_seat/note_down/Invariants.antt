-- The log with a place more.
use Rattle.std.proofs.Common.{◌++◌, ◌∷◌, []}
use Rattle.dt_facts.specs.Facts.{log_fact}
use Rattle.dt_hub.specs.Processors.{knew_at_seats, places_in}
use Rattle.dt_hub.proofs.cpu_seat.note_down.Given as goal

abbrev pub ghosts-go_on : goal.ghosts-go_on
ghosts-go_on g a = record { fact = log_fact (places_in a.both.now.fact ++ knew_at_seats a._from.now.items ∷ []) }
