-- The processor took no note.
use Rattle.std.proofs.Common.{None}
use Rattle.dt_facts.specs.Facts.{processor_fact}
use Rattle.dt_seat.proofs.keep.Keep.forget.Given as goal

abbrev pub ghosts-go_on_apart : goal.ghosts-go_on_apart
ghosts-go_on_apart g a = record { fact = processor_fact None }
