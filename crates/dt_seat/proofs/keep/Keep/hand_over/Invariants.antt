-- The note of the present life is taken.
use Rattle.std.proofs.Common.{Some}
use Rattle.dt_facts.specs.Facts.{last_note, processor_fact}
use Rattle.dt_seat.proofs.keep.Keep.hand_over.Given as goal

abbrev pub ghosts-go_on_apart : goal.ghosts-go_on_apart
ghosts-go_on_apart g a = record { fact = processor_fact (Some (last_note a._from.now.0 a._from.now.1.now.row)) }
