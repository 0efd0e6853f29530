-- The life that is open closes.
use Rattle.std.proofs.Common.{[], ◌∷◌, ◌++◌}
use Rattle.dt_facts.specs.Facts.{life_fact}
use Rattle.dt_facts.specs.Lives.{closed}
use Rattle.dt_seat.specs.Knowledge.{steps_in}
use Rattle.dt_seat.proofs.locked.LockedSeat.close.Given as goal

abbrev pub ghosts-go_on_apart : goal.ghosts-go_on_apart
ghosts-go_on_apart g a = record { fact = life_fact (steps_in a.share.now.fact ++ closed ∷ []) }
