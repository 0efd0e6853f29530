-- What was known, and what the note knows beside.
use Rattle.dt_facts.specs.Facts.{items_fact, lists_in}
use Rattle.dt_facts.specs.Lives.{known_more}
use Rattle.dt_seat.proofs.knowledge.Knowledge.go_on.Given as goal

abbrev pub ghosts-go_on_apart : goal.ghosts-go_on_apart
ghosts-go_on_apart g a = record { fact = items_fact (known_more a._from.now.0 a._from.now.1.now.knows (lists_in a.share.now.fact).items) }
