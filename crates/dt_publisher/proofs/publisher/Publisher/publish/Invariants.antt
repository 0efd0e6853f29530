-- The seat's own writes, among all that there are then.
use Rattle.dt_chain.specs.Writes.{writes_of}
use Rattle.dt_facts.specs.Facts.{writes_fact}
use Rattle.dt_publisher.proofs.publisher.Publisher.publish.Given as goal

abbrev pub ghosts-go_on_apart : goal.ghosts-go_on_apart
ghosts-go_on_apart g a = record { fact = writes_fact (writes_of a._from.now.1.now.writes a._from.now.0) }
