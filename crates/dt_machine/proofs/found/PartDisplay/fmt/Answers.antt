-- What the proof of `Part`'s `Display` is told at its goals.
use Rattle.dt_machine.proofs.found.PartDisplay.fmt.Goals as goal

pub returns-in-Firing-clause-writes : goal.returns-in-Firing-clause-writes
returns-in-Firing-clause-writes g c = rw c.in-Firing.is c.write-in-Firing.ensures.writes
