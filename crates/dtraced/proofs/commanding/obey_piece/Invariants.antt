-- Each round takes what it fed from the rest.
use Rattle.std.proofs.Common.{length}
use Rattle.dtraced.proofs.commanding.obey_piece.Given as goal

abbrev pub decreases-loop-rest : goal.decreases-loop-rest
decreases-loop-rest g l = length l.rest
