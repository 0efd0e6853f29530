-- The lines and the rest of two pieces.
use Rattle.dt_proto.specs.laws.Parts.{lines-append, rest-append}
use Rattle.dt_proto.proofs.laws.one_cutting.Goals as goal

pub returns-clause-lines : goal.returns-clause-lines
returns-clause-lines c = lines-append

pub returns-clause-rest : goal.returns-clause-rest
returns-clause-rest c = rest-append
