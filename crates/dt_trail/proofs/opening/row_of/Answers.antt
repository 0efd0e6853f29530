use Rattle.std.proofs.Common.{rules}
use Rattle.dt_trail.proofs.Making.{begins}
use Rattle.dt_trail.proofs.opening.row_of.Goals as goal

pub open-rows-requires-clause-rule : goal.open-rows-requires-clause-rule
open-rows-requires-clause-rule g c = begins g.L.Law.lawful _ _ _ _ _ (search rules) (search rules) (search rules) (search rules) (search rules) c.requires.wide.0 c.requires.wide.1 (search rules) c.requires.lawful
