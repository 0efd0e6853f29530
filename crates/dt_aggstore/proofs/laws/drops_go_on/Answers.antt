-- What drops nothing.
use Rattle.dt_aggstore.proofs.Drops.{drops-new_past, drops-truncated}
use Rattle.dt_aggstore.proofs.laws.drops_go_on.Goals as goal

pub returns-clause-fresh : goal.returns-clause-fresh
returns-clause-fresh c = drops-new_past

pub returns-clause-truncated : goal.returns-clause-truncated
returns-clause-truncated c = drops-truncated
