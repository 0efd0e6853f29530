-- What is held is held by a contribution.
use Rattle.dt_aggstore.proofs.Holding.{held_where}
use Rattle.dt_aggstore.proofs.laws.held_entries.Goals as goal

pub returns : goal.returns
returns c = held_where
