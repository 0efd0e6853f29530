-- Nothing was assigned.
use Rattle.dt_locals.specs.laws.After.{fresh_value, fresh_drops}
use Rattle.dt_locals.proofs.laws.all_zero_at_first.Goals as goal

pub returns-clause-values : goal.returns-clause-values
returns-clause-values c = fresh_value

pub returns-clause-drops : goal.returns-clause-drops
returns-clause-drops c = fresh_drops
