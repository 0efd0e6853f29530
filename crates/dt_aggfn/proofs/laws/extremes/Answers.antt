-- What the least and the greatest value are.
use Rattle.dt_aggfn.proofs.OrderLemmas.{least_is, greatest_is}
use Rattle.dt_aggfn.proofs.laws.extremes.Goals as goal

pub returns-clause-least : goal.returns-clause-least
returns-clause-least c = least_is

pub returns-clause-greatest : goal.returns-clause-greatest
returns-clause-greatest c = greatest_is
