-- The last write of a seat, and what it leaves.
use Rattle.dt_chain.specs.laws.LastWrites.{last_write_of-own, published_on-last}
use Rattle.dt_chain.proofs.laws.last_write_tells.Goals as goal

pub returns-clause-newest : goal.returns-clause-newest
returns-clause-newest c = last_write_of-own

pub returns-clause-published : goal.returns-clause-published
returns-clause-published c = published_on-last
