-- What a seat's own writes say of it.
use Rattle.dt_chain.specs.laws.LastWrites.{last_write_of-other, last_write_of-writes_of, published_on-writes_of}
use Rattle.dt_chain.proofs.laws.own_writes_tell.Goals as goal

pub returns-clause-other : goal.returns-clause-other
returns-clause-other c = last_write_of-other

pub returns-clause-last : goal.returns-clause-last
returns-clause-last c = last_write_of-writes_of

pub returns-clause-published : goal.returns-clause-published
returns-clause-published c = published_on-writes_of
