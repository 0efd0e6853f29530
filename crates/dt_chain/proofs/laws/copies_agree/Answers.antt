-- What one copy keeps, the other keeps.
use Rattle.dt_chain.specs.laws.LastWrites as last_writes
use Rattle.dt_chain.proofs.laws.copies_agree.Goals as goal

pub returns : goal.returns
returns c = last_writes.copies_agree
