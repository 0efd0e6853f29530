-- The hasher is fed the process, the thread and the name.
use Rattle.std.proofs.Common.{rules}
use Rattle.dt_locals.specs.Hash.{local_hash}
use Rattle.dt_locals.proofs.variable.LocalVariable.hash.Goals as goal

pub returns : goal.returns
unfolding local_hash
returns c = first_of (search rules, cc)
