-- A statement's use is one of all, and so its name is found.
use Rattle.dt_ecb.proofs.NameLemmas.{all_named}
use Rattle.dt_ecb.proofs.laws.uses_are_named.Goals as goal

pub returns : goal.returns
returns c = all_named
