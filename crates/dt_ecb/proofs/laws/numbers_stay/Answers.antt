-- What is found among the first uses is found among all.
use Rattle.dt_ecb.proofs.NameLemmas.{same_after}
use Rattle.dt_ecb.proofs.laws.numbers_stay.Goals as goal

pub returns : goal.returns
returns c = same_after
