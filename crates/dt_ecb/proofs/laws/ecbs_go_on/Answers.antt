-- Programs one after another.
use Rattle.dt_ecb.proofs.EcbLaws.{going_on}
use Rattle.dt_ecb.proofs.laws.ecbs_go_on.Goals as goal

pub returns : goal.returns
returns c = going_on
