-- What is to be shown of `own_writes_go_on`.
use Rattle.dt_publisher.specs.laws.OwnWrites.{own_more, own_same, own_begin}
use Rattle.dt_publisher.proofs.laws.own_writes_go_on.Goals as goal

pub returns : goal.returns
returns c = record { own = own_more; other = own_same; begins = own_begin }
