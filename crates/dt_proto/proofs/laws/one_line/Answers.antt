-- A reply is one line.
use Rattle.dt_proto.specs.laws.OneLine.{reply_is_line}
use Rattle.dt_proto.proofs.laws.one_line.Goals as goal

pub returns : goal.returns
returns c = reply_is_line
