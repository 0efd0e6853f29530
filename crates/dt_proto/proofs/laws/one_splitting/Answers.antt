-- An input is its lines and a rest, in one way.
use Rattle.dt_proto.specs.laws.Splitting.{splits, one_way}
use Rattle.dt_proto.proofs.laws.one_splitting.Goals as goal

pub returns-clause-some : goal.returns-clause-some
returns-clause-some c = splits

pub returns-clause-one : goal.returns-clause-one
returns-clause-one c = one_way
