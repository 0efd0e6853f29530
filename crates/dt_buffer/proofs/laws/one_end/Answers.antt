-- Records have one longest end.
use Rattle.dt_buffer.proofs.Endings.{one_ends, some_ends}
use Rattle.dt_buffer.proofs.laws.one_end.Goals as goal

pub returns-clause-some : goal.returns-clause-some
returns-clause-some c = some_ends

pub returns-clause-one : goal.returns-clause-one
returns-clause-one c = one_ends
