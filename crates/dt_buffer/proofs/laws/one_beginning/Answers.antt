-- Records have one longest beginning.
use Rattle.dt_buffer.specs.laws.Beginnings.{one_begins, some_begins}
use Rattle.dt_buffer.proofs.laws.one_beginning.Goals as goal

pub returns-clause-some : goal.returns-clause-some
returns-clause-some c = some_begins

pub returns-clause-one : goal.returns-clause-one
returns-clause-one c = one_begins
