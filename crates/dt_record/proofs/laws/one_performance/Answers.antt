-- What the proof of `one_performance` is told at its goals.
use Rattle.dt_record.proofs.Performances.{is_performed, one_performed}
use Rattle.dt_record.proofs.laws.one_performance.Goals as goal

pub returns-clause-value : goal.returns-clause-value
returns-clause-value c = λ scene past statements. is_performed scene statements past

pub returns-clause-one : goal.returns-clause-one
returns-clause-one c = λ scene past statements. one_performed scene statements past
