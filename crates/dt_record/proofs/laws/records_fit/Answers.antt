-- What the proof of `records_fit` is told at its goals.
use Rattle.dt_record.specs.laws.Fitting.{records-fit}
use Rattle.dt_record.proofs.Examples.{some_taken}
use Rattle.dt_record.proofs.laws.records_fit.Goals as goal

pub returns-clause-fit : goal.returns-clause-fit
returns-clause-fit c = records-fit

pub returns-clause-met : goal.returns-clause-met
returns-clause-met c = some_taken
