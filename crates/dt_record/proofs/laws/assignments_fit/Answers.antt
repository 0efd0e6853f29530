-- What the proof of `assignments_fit` is told at its goals.
use Rattle.dt_record.specs.laws.Bounds.{taking_bounds, taking_fit}
use Rattle.dt_record.proofs.laws.assignments_fit.Goals as goal

pub returns-clause-fit : goal.returns-clause-fit
returns-clause-fit c = taking_fit

pub returns-clause-kept : goal.returns-clause-kept
returns-clause-kept c = taking_bounds
