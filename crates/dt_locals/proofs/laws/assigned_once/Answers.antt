-- Each that was assigned is listed where it is assigned last.
use Rattle.dt_locals.specs.laws.Assigning.{assigned_apart, assigned_among}
use Rattle.dt_locals.proofs.laws.assigned_once.Goals as goal

pub returns-clause-apart : goal.returns-clause-apart
returns-clause-apart c = assigned_apart

pub returns-clause-among : goal.returns-clause-among
returns-clause-among c = assigned_among
