-- Each text is read as a description or as none.
use Rattle.dt_program.specs.laws.SomeDescription as readings
use Rattle.dt_program.proofs.description.some_description.Goals as goal

pub returns : goal.returns
returns c = readings.some_description
