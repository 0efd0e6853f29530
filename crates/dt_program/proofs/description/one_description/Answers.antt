-- What is to be shown of `one_description`.
use Rattle.dt_program.specs.laws.SomeDescription as readings
use Rattle.dt_program.proofs.description.one_description.Goals as goal

pub returns : goal.returns
returns c = readings.one_description
