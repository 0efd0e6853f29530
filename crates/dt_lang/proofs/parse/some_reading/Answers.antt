-- What the proof of `some_reading` is told at its goals.
use Rattle.dt_lang.specs.laws.SomeReading as readings
use Rattle.dt_lang.proofs.parse.some_reading.Goals as goal

pub returns : goal.returns
returns c = readings.some_reading
