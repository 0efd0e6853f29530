-- What the proof of `read_is_in_bounds` is told at its goals.
use Rattle.dt_lang.specs.laws.WrittenPrograms.{program_written}
use Rattle.dt_lang.proofs.parse.read_is_in_bounds.Goals as goal

pub returns : goal.returns
returns c = program_written
