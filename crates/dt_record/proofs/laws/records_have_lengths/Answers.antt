-- What the proof of `records_have_lengths` is told at its goals.
use Rattle.dt_record.specs.laws.Lengths.{left_long}
use Rattle.dt_record.proofs.laws.records_have_lengths.Goals as goal

pub returns : goal.returns
returns c = left_long
