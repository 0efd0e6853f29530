-- What the proof of `left_is_split` is told at its goals.
use Rattle.dt_record.specs.laws.Fitting.{left-split}
use Rattle.dt_record.proofs.laws.left_is_split.Goals as goal

pub returns : goal.returns
returns c = left-split
