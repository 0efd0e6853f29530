-- What the proof of `one_split` is told at its goals.
use Rattle.dt_record.proofs.Unique.{one-split}
use Rattle.dt_record.proofs.laws.one_split.Goals as goal

pub returns : goal.returns
returns c = one-split
