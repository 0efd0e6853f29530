-- Of what a part is made.
use Rattle.dt_speculation.specs.laws.Pieces.{part_chosen}
use Rattle.dt_speculation.proofs.laws.parts_of_records.Goals as goal

pub returns : goal.returns
returns c = part_chosen
