-- A text tells one trail at most.
use Rattle.dt_alone.proofs.Trails.{same_trail}
use Rattle.dt_alone.proofs.laws.one_trail_told.Goals as goal

pub returns : goal.returns
returns c = same_trail
