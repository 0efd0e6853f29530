-- The trail of a view is the trail of its seen view.
use Rattle.dt_proto.specs.laws.Trails.{trail_seen, trail_of_seen}
use Rattle.dt_proto.proofs.laws.trails_are_seen.Goals as goal

pub returns : goal.returns
returns c = λ account registry view items. (
  trail_seen account registry view items,
  trail_of_seen account registry view items,
)
