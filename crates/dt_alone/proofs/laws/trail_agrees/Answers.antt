-- What is to be shown of `trail_agrees`.
use Rattle.std.proofs.Common.{refl}
use Rattle.dt_alone.proofs.laws.trail_agrees.Goals as goal

pub returns : goal.returns
returns c = λ contents name account view items text named brought trail spelled.
    (name, account, items, spelled, named, (c.trails_agree.ensures account contents view items brought trail, refl))
