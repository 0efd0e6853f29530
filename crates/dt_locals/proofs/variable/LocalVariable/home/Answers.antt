-- The number, by the homes.
use Rattle.std.proofs.Common.{◌%◌, ap}
use Rattle.dt_locals.specs.Hash.{home_in}
use Rattle.dt_locals.proofs.variable.LocalVariable.home.Goals as goal

pub returns : goal.returns
unfolding home_in
returns c = ap (λ n. n % c.args.beginnings) c.hash.ensures
