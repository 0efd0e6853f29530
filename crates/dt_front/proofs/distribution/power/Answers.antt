-- What is to be shown of `power`.
use Rattle.std.proofs.Common.{arith}
use Rattle.dt_front.proofs.FunctionRows.{power_fits}
use Rattle.dt_front.proofs.distribution.power.Goals as goal

pub pow-requires : goal.pow-requires
pow-requires c = power_fits c.args.exponent (omega (arith, c.requires))
