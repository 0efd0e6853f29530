-- All parts are empty.
use Rattle.std.proofs.Common.{false, refl}
use Rattle.dt_speculation.proofs.Uses.{speculation_none}
use Rattle.dt_speculation.proofs.speculation.Speculation.new.Goals as goal

pub returns-clause-stands : goal.returns-clause-stands
returns-clause-stands c = speculation_none c.args.size false _ refl c.loop-cpu.invariant.empty
