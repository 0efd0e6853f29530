-- No identifier is in use.
use Rattle.std.proofs.Common.{refl, arith}
use Rattle.dt_speculation.proofs.Pasts.{specs_none}
use Rattle.dt_speculation.proofs.speculations.Specs.new.Goals as goal

pub returns-clause-stands : goal.returns-clause-stands
returns-clause-stands c =
    specs_none c.args.nspec c.args.specsize _ (omega (arith, c.loop-place.invariant.counted)) refl c.loop-place.invariant.fresh
