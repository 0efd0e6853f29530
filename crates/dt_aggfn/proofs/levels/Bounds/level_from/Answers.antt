-- Where a level begins, in 64 bits.
use Rattle.std.proofs.Common.{rules, FitsSigned}
use Rattle.std.specs.Int.{w64}
use Rattle.dt_aggfn.proofs.LevelRowLemmas.{level_in_bits}
use Rattle.dt_aggfn.proofs.levels.Bounds.level_from.Goals as goal

pub returns : goal.returns
returns c =
    let l : FitsSigned w64 c.args.self.lower = search rules in
    let u : FitsSigned w64 c.args.self.upper = search rules in
    level_in_bits c.args.self c.args.index c.requires l u
