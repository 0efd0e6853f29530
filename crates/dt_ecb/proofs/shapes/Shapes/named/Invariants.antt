-- No use so far has the name, so the answer is that of what is left.
use Rattle.std.proofs.Common.{◌≡◌, drop}
use Rattle.dt_ecb.specs.Shapes as spec
use Rattle.dt_ecb.proofs.ClashLemmas.{forms}
use Rattle.dt_ecb.proofs.NameLemmas.{named_from}
use Rattle.dt_ecb.proofs.shapes.Shapes.named.Given as goal

abbrev pub invariant-loop-number : goal.invariant-loop-number
invariant-loop-number l = spec.named (forms l.self.uses.items) l.name
    ≡ named_from l.number (forms (drop l.number l.self.uses.items)) l.name
