-- The test of descriptions that are made ready is the one of a clause that has them.
use Rattle.std.proofs.Common.{◌∙◌, sym, ap}
use Rattle.std.specs.List.{list_any}
use Rattle.dt_ecb.specs.Matching as spec
use Rattle.dt_ecb.proofs.ProbeLemmas.{both}
use Rattle.dt_ecb.proofs.matches.is_matched.Goals as goal

pub returns-then-is_allowed : goal.returns-then-is_allowed
returns-then-is_allowed c clause same =
    both _ _ _ (sym c.is_allowed.ensures ∙ c.if-is_allowed.true)
    (c.is_described.ensures
    ∙ ap (list_any (λ desc. spec.asks_for desc c.args.probe.now.tuple)) (sym same))
