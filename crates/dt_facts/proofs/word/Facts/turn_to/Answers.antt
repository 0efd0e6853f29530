use Rattle.std.proofs.Common.{sym, ap, ◌∙◌}
use Rattle.dt_facts.specs.Rule.{Mine}
use Rattle.dt_facts.proofs.Uses.{goes_on_as}
use Rattle.dt_facts.proofs.word.Facts.turn_to.Goals as goal

pub load-requires : goal.load-requires
load-requires g c =
    let b = c.requires.both in
    (b.1 ∙ sym c.self.view_is, c.self.inside.wide, goes_on_as _ _ _ _ _ _ (ap (λ (m : Mine). m.0) b.0) c.requires.follows)
