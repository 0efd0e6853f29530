use Rattle.std.proofs.Common.{sym, ap, ◌∙◌}
use Rattle.dt_facts.specs.Rule.{Mine}
use Rattle.dt_facts.proofs.Uses.{repeats_as}
use Rattle.dt_facts.proofs.word.Facts.repeat.Goals as goal

pub split_seat-requires : goal.split_seat-requires
split_seat-requires c =
    let b = c.requires in
    (b.1 ∙ sym c.self.view_is, c.self.inside.wide, repeats_as _ _ _ _ (ap (λ (m : Mine). m.0) b.0))
