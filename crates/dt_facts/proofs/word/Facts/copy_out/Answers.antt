use Rattle.std.proofs.Common.{sym, ap, ◌∙◌}
use Rattle.dt_facts.specs.Rule.{Mine}
use Rattle.dt_facts.proofs.Uses.{begins_as}
use Rattle.dt_facts.proofs.word.Facts.copy_out.Goals as goal

pub split_seat-requires : goal.split_seat-requires
split_seat-requires c =
    let b = c.requires.book in
    (b.1 ∙ sym c.self.view_is, c.self.inside.wide, begins_as _ _ _ _ (ap (λ (m : Mine). m.0) b.0))
