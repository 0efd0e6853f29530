use Rattle.std.proofs.Common.{sym, ap, ◌∙◌}
use Rattle.dt_facts.specs.Rule.{Mine}
use Rattle.dt_facts.specs.Handles.{NextName}
use Rattle.dt_facts.proofs.Uses.{makes_as}
use Rattle.dt_facts.proofs.word.Facts.make.Goals as goal

pub split_seat-seat-requires : goal.split_seat-seat-requires
split_seat-seat-requires c =
    (ap (λ (m : NextName). m.word) c.maker.view_is ∙ c.requires ∙ sym c.self.view_is, c.self.inside.wide, makes_as _ _ _ (ap (λ (m : Mine). m.0) c.maker.invariant))
