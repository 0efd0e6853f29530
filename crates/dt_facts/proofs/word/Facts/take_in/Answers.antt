use Rattle.std.proofs.Common.{ℕ, sym, ap, ◌∙◌}
use Rattle.dt_facts.specs.Rule.{Mine, lists_begun}
use Rattle.dt_facts.proofs.Uses.{tells_as, learns_as}
use Rattle.dt_facts.proofs.word.Facts.take_in.Goals as goal

pub join_seat-requires : goal.join_seat-requires
join_seat-requires c =
    let b = c.requires.seat in let o = c.requires.other in
    let named = ap (λ (m : Mine). m.0) o.0 ∙ ap (λ (k : ℕ). lists_begun k c.args.other.me.0.knows) o.2 in
    (b.1 ∙ sym c.self.view_is, o.1 ∙ sym c.self.view_is, ap (λ (m : Mine). m.1) o.0, c.self.inside.wide, tells_as _ _ _ _ _ _ _ (ap (λ (m : Mine). m.0) b.0) named)

pub load-requires : goal.load-requires
load-requires c =
    let j = c.join_seat.ensures in
    (j.0 ∙ c.requires.seat.1 ∙ sym c.self.view_is, c.self.inside.wide, learns_as _ _ _ _ _ _ (ap (λ (m : Mine). m.0) j.2))
