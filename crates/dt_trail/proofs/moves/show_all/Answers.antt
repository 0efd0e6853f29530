use Rattle.std.proofs.Common.{ap, ◌∙◌, arith}
use Rattle.dt_trail.proofs.Uses.{compares_as}
use Rattle.dt_trail.proofs.moves.show_all.Goals as goal

pub load-requires : goal.load-requires
load-requires g c =
    let r = c.requires in let k = c.args.inner.now in let j = c.lend.ensures in
    (j.same.0 ∙ r.seat.0.0, j.same.1 ∙ r.seat.0.1, k.placed, omega arith, compares_as g.L.Law.lawful k.rows.key k.about k.keyed.0 _ _ _ _ _ _ _ _ (ap (λ m. m.view) j.seat))
