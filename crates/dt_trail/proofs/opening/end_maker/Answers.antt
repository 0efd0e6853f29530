use Rattle.std.proofs.Common.{ap}
use Rattle.dt_trail.proofs.Uses.{opens_as}
use Rattle.dt_trail.proofs.opening.end_maker.Goals as goal

pub split_seat-requires : goal.split_seat-requires
split_seat-requires g c =
    let r = c.requires in let k = c.args.inner.now in
    (r.row.0, r.row.1, k.placed, opens_as g.L.Law.lawful k.rows.key k.about k.keyed.0 _ _ _ _ _ _ (ap (λ m. m.view) r.view))
