use Rattle.std.proofs.Common.{ap}
use Rattle.dt_trail.proofs.Uses.{returns_right_as}
use Rattle.dt_trail.proofs.moves.hand_back.Goals as goal

pub split_seat-requires : goal.split_seat-requires
split_seat-requires g c =
    let r = c.requires in let k = c.args.inner.now in
    (r.seat.0.0, r.seat.0.1, rw (ap (λ q. q.ptr) r.root) k.placed, rw (ap (λ q. q.ptr) r.root) (returns_right_as g.L.Law.lawful k.rows.key k.about k.keyed.0 _ _ _ _ _ _ _ _ (ap (λ m. m.view) r.seat.1)))
