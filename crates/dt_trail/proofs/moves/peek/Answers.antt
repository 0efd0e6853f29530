use Rattle.std.proofs.Common.{arith}
use Rattle.dt_trail.proofs.Uses.{peeks_as}
use Rattle.dt_trail.proofs.moves.peek.Goals as goal

pub load-requires : goal.load-requires
load-requires g c =
    let r = c.requires in let k = c.args.inner.now in
    (r.seat.0, r.seat.1, r.door.1.placed, omega (arith, r.door.2), peeks_as g.L.Law.lawful k.rows.key k.about k.keyed.0 _ _ _ _ r.door.0 r.door.1 r.door.2)
