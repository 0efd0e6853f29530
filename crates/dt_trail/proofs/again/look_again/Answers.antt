use Rattle.std.proofs.Common.{arith}
use Rattle.dt_trail.proofs.Uses.{reads_again_as}
use Rattle.dt_trail.proofs.again.look_again.Goals as goal

pub load-requires : goal.load-requires
load-requires g c =
    let r = c.requires in let k = c.args.inner.now in let small = r.door.1.small in
    (r.seat.0, r.seat.1, r.door.1.placed, omega (arith, r.door.2, r.door.3), reads_again_as g.L.Law.lawful k.rows.key k.about k.keyed.0 _ _ _ _ r.door.0 r.door.1 r.door.2 r.door.3 r.known)
