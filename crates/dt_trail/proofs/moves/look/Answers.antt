use Rattle.std.proofs.Common.{arith}
use Rattle.dt_trail.proofs.Uses.{reads_as}
use Rattle.dt_trail.proofs.moves.look.Goals as goal

pub load-requires : goal.load-requires
load-requires g c =
    let r = c.requires in let k = c.args.inner.now in let small = r.door.1.small in
    (r.seat.0.0, r.seat.0.1, r.door.1.placed, omega (arith, r.at.0, r.at.1, r.at.2), reads_as g.L.Law.lawful k.rows.key k.about k.keyed.0 _ _ _ _ r.door.0 r.door.1 r.at.0 r.at.1 r.at.2)

pub returns-clause-lawful : goal.returns-clause-lawful
returns-clause-lawful g c = let t = c.load.ensures.3.0 _ c.requires.seat.1 in g.L.Law.closed _ _ t.0 t.1
