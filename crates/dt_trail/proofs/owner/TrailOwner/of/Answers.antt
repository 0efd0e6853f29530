use Rattle.std.proofs.Common.{refl, arith, []}
use Rattle.std.specs.Arc.{arc_value}
use Rattle.dt_trail.proofs.Owning.{owning}
use Rattle.dt_trail.proofs.owner.TrailOwner.of.Goals as goal

pub invariant_of-result : goal.invariant_of-result
invariant_of-result g c =
    let r = c.requires in
    let place = c.args.place in
    owning (arc_value place.cells) c.args.right place.door [] 0 place.widened place.width r.row.0 r.row.1 (rw r.door.3 r.view) record { door = r.door.0; low = (let z = r.door.1 in omega arith); high = omega arith } refl (omega arith) (let n = r.door.3 in omega arith) (let z = r.door.2 in let n = r.door.3 in omega arith)
