use Rattle.std.proofs.Common.{List, ◌∙◌}
use Rattle.std.specs.Arc.{arc_value}
use Rattle.dt_trail.specs.Items.{TrailItem}
use Rattle.dt_trail.proofs.Owning.{owning}
use Rattle.dt_trail.proofs.owner.TrailOwner.told.Goals as goal

pub invariant_of-self : goal.invariant_of-self
invariant_of-self g c =
    let i = c.self.invariant in
    let inner = arc_value c.self.inside.place.cells in
    let ks : List TrailItem = c.self.inside.seat.me.view.knows in
    let x = c.tell-seat.ensures in
    owning inner c.tell-seat.new.seat c.self.inside.place.door ks c.self.inside.count c.self.inside.place.widened c.self.inside.place.width
    (x.seat.0.0 ∙ i.rows) (x.seat.0.1 ∙ i.heap) (x.seat.1 ∙ i.mine) i.at i.counted i.full i.few i.wide
