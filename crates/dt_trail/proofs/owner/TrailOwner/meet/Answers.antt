use Rattle.std.proofs.Common.{◌≡◌, List, sym, ap, ◌∙◌, refl, Some, None}
use Rattle.std.specs.Arc.{arc_value}
use Rattle.atomic_blocks.specs.Cells.{me}
use Rattle.dt_trail.specs.Rule.{Turn, owner}
use Rattle.dt_trail.specs.Insides.{row_of}
use Rattle.dt_trail.specs.declared.law.Named.{Named}
use Rattle.dt_trail.specs.Known.{Known, Noted}
use Rattle.dt_trail.specs.Items.{TrailItem}
use Rattle.dt_trail.proofs.Owning.{owning}
use Rattle.dt_trail.proofs.owner.TrailOwner.meet.Goals as goal

pub invariant_of-self : goal.invariant_of-self
invariant_of-self g c =
    let i = c.self.invariant in
    let inner = arc_value c.self.inside.place.cells in
    let ks : List TrailItem = c.self.inside.seat.me.view.knows in
    let t = i.mine in
    let n = c.note.invariant in
    let row : row_of (arc_value c.note.inside.cells) ≡ row_of inner = ap (λ (k : Noted g.row.K.Denot). k.row) c.note.view_is ∙ (sym c.requires ∙ sym (ap (λ (k : Known g.row.K.Denot). k.row) c.self.view_is)) in
    let acc : c.note.inside.seat.me.view.account ≡ Some inner.about.account = ap (λ (m : Turn g.row.K.Denot). m.view.account) n.mine ∙ ap (λ (r : Named g.row.K.Denot). Some r.account) row in
    let x = c.show_all.ensures in
    let knows : c.self.inside.seat.me.view.knows ≡ ks = ap (λ (m : Turn g.row.K.Denot). m.view.knows) t in
    owning inner c.show_all.new.right c.self.inside.place.door ks c.self.inside.count c.self.inside.place.widened c.self.inside.place.width
    (x.right.0 ∙ (n.rows ∙ ap (λ (r : Named g.row.K.Denot). r.id) row)) refl
    (x.right.2 ∙ (λ j. me (owner (acc j) (knows j) ((ap (λ (m : Turn g.row.K.Denot). m.view.door) t) j) ((ap (λ (m : Turn g.row.K.Denot). m.view.extent) t) j)) None None))
    i.at i.counted i.full i.few i.wide
