use Rattle.std.proofs.Common.{◌≡◌, ◌<◌, ◌+◌, subst, List, sym, ap, ◌∙◌, arith, refl, Some, None, false}
use Rattle.std.specs.Arc.{arc_value}
use denote.RawPtr.{null_ptr}
use Rattle.atomic_blocks.specs.Cells.{me}
use Rattle.dt_trail.specs.Rule.{Turn, owner, extent_of}
use Rattle.dt_trail.specs.Insides.{row_of, IsOwner}
use Rattle.dt_trail.specs.declared.law.Named.{Named}
use Rattle.dt_trail.specs.Known.{Known, Noted}
use Rattle.dt_trail.specs.Items.{TrailItem}
use Rattle.dt_trail.specs.Limits.{widenings}
use Rattle.dt_trail.proofs.Owning.{owning}
use Rattle.dt_trail.proofs.owner.TrailOwner.widen.Goals as goal

pub invariant_of-self : goal.invariant_of-self
invariant_of-self g c =
    let place = c.self.inside.place in
    let inner = arc_value place.cells in
    let i : IsOwner inner c.self.inside.seat place.door c.self.inside.count place.widened place.width = c.self.invariant in
    let ks : List TrailItem = c.self.inside.seat.me.view.knows in
    let t = i.mine in
    let n = c.note.invariant in
    let row : row_of (arc_value c.note.inside.cells) ≡ row_of inner = ap (λ (k : Noted g.row.K.Denot). k.row) c.note.view_is ∙ (sym c.requires.row ∙ sym (ap (λ (k : Known g.row.K.Denot). k.row) c.self.view_is)) in
    let acc : c.note.inside.seat.me.view.account ≡ Some inner.about.account = ap (λ (m : Turn g.row.K.Denot). m.view.account) n.mine ∙ ap (λ (r : Named g.row.K.Denot). Some r.account) row in
    let x = c.lay_in.ensures in
    let knows : c.self.inside.seat.me.view.knows ≡ ks = ap (λ (m : Turn g.row.K.Denot). m.view.knows) t in
    let cells : c.self.inside.seat.me.view.extent.cells ≡ place.width = ap (λ (m : Turn g.row.K.Denot). m.view.extent.cells) t in
    owning inner c.lay_in.new.right place.door ks c.self.inside.count (place.widened + 1) (place.width + c.args.cells)
    (x.right.0 ∙ (n.rows ∙ ap (λ (r : Named g.row.K.Denot). r.id) row)) refl
    (x.right.2 ∙ (λ j. me (owner (acc j) (knows j) ((ap (λ (m : Turn g.row.K.Denot). m.view.door) t) j) (extent_of (place.widened + 1 + 1) (cells j + c.args.cells) false null_ptr)) None None))
    i.at i.counted (let f = i.full in omega arith) (let f : place.widened < widenings = subst (λ (k : Known g.row.K.Denot). k.widened < widenings) (sym c.self.view_is) c.requires.few in omega arith) (let w = i.wide in let r = c.requires.wide.1 in omega arith)
