use Rattle.std.proofs.Common.{◌≡◌, ◌<◌, ◌+◌, ◌++◌, [], ◌∷◌, ℕ, List, length, length-append, sym, ap, ◌∙◌, subst, arith, refl, Some, None, false}
use Rattle.std.specs.Arc.{arc_value}
use denote.RawPtr.{null_ptr}
use Rattle.atomic_blocks.specs.Cells.{me}
use Rattle.dt_trail.specs.Rule.{Turn, owner, extent_of}
use Rattle.dt_trail.specs.Insides.{row_of, IsOwner}
use Rattle.dt_trail.specs.declared.law.Named.{Named}
use Rattle.dt_trail.specs.Known.{Known, Noted}
use Rattle.dt_trail.specs.Items.{TrailItem}
use Rattle.dt_trail.proofs.Owning.{owning}
use Rattle.dt_trail.proofs.owner.TrailOwner.append.Goals as goal

pub invariant_of-self : goal.invariant_of-self
invariant_of-self g c =
    let place = c.self.inside.place in
    let inner = arc_value place.cells in
    let i : IsOwner inner c.self.inside.seat place.door c.self.inside.count place.widened place.width = c.self.invariant in
    let ks : List TrailItem = c.self.inside.seat.me.view.knows in
    let t = i.mine in
    let n = c.note.invariant in
    let row : row_of (arc_value c.note.inside.cells) ≡ row_of inner = ap (λ (k : Noted g.row.K.Denot). k.row) c.note.view_is ∙ (sym c.requires.row ∙ sym (ap (λ (k : Known g.row.K.Denot). k.row) c.self.view_is)) in
    let acc : c.note.inside.seat.me.view.account ≡ Some inner.about.account = ap (λ (m : Turn g.row.K.Denot). m.view.account) n.mine ∙ ap (λ (r : Named g.row.K.Denot). Some r.account) row in
    let x = c.set_next.ensures in let a = c.arrive.ensures in
    let same : c.read_ahead.new.seat.me ≡ c.arrive.new.seat.me = c.read_ahead.ensures.view in
    let extent : c.read_ahead.new.seat.me.view.extent ≡ extent_of (place.widened + 1) place.width false null_ptr = ap (λ (m : Turn g.row.K.Denot). m.view.extent) same ∙ ap (λ (m : Turn g.row.K.Denot). m.view.extent) a.view ∙ ap (λ (m : Turn g.row.K.Denot). m.view.extent) t in
    let knows : c.read_ahead.new.seat.me.view.knows ≡ ks = ap (λ (m : Turn g.row.K.Denot). m.view.knows) same ∙ ap (λ (m : Turn g.row.K.Denot). m.view.knows) a.view ∙ ap (λ (m : Turn g.row.K.Denot). m.view.knows) t in
    let all : List TrailItem = ks ++ c.args.item.now ∷ [] in
    let room : length ks < place.width = subst (λ (k : Known g.row.K.Denot). length k.knows < k.cells) (sym c.self.view_is) c.requires.room in
    owning inner c.set_next.new.right c.arrive.new.door all (c.self.inside.count + 1) place.widened place.width
    (x.right.0 ∙ (n.rows ∙ ap (λ (r : Named g.row.K.Denot). r.id) row)) refl
    (x.right.2 ∙ (λ j. me (owner (acc j) (knows j ++ c.args.item.now ∷ []) c.arrive.new.door (extent j)) None None))
    record { door = a.door.0; low = (let l = a.door.1 in omega arith); high = (let l = a.door.2 in omega arith) }
    (ap (λ (z : ℕ). z + 1) i.counted ∙ sym (length-append ks (c.args.item.now ∷ []))) (let e = i.counted in omega arith) i.few i.wide
