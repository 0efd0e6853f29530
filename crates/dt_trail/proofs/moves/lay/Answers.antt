use Rattle.std.proofs.Common.{sym, ap, ◌∙◌, subst, arith, ◌≡◌, Some, refl, true}
use Rattle.atomic_blocks.specs.Cells.{row_at}
use denote.RawPtr.{Ptr}
use Rattle.dt_trail.specs.Rule.{extent_of, planned_at, HadAll}
use Rattle.dt_trail.specs.declared.rule.TrailView.{TrailView}
use Rattle.dt_trail.specs.declared.rule.Extent.{Extent}
use Rattle.dt_trail.proofs.Uses.{plans_as, widens_as}
use Rattle.dt_trail.proofs.moves.lay.Goals as goal

pub store_link-requires : goal.store_link-requires
store_link-requires g c =
    let r = c.requires in let k = c.args.inner.now in
    (r.seat.0.0, r.seat.0.1, k.placed, omega (arith, r.room.0), plans_as g.L.Law.lawful k.rows.key k.about k.keyed.0 _ _ _ _ r.seat.1 (ap (λ (t : Extent). t.blocks) (sym r.extent)) r.room.0)

pub hold-requires : goal.hold-requires
hold-requires g c =
    let r = c.requires in let s = c.store_link.ensures in
    (r.block.0 ∙ sym (s.1 ∙ r.seat.0.1), ap (λ m. m.spare) s.3 ∙ r.seat.2, r.block.3, r.block.4)

pub store-requires : goal.store-requires
store-requires g c =
    let r = c.requires in let k = c.args.inner.now in let s = c.store_link.ensures in let h = c.hold.ensures in
    let v : TrailView g.row.K.Denot = c.args.seat.now.me.view in
    let is : c.hold.new.self.me.view ≡ planned_at v c.args.link.ptr = ap (λ m. m.view) h.3 ∙ ap (λ m. m.view) s.3 in
    let owns : c.hold.new.self.me.view.owns ≡ true = ap (λ (u : TrailView g.row.K.Denot). u.owns) is ∙ r.seat.1 in
    let extent : c.hold.new.self.me.view.extent ≡ extent_of c.args.blocks v.extent.cells true c.args.link.ptr =
    ap (λ (u : TrailView g.row.K.Denot). u.extent) is ∙ ap (λ (t : Extent). extent_of t.blocks v.extent.cells true c.args.link.ptr) r.extent in
    let carried = ap (λ m. m.spare) h.3 ∙ ap (λ (p : Ptr). Some (row_at p c.args.block.cells)) r.block.1 in (
      h.0 ∙ (s.0 ∙ r.seat.0.0),
      h.1 ∙ (s.1 ∙ r.seat.0.1),
      k.placed,
      omega (arith, r.room.0),
      widens_as g.L.Law.lawful k.rows.key k.about k.keyed.0 _ _ _ _ _ _ _ _ owns extent carried refl r.room.0 r.block.5 r.wide.0 r.wide.1 r.block.2 r.block.6 r.room.1,
    )

pub returns-clause-had : goal.returns-clause-had
returns-clause-had g c l =
    let s = c.store_link.ensures in let h = c.hold.ensures in
    let v : TrailView g.row.K.Denot = c.args.seat.now.me.view in
    let is : c.hold.new.self.me.view ≡ planned_at v c.args.link.ptr = ap (λ m. m.view) h.3 ∙ ap (λ m. m.view) s.3 in
    subst HadAll is (c.store.ensures.3.1 (ap (λ (u : TrailView g.row.K.Denot). u.live) is ∙ l))
