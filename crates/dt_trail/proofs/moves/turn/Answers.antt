use Rattle.std.proofs.Common.{sym, ap, ◌∙◌, subst, arith, ◌<◌, ◌+◌, ◌≢◌}
use Rattle.atomic_blocks.specs.Cells.{step}
use Rattle.dt_trail.specs.Rule.{Turn}
use Rattle.dt_trail.proofs.Uses.{turns_as, sees_as, turned}
use Rattle.dt_trail.proofs.moves.turn.Goals as goal

pub load-len-requires : goal.load-len-requires
load-len-requires g c =
    let r = c.requires in let k = c.args.inner.now in let near = r.door.1.near in
    (r.seat.0.0, r.seat.0.1, k.placed, omega arith, turns_as g.L.Law.lawful k.rows.key k.about k.keyed.0 _ _ _ r.door.0 r.door.1)

pub load_link-link-requires : goal.load_link-link-requires
load_link-link-requires g c =
    let r = c.requires in let k = c.args.inner.now in let e = c.load-len.ensures in
    let some : c.load-len.result ≢ 0 = c.if-len-eq0.false in
    let t = turned g.L.Law.lawful (step 0 c.args.inner.now.about.root.ptr (c.args.door.block + 1) 0 0) c.args.seat.now.me c.load-len.result c.load-len.new.seat.me some e.3 in
    let near = t.4 in (
      e.0 ∙ r.seat.0.0,
      e.1 ∙ r.seat.0.1,
      k.placed,
      omega arith,
      sees_as g.L.Law.lawful k.rows.key k.about k.keyed.0 _ _ _ (subst (λ m. 0 < m.view.door.len) (sym t.5) (omega arith)) (ap (λ m. m.view.door.block) (sym t.5)) near,
    )

pub returns-then-len-eq0-clause-lawful : goal.returns-then-len-eq0-clause-lawful
returns-then-len-eq0-clause-lawful g c = let t = c.load-len.ensures.3.0 _ c.requires.seat.1 in g.L.Law.closed _ _ t.0 t.1

pub returns-clause-lawful : goal.returns-clause-lawful
returns-clause-lawful g c = let t = c.load-len.ensures.3.0 _ c.requires.seat.1 in
    subst (λ (m : Turn g.row.K.Denot). g.L.Law.lawful c.args.inner.now.about.account m.view.knows) (sym c.load_link-link.ensures.3.0) (g.L.Law.closed _ _ t.0 t.1)
