use Rattle.std.proofs.Common.{sym, ap, subst, ◌∙◌, ◌<◌, arith}
use Rattle.dt_trail.proofs.Uses.{goes_back_as, sees_as}
use Rattle.dt_trail.proofs.again.go_back.Goals as goal

pub load-len-requires : goal.load-len-requires
load-len-requires g c =
    let r = c.requires in let k = c.args.inner.now in
    (r.0, r.1, k.placed, omega arith, goes_back_as g.L.Law.lawful k.rows.key k.about k.keyed.0 _ _)

pub load_link-link-requires : goal.load_link-link-requires
load_link-link-requires g c =
    let r = c.requires in let k = c.args.inner.now in let e = c.load-len.ensures in
    let t = e.3 in (
      e.0 ∙ r.0,
      e.1 ∙ r.1,
      k.placed,
      omega arith,
      sees_as g.L.Law.lawful k.rows.key k.about k.keyed.0 _ _ 0 (subst (λ m. 0 < m.view.door.len) (sym t.4) t.2) (ap (λ m. m.view.door.block) (sym t.4)) (omega arith),
    )
