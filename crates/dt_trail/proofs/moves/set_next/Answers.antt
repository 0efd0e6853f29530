use Rattle.std.proofs.Common.{sym, ap, ◌∙◌, subst, ◌++◌, [], ◌∷◌, arith, ◌≡◌}
use Rattle.dt_trail.specs.Rule.{appender}
use Rattle.dt_trail.specs.declared.rule.TrailView.{TrailView}
use Rattle.dt_trail.specs.declared.door.Door.{Door}
use Rattle.dt_trail.specs.declared.rule.About.{About}
use Rattle.dt_trail.specs.Items.{TrailItem, whose, code, IsReal, own, StartsWith}
use Rattle.dt_trail.proofs.Uses.{sets_as}
use Rattle.dt_trail.proofs.moves.set_next.Goals as goal

pub store-requires : goal.store-requires
store-requires g c =
    let r = c.requires in let k = c.args.inner.now in let j = c.lend.ensures in
    let v : TrailView g.row.K.Denot = c.args.seat.now.me.view in
    let w : TrailView g.row.K.Denot = c.args.right.now.me.view in
    let is : c.lend.new.seat.me.view ≡ appender v.account v.note v.knows w.knows c.args.door w.extent =
    ap (λ m. m.view) j.seat ∙ ap (λ (d : Door). appender v.account v.note v.knows w.knows d w.extent) r.door.0 in
    let x : TrailItem = g.P.Picked.item in
    let ok = subst (λ (q : About g.row.K.Denot × TrailItem). StartsWith w.knows v.knows → own v.note w.knows ≡ own v.note v.knows → g.L.Law.lawful q.0.account (w.knows ++ q.1 ∷ []))
    (λ i. (sym k.keyed.0 i, sym r.picked i)) r.lawful in (
      j.same.0 ∙ r.seat.0.0,
      j.same.1 ∙ r.seat.0.1,
      r.door.1.placed,
      (let s = r.door.1.small in omega (arith, r.at.0, r.at.1, r.at.2)),
      sets_as g.L.Law.lawful k.rows.key k.about k.keyed.0 _ _ _ _ _ _ _ _ _ x _ (c.code-word.ensures.word ∙ ap code (sym r.picked)) is r.door.1 r.at.0 r.at.1 r.at.2 (ap whose r.picked ∙ r.item) (subst IsReal (sym r.picked) c.code-word.ensures.real) ok,
    )
