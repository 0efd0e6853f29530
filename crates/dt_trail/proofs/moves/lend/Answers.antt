use Rattle.std.proofs.Common.{◌≡◌, ap, ◌∙◌, sym, subst, None}
use Rattle.atomic_blocks.specs.Cells.{me}
use Rattle.dt_trail.specs.Rule.{Turn, owner}
use Rattle.dt_trail.proofs.Uses.{lends_as}
use Rattle.dt_trail.proofs.moves.lend.Goals as goal

pub join_seat-requires : goal.join_seat-requires
join_seat-requires g c =
    let r = c.requires in let k = c.args.inner.now in
    let told = c.tell-claim.ensures.seat in
    let same : c.replace.result.me ≡ c.args.right.now.me = ap (λ s. s.me) c.replace.ensures.value ∙ told.1 in
    let Right : Turn g.row.K.Denot → Type 0 = λ m. m ≡ me (owner m.view.account m.view.knows m.view.door m.view.extent) None None in
    let right = subst Right (sym same) r.right.1 in (
      r.seat.0.0,
      r.seat.0.1,
      ap (λ s. s.rows) c.replace.ensures.value ∙ (told.0.0 ∙ r.right.0.0),
      ap (λ s. s.heap) c.replace.ensures.value ∙ (told.0.1 ∙ r.right.0.1),
      ap (λ m. m.hand) right,
      ap (λ m. m.spare) right,
      rw (ap (λ q. q.ptr) r.root) k.placed,
      rw (ap (λ q. q.ptr) r.root) (lends_as g.L.Law.lawful k.rows.key k.about k.keyed.0 _ _ _ _ (ap (λ m. m.view) r.seat.1) (ap (λ m. m.view) right)
          (ap (λ m. m.view.account) same ∙ r.right.2)),
    )
