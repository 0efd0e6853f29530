use Rattle.std.proofs.Common.{ap, sym, ◌∙◌}
use Rattle.dt_trail.specs.declared.inner.Inner.{Inner}
use Rattle.dt_trail.proofs.Uses.{makes_as}
use Rattle.dt_trail.proofs.opening.next_note.Goals as goal

pub split_seat-seat-requires : goal.split_seat-seat-requires
split_seat-seat-requires g c =
    let r = c.requires in let k = c.deref-shared.result.now in let e = sym c.deref-shared.ensures in (
      r.row.0 ∙ ap (λ (i : Inner g.row.K.Denot g.row.L.Denot). i.rows.id) e,
      r.row.1 ∙ ap (λ (i : Inner g.row.K.Denot g.row.L.Denot). i.rows.heap) e,
      k.placed,
      makes_as g.L.Law.lawful k.rows.key k.about k.keyed.0 _ _ _ _ _ _ (ap (λ m. m.view) r.view),
    )
