use Rattle.std.proofs.Common.{ap, ◌∙◌, arith}
use Rattle.dt_trail.specs.Rule.{Turn}
use Rattle.dt_trail.proofs.Uses.{told_as, learns_as}
use Rattle.dt_trail.proofs.moves.take_in.Goals as goal

pub join_seat-requires : goal.join_seat-requires
join_seat-requires g c =
    let r = c.requires in let k = c.args.inner.now in (
      r.seat.0.0,
      r.seat.0.1,
      r.told.0.0,
      r.told.0.1,
      ap (λ m. m.hand) r.told.1,
      ap (λ m. m.spare) r.told.1,
      k.placed,
      told_as g.L.Law.lawful k.rows.key k.about k.keyed.0 _ _ _ _ (ap (λ m. m.view) r.told.1) r.seat.2,
    )

pub load-requires : goal.load-requires
load-requires g c =
    let r = c.requires in let k = c.args.inner.now in let j = c.join_seat.ensures in
    let not_mine = ap (λ (m : Turn g.row.K.Denot). m.view.owns) j.3 ∙ r.seat.2 in
    (j.0 ∙ r.seat.0.0, j.1 ∙ r.seat.0.1, k.placed, omega arith, learns_as g.L.Law.lawful k.rows.key k.about k.keyed.0 _ _ not_mine)

pub returns-clause-lawful : goal.returns-clause-lawful
returns-clause-lawful g c =
    let t = c.load.ensures.3.0 _ (ap (λ (m : Turn g.row.K.Denot). m.view.account) c.join_seat.ensures.3 ∙ c.requires.seat.1) in g.L.Law.closed _ _ t.0 t.1
