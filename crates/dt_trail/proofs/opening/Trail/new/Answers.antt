use Rattle.std.proofs.Common.{ap, sym, ◌∙◌, ◌≡◌, [], ◌+◌, ℕ, Some, None, subst}
use Rattle.std.specs.Arc.{arc_value}
use Rattle.atomic_blocks.specs.Cells.{me}
use Rattle.dt_trail.specs.Rule.{Turn, maker}
use Rattle.dt_trail.specs.Insides.{row_of}
use Rattle.dt_trail.specs.Known.{noted, AreNew}
use Rattle.dt_trail.proofs.Notes.{AreNew-push}
use Rattle.dt_trail.proofs.opening.Trail.new.Goals as goal

pub loop-i-preserved : goal.loop-i-preserved
loop-i-preserved g c =
    let i = c.loop-i.invariant in let e = c.in_ok-note.ensures in
    let n : c.loop-i.maker.me.view.note ≡ c.loop-i.i = ap (λ (m : Turn g.row.K.Denot). m.view.note) i.view in
    record {
      seat = (e.maker.0 ∙ i.seat.0, e.maker.1 ∙ i.seat.1);
      view = e.maker.2 ∙ (λ j. me (maker (Some (arc_value c.in_ok-inner.inner).about.account) (n j + 1) c.in_ok-inner.door ((ap (λ (m : Turn g.row.K.Denot). m.view.extent) i.view) j)) None None);
      notes = subst (AreNew (row_of (arc_value c.in_ok-inner.inner)) (c.loop-i.i + 1)) (sym c.in_ok-push.ensures.items)
          (AreNew-push (row_of (arc_value c.in_ok-inner.inner)) c.loop-i.i _ _ i.notes (e.note ∙ ap (λ (k : ℕ). noted (row_of (arc_value c.in_ok-inner.inner)) k []) n));
    }
