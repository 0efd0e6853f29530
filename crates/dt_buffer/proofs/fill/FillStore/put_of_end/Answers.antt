-- A record of END is kept, or none from now on.
use Rattle.std.proofs.Common.{refl, inl, inr, arith}
use Rattle.dt_buffer.proofs.Filling.{put_end_kept, put_end_left}
use Rattle.dt_buffer.proofs.fill.FillStore.put_of_end.Goals as goal
use Rattle.dt_buffer.proofs.fill.FillStore.put_of_end.Goals.{then-self-via-then-self}
use Rattle.dt_buffer.proofs.fill.FillStore.put_of_end.Goals.{then-self-via-else-self+then-self-len}

pub returns-then-self : goal.returns-then-self
returns-then-self c = λ size reserve ordinary of_end s.
    put_end_left size reserve ordinary of_end c.args.bytes.now c.args.self.now _ s refl refl refl refl refl
    (elim c.then-self.branch [
      | then-self-via-then-self w ↦ inl w.if-self.true
      | then-self-via-else-self+then-self-len w ↦ inr (omega (arith, w.if-self-len.true, w.len.ensures))
    ])

pub returns : goal.returns
returns c = λ size reserve ordinary of_end s.
    put_end_kept size reserve ordinary of_end c.args.bytes.now c.args.self.now _ s refl refl refl c.if-self.false
    c.if-self.false
    (rw (c.extend_from_slice.ensures.items, c.extend_from_slice.ensures.succeeds (omega arith)) refl)
    (omega (arith, c.len.ensures))
