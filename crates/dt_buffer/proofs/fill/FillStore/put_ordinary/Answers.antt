-- An ordinary record is kept, or none from now on.
use Rattle.std.proofs.Common.{refl, inl, inr, arith}
use Rattle.dt_buffer.proofs.Filling.{put_ordinary_kept, put_ordinary_left}
use Rattle.dt_buffer.proofs.fill.FillStore.put_ordinary.Goals as goal
use Rattle.dt_buffer.proofs.fill.FillStore.put_ordinary.Goals.{then-self-via-then-self}
use Rattle.dt_buffer.proofs.fill.FillStore.put_ordinary.Goals.{then-self-via-else-self+then-room-bytes}

pub returns-then-self : goal.returns-then-self
returns-then-self c = λ size reserve ordinary s.
    put_ordinary_left size reserve ordinary c.args.bytes.now c.args.self.now _ s refl refl refl refl refl
    (elim c.then-self.branch [
      | then-self-via-then-self w ↦ inl w.if-self.true
      | then-self-via-else-self+then-room-bytes w ↦
          inr (omega (arith, w.if-room-bytes.true, c.saturating_sub-room.ensures, c.len.ensures))
    ])

pub returns : goal.returns
returns c = λ size reserve ordinary s.
    put_ordinary_kept size reserve ordinary c.args.bytes.now c.args.self.now _ s refl refl refl c.if-self.false
    c.if-self.false
    (rw (
      c.extend_from_slice.ensures.items,
      c.extend_from_slice.ensures.succeeds
          (omega (arith, c.saturating_sub-room.ensures)),
    ) refl)
    (omega (arith, c.saturating_sub-room.ensures, c.len.ensures))
