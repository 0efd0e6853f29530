-- A mask names no seat where none is in its set.
use Rattle.std.proofs.Common.{◌≡◌, ℕ, Bool, true, false, cond, Some, None, refl, ap, slice_index}
use Rattle.dt_chain.proofs.seat_mask.SeatMask.is_empty.Goals as goal

unnamed : (b : Bool) (life : ℕ) → cond b (Some life) None ≡ None → b ≡ false
unnamed true life e = cc
unnamed false life e = refl

pub returns : goal.returns
returns c = (
  λ empty seat. ap (λ b. cond b (Some (slice_index c.args.self.now.lives seat)) None)
      (c.is_empty.ensures.0 empty seat),
  λ none. c.is_empty.ensures.1 (λ seat. unnamed _ _ (none seat)),
)
