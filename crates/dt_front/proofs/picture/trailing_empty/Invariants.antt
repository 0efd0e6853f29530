-- The rows so far, from the last back, are empty.
use Rattle.std.proofs.Common.{◌≡◌, ℕ, ◌-◌, ◌<◌, nat_lt, false, length, get_or}
use Rattle.dt_front.specs.declared.picture.PictureRow.{PictureRow}
use Rattle.dt_front.proofs.picture.trailing_empty.Given as goal

abbrev pub invariant-loop-back : goal.invariant-loop-back
invariant-loop-back l = (k : ℕ) (d : PictureRow) → k < l.back → nat_lt 0 (get_or l.rows (length l.rows - 1 - k) d).count ≡ false
