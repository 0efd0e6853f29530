-- The bytes so far, from the last back, are no newlines.
use Rattle.std.proofs.Common.{◌≡◌, ℕ, ◌-◌, ◌<◌, ◌==◌, false, length, get_or}
use Rattle.dt_names.specs.Bytes.{newline}
use Rattle.dt_front.proofs.refusal.tail_length.Given as goal

abbrev pub invariant-loop-back : goal.invariant-loop-back
invariant-loop-back l = (k d : ℕ) → k < l.back → (get_or l.bytes (length l.bytes - 1 - k) d == newline) ≡ false
