-- What holds at each turn of a loop of `run`.
use Rattle.std.proofs.Common.{◌≡◌, ℕ, ◌<◌, true, get_or}
use Rattle.dt_lang.specs.Class.{members}
use Rattle.dt_lang.proofs.byte_class.ByteClass.run.Given as goal

abbrev pub invariant-loop-len : goal.invariant-loop-len
invariant-loop-len l = (k : ℕ) → k < l.len → members l.self (get_or l.text k 0) ≡ true
