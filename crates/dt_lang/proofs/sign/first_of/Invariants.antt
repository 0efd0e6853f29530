-- What holds at each turn of a loop of `first_of`.
use Rattle.std.proofs.Common.{ℕ, ◌<◌}
use Rattle.std.specs.List.{HoldsAt}
use Rattle.dt_lang.specs.machine.Piece.{BeginsWith}
use Rattle.dt_lang.specs.Spelling.{spelling}
use Rattle.dt_lang.proofs.sign.first_of.Given as goal

abbrev pub invariant-loop-sign : goal.invariant-loop-sign
invariant-loop-sign l = (k : ℕ) → k < l.sign-index → HoldsAt (λ s. BeginsWith l.text (spelling s) → ⊥) l.signs k
