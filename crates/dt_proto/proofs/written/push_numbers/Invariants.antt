-- The first number and those after it so far are added.
use Rattle.std.proofs.Common.{◌≡◌, ℕ, ◌∷◌, ◌++◌, take}
use Rattle.dt_proto.specs.Reply.{numbers_text}
use Rattle.dt_proto.proofs.written.push_numbers.Given as goal

abbrev pub invariant-loop-number : goal.invariant-loop-number
invariant-loop-number l = (first : ℕ) × (l.numbers ≡ first ∷ l.more)
    × (l.line.items ≡ l.fn.line.items ++ numbers_text (first ∷ take l.number-index l.more))
