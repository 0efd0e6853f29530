-- What holds at each turn of a loop of `skip_blanks`.
use Rattle.std.proofs.Common.{◌≤◌, List, ℕ, length}
use Rattle.dt_lang.specs.Blanks.{SkipsBlanks}
use Rattle.dt_lang.proofs.blanks.skip_blanks.Given as goal

abbrev pub invariant-loop-behind : goal.invariant-loop-behind
invariant-loop-behind l = ((end : List ℕ) → SkipsBlanks l.rest end → SkipsBlanks l.text end)
    × (length l.rest ≤ length l.text)

abbrev pub decreases-loop-behind : goal.decreases-loop-behind
decreases-loop-behind l = length l.rest
