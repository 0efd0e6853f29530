-- What holds at each turn of a loop of `behind_comment`.
use Rattle.std.proofs.Common.{◌≤◌, length}
use Rattle.dt_lang.specs.laws.Comments.{Before}
use Rattle.dt_lang.proofs.blanks.behind_comment.Given as goal

abbrev pub invariant-loop-behind : goal.invariant-loop-behind
invariant-loop-behind l = Before l.text l.rest × (length l.rest ≤ length l.text)

abbrev pub decreases-loop-behind : goal.decreases-loop-behind
decreases-loop-behind l = length l.rest
