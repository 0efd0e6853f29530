-- What the first ECBs leave.
use Rattle.std.proofs.Common.{◌≡◌, ◌+◌, ◌<◌, ◌≤◌, List, length, map, take}
use Rattle.std.specs.List.{All}
use Rattle.dt_lang.specs.Program.{ClauseForm, form_of_clause}
use Rattle.dt_life.specs.laws.Sizes.{end_sizes}
use Rattle.dt_life.proofs.reserve.left_by_end.Given as goal

abbrev pub invariant-loop-ecb : goal.invariant-loop-ecb
invariant-loop-ecb l = record {
  within : l.left ≤ l.size;
  left :
      (clauses : List ClauseForm) → map form_of_clause l.clauses ≡ clauses
      → All (λ ecb. ecb.clause < length clauses) l.ecbs
      → l.left + end_sizes clauses (take l.ecb-index l.ecbs) ≡ l.size;
}
