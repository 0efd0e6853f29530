-- The words before the index are added, the others are as they were.
use Rattle.std.proofs.Common.{◌≡◌, ℕ, ◌+◌, ◌%◌, ◌^◌, ◌<◌, ◌≤◌, get_or}
use Rattle.dt_aggfn.proofs.words.add_words.Given as goal

abbrev pub invariant-loop-index : goal.invariant-loop-index
invariant-loop-index l = record {
  added : (k : ℕ) → k < l.index → get_or l.cell k 0 ≡ (get_or l.fn.cell k 0 + get_or l.other k 0) % 2 ^ 64;
  left : (k : ℕ) → l.index ≤ k → get_or l.cell k 0 ≡ get_or l.fn.cell k 0;
}
