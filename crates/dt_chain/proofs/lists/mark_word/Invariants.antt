-- The probes that were taken out of the word are marked.
use Rattle.std.proofs.Common.{◌≡◌, ◌≢◌, ◌&&◌, ℕ, ◌%◌, true, not, cond}
use Rattle.dt_machine.specs.BitWord.{has_bit, is_in_word, weight_of}
use Rattle.dt_chain.specs.Listed.{is_listed_for}
use Rattle.dt_chain.proofs.lists.mark_word.Given as goal

abbrev pub invariant-loop-number : goal.invariant-loop-number
invariant-loop-number l = record {
  left : (number : ℕ) → has_bit l.left number ≡ true → has_bit l.fn.word number ≡ true;
  own : (probe : ℕ) → is_listed_for l.lists probe l.seat
      ≡ cond (is_in_word l.at l.fn.word probe && not (has_bit l.left (probe % 64))) l.is_in
      (is_listed_for l.initial.lists probe l.seat);
  others : (probe other : ℕ) → other ≢ l.seat → is_listed_for l.lists probe other ≡ is_listed_for l.initial.lists probe other;
}

abbrev pub decreases-loop-number : goal.decreases-loop-number
decreases-loop-number l = weight_of l.left
