-- The probes of the words so far are marked.
use Rattle.std.proofs.Common.{◌≡◌, ◌≢◌, ◌&&◌, ℕ, ◌/◌, cond, nat_lt}
use Rattle.dt_machine.specs.Interest.{has_probe}
use Rattle.dt_chain.specs.Listed.{is_listed_for}
use Rattle.dt_chain.proofs.lists.mark.Given as goal

abbrev pub invariant-loop-at : goal.invariant-loop-at
invariant-loop-at l = record {
  own : (probe : ℕ) → is_listed_for l.lists probe l.seat
      ≡ cond (nat_lt (probe / 64) l.at && has_probe l.interest probe) l.is_in (is_listed_for l.initial.lists probe l.seat);
  others : (probe other : ℕ) → other ≢ l.seat → is_listed_for l.lists probe other ≡ is_listed_for l.initial.lists probe other;
}
