-- The failed draws so far were listed.
use Rattle.std.proofs.Common.{◌≡◌, ℕ}
use Rattle.dt_alone.specs.Happened.{left_count, only_drops, told_both, told_on}
use Rattle.dt_alone.proofs.listing.list_draws.Given as goal

abbrev pub invariant-loop-draw : goal.invariant-loop-draw
invariant-loop-draw l = record {
  told : (on : ℕ) → told_on on l.happened.items ≡ told_both (told_on on l.fn.happened.items) (only_drops 0 0 l._draw);
  left : left_count l.happened.items ≡ left_count l.fn.happened.items;
}
