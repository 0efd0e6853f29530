-- The drops so far were listed.
use Rattle.std.proofs.Common.{◌≡◌, ◌==◌, ℕ, if◌then◌else◌}
use Rattle.dt_alone.specs.Happened.{left_count, only_drops, told_both, told_on}
use Rattle.dt_alone.proofs.listing.list_variables.Given as goal

abbrev pub invariant-loop-drop : goal.invariant-loop-drop
invariant-loop-drop l = record {
  told : (on : ℕ) → told_on on l.happened.items
      ≡ told_both (told_on on l.fn.happened.items) (only_drops (if l.cpu == on then l._drop else 0) 0 0);
  left : left_count l.happened.items ≡ left_count l.fn.happened.items;
}
