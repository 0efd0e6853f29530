-- The last so many have their notes, and the first so many notes are left.
use Rattle.std.proofs.Common.{◌≡◌, ◌<◌, ◌≤◌, ◌+◌, ℕ, length}
use Rattle.std.specs.List.{slice_get}
use Rattle.std.specs.Option.{option_map}
use Rattle.dt_seat.specs.Keeps.{KeptNote, kept}
use Rattle.dt_seat.proofs.notes.hand_out.Given as goal

abbrev pub invariant-notes : goal.invariant-notes
invariant-notes g l = record {
  many : length l.keeps.items ≡ length l.fn.keeps.items;
  new : length l.notes.items ≡ l.left + 1;
  each : (k : ℕ) → k ≤ l.left → slice_get l.notes.items k ≡ slice_get l.fn.notes.items k;
  done : (k : ℕ) → l.left ≤ k → slice_get l.keeps.items k
      ≡ option_map (λ (one : KeptNote). kept (slice_get l.fn.notes.items (k + 1)) one.book) (slice_get l.fn.keeps.items k);
  rest : (k : ℕ) → k < l.left → slice_get l.keeps.items k ≡ slice_get l.fn.keeps.items k;
  low : l.left ≤ length l.fn.keeps.items;
}

abbrev pub decreases-notes : goal.decreases-notes
decreases-notes g l = l.left
