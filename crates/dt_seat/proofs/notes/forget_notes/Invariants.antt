-- The first so many are without their notes.
use Rattle.std.proofs.Common.{◌≡◌, ◌<◌, ◌≤◌, ℕ, length}
use Rattle.std.specs.List.{slice_get}
use Rattle.std.specs.Option.{option_map}
use Rattle.dt_seat.specs.Keeps.{without_note}
use Rattle.dt_seat.proofs.notes.forget_notes.Given as goal

abbrev pub invariant-keeps : goal.invariant-keeps
invariant-keeps g l = record {
  many : length l.keeps.items ≡ length l.fn.keeps.items;
  done : (k : ℕ) → k < l.cpu → slice_get l.keeps.items k ≡ option_map without_note (slice_get l.fn.keeps.items k);
  rest : (k : ℕ) → l.cpu ≤ k → slice_get l.keeps.items k ≡ slice_get l.fn.keeps.items k;
}
