-- Those from the last on have what they have at the seat.
use Rattle.std.proofs.Common.{◌≡◌, ◌≤◌, ◌<◌, ◌+◌, ℕ, length}
use Rattle.std.specs.List.{slice_get}
use Rattle.std.specs.Option.{IfSome}
use Rattle.dt_hub.specs.Hubs.{IsHand}
use Rattle.dt_seat.specs.Keeps.{followed_at}
use Rattle.dt_hub.proofs.making.deal.Given as goal

abbrev pub invariant-processors : goal.invariant-processors
invariant-processors g l = record {
  low : length l.followers.items ≤ length l.fn.followers.items;
  many : length l.hands.items ≡ length l.fn.followers.items;
  left : (cpu : ℕ) → IfSome (slice_get l.followers.items cpu) (λ f. f ≡ followed_at l.fn.seat cpu);
  rest : (cpu : ℕ) → cpu < length l.followers.items → IfSome (slice_get l.hands.items cpu) (λ hand. IsHand l.fn.seat cpu hand.items);
  done : (cpu : ℕ) → length l.followers.items ≤ cpu → IfSome (slice_get l.hands.items cpu) (λ hand. IsHand (l.fn.seat + 1) cpu hand.items);
}

abbrev pub decreases-processors : goal.decreases-processors
decreases-processors g l = length l.followers.items
