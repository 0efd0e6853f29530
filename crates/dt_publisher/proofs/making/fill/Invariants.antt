-- So many seats have their book and their share.
use Rattle.std.proofs.Common.{◌≡◌, ◌≤◌, ◌+◌, ℕ, [], length}
use Rattle.std.specs.List.{slice_get}
use Rattle.std.specs.Option.{IfSome}
use Rattle.std.specs.Prelude.{vec_capacity}
use Rattle.dt_chain.specs.Limits.{seat_count}
use Rattle.dt_facts.specs.Handles.{making}
use Rattle.dt_publisher.specs.Publishers.{own_writes_held}
use Rattle.dt_publisher.proofs.making.fill.Given as goal

abbrev pub invariant-seats : goal.invariant-seats
invariant-seats l = record {
  books : length l.books.items ≡ l._seat;
  shares : length l.shares.items ≡ l._seat;
  book_room : seat_count ≤ vec_capacity l.books;
  share_room : seat_count ≤ vec_capacity l.shares;
  each_book : (k : ℕ) → IfSome (slice_get l.books.items k) (λ b. b ≡ own_writes_held l.facts l.fn.maker.name [] k);
  each_share : (k : ℕ) → IfSome (slice_get l.shares.items k) (λ s. s ≡ own_writes_held l.facts l.fn.maker.name [] k);
  maker : l.maker ≡ making l.facts (l.fn.maker.name + l._seat);
}
