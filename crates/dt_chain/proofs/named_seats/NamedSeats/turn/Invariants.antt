-- Of the word that one is at nothing is left, and what is to come stays the same.
use Rattle.std.proofs.Common.{◌≡◌, ℕ, ◌+◌, ◌<◌, false}
use Rattle.dt_machine.specs.BitWord.{has_bit}
use Rattle.dt_chain.specs.Named.{is_to_come}
use Rattle.dt_chain.proofs.named_seats.NamedSeats.turn.Given as goal

abbrev pub invariant-loop-word : goal.invariant-loop-word
invariant-loop-word l = record {
  mask : l.self.mask ≡ l.fn.self.mask;
  at : l.self.word + 1 ≡ l.word;
  empty : (place : ℕ) → place < 64 → has_bit l.self.left place ≡ false;
  same : (seat : ℕ) → is_to_come l.self.mask.now.seats.words l.self.word l.self.left seat
      ≡ is_to_come l.fn.self.mask.now.seats.words l.fn.self.word l.fn.self.left seat;
}
