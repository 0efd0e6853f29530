-- The words so far are empty, but for the first.
use Rattle.std.proofs.Common.{◌≡◌, ℕ, ◌/◌, ◌<◌, false}
use Rattle.dt_chain.specs.Seats.{has}
use Rattle.dt_chain.proofs.seat_set.SeatSet.is_of_first_word.Given as goal

abbrev pub invariant-loop-word : goal.invariant-loop-word
invariant-loop-word l = (seat : ℕ) → 0 < seat / 64 → seat / 64 < l.word → has l.self seat ≡ false
