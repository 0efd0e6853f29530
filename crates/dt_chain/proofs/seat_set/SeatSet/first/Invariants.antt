-- The words so far are empty.
use Rattle.std.proofs.Common.{◌≡◌, ℕ, ◌/◌, ◌<◌, false}
use Rattle.dt_chain.specs.Seats.{has}
use Rattle.dt_chain.proofs.seat_set.SeatSet.first.Given as goal

abbrev pub invariant-loop-word : goal.invariant-loop-word
invariant-loop-word l = (seat : ℕ) → seat / 64 < l.word → has l.self seat ≡ false
