-- How far a firing was offered.
use Rattle.std.specs.Prelude.{◌≡◌, ◌+◌, ◌++◌, ◌∷◌, ◌&&◌, ℕ, Bool, true, false, List, [], IfSome, IsSome, length, slice_get}
use Rattle.dt_chain.specs.Limits.{seat_count}
use Rattle.dt_chain.specs.Seats.{has, life_at}
use Rattle.dt_chain.specs.Writes.{Write}
use Rattle.dt_chain.specs.declared.seat_mask.SeatMask.{SeatMask}
use Rattle.dt_cred.specs.declared.firing.Firing.{Firing}
use Rattle.dt_facts.specs.declared.fact.Knew.{Knew}
use Rattle.dt_hub.specs.Firings.{ComesToSeat, KnowsPublicationAt}
use Rattle.dt_hub.specs.declared.missed_seats.MissedSeats.{MissedSeats}
use Rattle.dt_hub.specs.Processors.{AreAtSeats, AreTrackedBy, IsAtSeat, counts_at, knew_at_seats}
use Rattle.dt_machine.specs.Registry.{Contents}
use Rattle.dt_seat.specs.Keeps.{Followed}
use Rattle.dt_seat.specs.Tracked.{AreTracked}
use Rattle.dt_seat.specs.declared.held.Held.{Held}

-- whether a seat was missed, as its lock was another's: where none was, what lies in the set means nothing
abbrev pub missed_in : MissedSeats → ℕ → Bool
missed_in missed seat = missed.some && has missed.seats seat

-- A processor, all of whose own firings stood below this one's place at first, has offered this firing to all seats that the mask names but those that are still to come. At
-- those it has what it had at first. At all others it has what the firing came to, its own firings stand below the next place, it knows of the publication of the life that was named,
-- and it keeps track of the lives.
pub record IsOfferedBut (contents : Contents) (firing : Firing) (mask : SeatMask) (seen : List Write) (first : List Followed)
    (to_come : ℕ → Bool) (held : List Held) (now : List Followed) (told : List Write) : Type 0 where
  pub begun : AreAtSeats firing.cpu firing.place first
  pub many : length now ≡ seat_count
  pub answers : length held ≡ seat_count
  pub named : (seat : ℕ) → to_come seat ≡ true → IsSome (life_at mask seat)
  pub untouched : (seat : ℕ) → to_come seat ≡ true → slice_get now seat ≡ slice_get first seat
  pub each : (seat : ℕ) → to_come seat ≡ false → ComesToSeat contents firing mask held first now seat
  pub placed : (seat : ℕ) → to_come seat ≡ false → IfSome (slice_get now seat) (IsAtSeat firing.cpu (firing.place + 1) seat)
  pub published : (seat : ℕ) → to_come seat ≡ false → KnowsPublicationAt contents mask now told seat
  pub tracked : (log : List (List Knew)) → length log ≡ firing.place → AreTrackedBy contents seen log first → (seat : ℕ)
      → to_come seat ≡ false → IfSome (slice_get now seat) (AreTracked contents told (counts_at seat (log ++ knew_at_seats first ∷ [])))
