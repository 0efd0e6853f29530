-- Still to come are the seats that were missed and weren't come back to.
use Rattle.std.proofs.Common.{◌≡◌, ◌≤◌, ◌<◌, ◌-◌, ℕ, List, false}
use mathlib.Core.List.{IsPrefix}
use Rattle.dt_chain.specs.Seats.{has}
use Rattle.dt_chain.specs.Limits.{seat_count}
use Rattle.dt_hub.specs.Offering.{IsOfferedBut}
use Rattle.dt_seat.specs.Keeps.{Followed}
use Rattle.dt_hub.proofs.hub.Hub.offer_to_missed.Given as goal

abbrev pub invariant-seats : goal.invariant-seats
invariant-seats g l = let firing = l.context.firing.now in record {
  low : l.next ≤ seat_count;
  below : (seat : ℕ) → seat < l.next → has l.missed seat ≡ false;
  offered : (first : List Followed)
      → IsOfferedBut g.J.Traced.contents firing l.mask l.fn.reader.seen first (has l.fn.missed) l.fn.held.items l.fn.followers.items l.fn.reader.told
      → IsOfferedBut g.J.Traced.contents firing l.mask l.fn.reader.seen first (has l.missed) l.held.items l.followers.items l.reader.told;
  seen : l.reader.seen ≡ l.fn.reader.seen;
  told : IsPrefix l.fn.reader.told l.reader.told;
}

abbrev pub decreases-seats : goal.decreases-seats
decreases-seats g l = seat_count - l.next
