-- Still to come are the seats that are left, and those that were missed.
use Rattle.std.proofs.Common.{◌≡◌, ◌≤◌, ◌<◌, ◌-◌, ◌||◌, ℕ, None, false}
use Rattle.std.specs.Option.{is_some}
use mathlib.Core.List.{IsPrefix}
use Rattle.dt_chain.specs.Named.{life_left}
use Rattle.dt_chain.specs.Seats.{life_at}
use Rattle.dt_chain.specs.Limits.{seat_count}
use Rattle.dt_hub.specs.Offering.{IsOfferedBut, missed_in}
use Rattle.dt_hub.proofs.hub.Hub.offer_where_free.Given as goal

abbrev pub invariant-seats : goal.invariant-seats
invariant-seats g l = record {
  low : l.next ≤ seat_count;
  left_below : (seat : ℕ) → seat < l.next → life_left l.left seat ≡ None;
  left_from : (seat : ℕ) → l.next ≤ seat → life_left l.left seat ≡ life_at l.mask seat;
  missed_from : (seat : ℕ) → l.next ≤ seat → missed_in l.missed seat ≡ false;
  offered : IsOfferedBut g.J.Traced.contents l.context.firing.now l.mask l.fn.reader.seen l.fn.followers.items
      (λ seat. is_some (life_left l.left seat) || missed_in l.missed seat) l.held.items l.followers.items l.reader.told;
  seen : l.reader.seen ≡ l.fn.reader.seen;
  told : IsPrefix l.fn.reader.told l.reader.told;
}

abbrev pub decreases-seats : goal.decreases-seats
decreases-seats g l = seat_count - l.next
