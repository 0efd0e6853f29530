-- What is to be shown of `fire`.
use Rattle.std.proofs.Common.{rules, ◌≡◌, ◌+◌, ℕ, List, [], ◌∷◌, ◌++◌, Some, None, length, ap, sym, ◌∙◌, subst}
use Rattle.std.specs.List.{slice_get}
use mathlib.Core.List.{IsPrefix}
use Rattle.dt_chain.specs.Chains.{IsMaskAfter}
use Rattle.dt_chain.specs.Seats.{life_at}
use Rattle.dt_chain.specs.Writes.{Write}
use Rattle.dt_cred.specs.declared.firing.Firing.{Firing}
use Rattle.dt_facts.specs.Handles.{HeldFact}
use Rattle.dt_facts.specs.laws.Beginnings.{prefix_self}
use Rattle.dt_hub.proofs.Publications.{known_unnamed}
use Rattle.dt_hub.proofs.Tracks.{all_writes, counts_said, log_longer, passed_at}
use Rattle.dt_hub.proofs.hub.Hub.fire.Goals as goal
use Rattle.dt_hub.proofs.hub.Hub.fire.Goals.{then-not-is_empty, else-not-is_empty}
use Rattle.dt_hub.proofs.Places.{at_seat_next}
use Rattle.dt_hub.specs.Processors.{AreAtSeats, AreTrackedBy, IsAtSeat, knew_at_seats, places_in}
use Rattle.dt_life.specs.laws.Options.{if_some_map}
use Rattle.dt_machine.specs.Registry.{firing_at}

pub context_of-context-requires : goal.context_of-context-requires
context_of-context-requires g c =
    let contents = g.J.Traced.contents in
    let firing = c.in-Some.firing.now in
    let script : firing_at contents.scripts firing.cpu firing.place ≡ Some firing = search rules in
    search rules

pub invariant_of-cpu_seat-2 : goal.invariant_of-cpu_seat-2
invariant_of-cpu_seat-2 g c =
    let contents = g.J.Traced.contents in
    let inside = c.cpu_seat.inside in
    let inv = c.cpu_seat.invariant in
    let firing = c.in-Some.firing.now in
    let start = inside.followers.items in
    let log = places_in inside.log.fact in
    let reader = c.look.new.reader in
    let more : places_in c.note_down.new.log.fact ≡ log ++ knew_at_seats start ∷ [] = ap (λ (h : HeldFact). places_in h.fact) c.note_down.ensures in
    let counted : length (places_in c.note_down.new.log.fact) ≡ inside.place + 1 = log_longer log (knew_at_seats start) (places_in c.note_down.new.log.fact) inside.place
    more inv.places in
    let cpu_is : firing.cpu ≡ inside.cpu = search rules in
    let place_is : firing.place ≡ inside.place = search rules in
    let script : firing_at contents.scripts firing.cpu firing.place ≡ Some firing = search rules in
    let all : reader.told ≡ reader.seen = c.in-Ok.ensures.all in
    let before : AreTrackedBy contents reader.seen log start =
    all_writes contents inside.reader.told reader.seen log start c.in-Ok.ensures.told inv.tracked in
    elim c.if-not-is_empty.branch [
      | then-not-is_empty w ↦
          let same : w.context_of-context.result.firing.now ≡ firing = search rules in
          rw w.cpu_seat-inside-is (record {
            there = inv.there;
            seats = rw (same, cpu_is, place_is) at w.offer_to_named.ensures.seats;
            many = search rules;
            log_is = search rules;
            places = counted;
            tracked = rw more (w.offer_to_named.ensures.tracked log
                (inv.places ∙ sym place_is ∙ ap (λ (f : Firing). f.place) (sym same)) before);
          })
      | else-not-is_empty w ↦ rw w.cpu_seat-inside-is (record {
        there = inv.there;
        seats = record {
          many = inv.seats.many;
          each = λ seat. if_some_map (IsAtSeat inside.cpu inside.place seat) (IsAtSeat inside.cpu (inside.place + 1) seat) (slice_get start seat)
              (at_seat_next inside.cpu inside.place seat) (inv.seats.each seat);
        };
        many = inv.many;
        log_is = search rules;
        places = counted;
        tracked =
            let look : IsMaskAfter contents.registry reader.seen firing c.look.new.self = c.in-Ok.ensures.mask in
            let begun : AreAtSeats firing.cpu firing.place start = rw (cpu_is, place_is) inv.seats in
            let unnamed : (seat : ℕ) → life_at c.look.new.self seat ≡ None = rw c.mask.ensures at (c.is_empty.ensures.0 w.if-not-is_empty.false) in
            rw more (λ seat. passed_at contents reader.seen firing c.look.new.self start log script look (inv.places ∙ sym place_is) begun before reader.told
            (subst (λ (l : List Write). IsPrefix reader.seen l) (sym all) (prefix_self reader.seen)) seat (unnamed seat));
      })
    ]

pub returns : goal.returns
returns g c =
    let contents = g.J.Traced.contents in
    let inside = c.cpu_seat.inside in
    let log = places_in inside.log.fact in
    let counts = counts_said contents inside.reader.told log inside.followers.items c.cpu_seat.invariant.tracked in
    elim c.if-not-is_empty.branch [
      | then-not-is_empty w ↦ rw (← c.cpu_seat.view_is, w.cpu_seat-inside-is) (record {
        firing = c.in-Some.firing.now;
        looks = search rules;
        cpu = search rules;
        next = search rules;
        log = search rules;
        each = search rules;
        published = search rules;
        counts = counts;
      })
      | else-not-is_empty w ↦ rw (← c.cpu_seat.view_is, w.cpu_seat-inside-is) (record {
        firing = c.in-Some.firing.now;
        looks = search rules;
        cpu = search rules;
        next = search rules;
        log = search rules;
        each = search rules;
        published =
            let unnamed : (seat : ℕ) → life_at c.look.new.self seat ≡ None = rw c.mask.ensures at (c.is_empty.ensures.0 w.if-not-is_empty.false) in
            λ seat. known_unnamed contents c.look.new.self seat inside.followers.items c.look.new.reader.told (unnamed seat);
        counts = counts;
      })
    ]
