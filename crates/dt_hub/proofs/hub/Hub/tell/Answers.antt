-- What is to be shown of `tell`.
use Rattle.std.proofs.Common.{◌≡◌, ◌<◌, ℕ, Some, length, refl, sym, ap, ◌∙◌, subst, arith}
use Rattle.std.proofs.lemmas.List.{length-set}
use Rattle.std.proofs.lemmas.Option.{slice_get-get_or}
use Rattle.std.specs.List.{slice_get, slice_set}
use Rattle.dt_hub.proofs.Offers.{get_set_other, get_set_same}
use Rattle.dt_hub.proofs.Places.{at_seat_told}
use Rattle.dt_hub.proofs.hub.Hub.tell.Goals as goal
use Rattle.dt_hub.proofs.Tracks.{all_but_one}
use Rattle.dt_hub.specs.Processors.{IsAtSeat, counts_at, places_in}
use Rattle.dt_seat.specs.Tracked.{AreTracked}
use Rattle.dt_seat.specs.laws.Tracked.{tracked_writes}
use Rattle.dt_life.specs.laws.Lists.{replaced}
use Rattle.dt_life.specs.laws.Options.{some_of}

pub invariant_of-cpu_seat : goal.invariant_of-cpu_seat
invariant_of-cpu_seat g c =
    let inside = c.cpu_seat.inside in
    let n = c.number-at.result in
    let inv = c.cpu_seat.invariant in
    let small : n < length inside.followers.items = omega (arith, inv.seats.many, c.number-at.ensures.small) in
    let is : slice_get inside.followers.items n ≡ Some c.index_mut.result.now =
    slice_get-get_or inside.followers.items n c.index_mut.result.now small ∙ ap (λ f. Some f) (sym c.index_mut.ensures.value) in
    record {
      there = inv.there;
      seats = record {
        many = length-set inside.followers.items n c.tell.new.self ∙ inv.seats.many;
        each = replaced (λ seat. IsAtSeat inside.cpu inside.place seat) inside.followers.items n c.tell.new.self
            (at_seat_told inside.cpu inside.place n c.args.receipt c.index_mut.result.now c.tell.new.self c.tell.ensures.heard
            (some_of (slice_get inside.followers.items n) c.index_mut.result.now (IsAtSeat inside.cpu inside.place n) is (inv.seats.each n)))
            (λ seat other. inv.seats.each seat);
      };
      many = inv.many;
      log_is = inv.log_is;
      places = inv.places;
      tracked = all_but_one g.J.Traced.contents inside.reader.told c.hears_writes.new.reader.told (places_in inside.log.fact) inside.followers.items n
          c.tell.new.self small c.hears_writes.ensures.kept
          (c.tell.ensures.tracked c.hears_writes.new.reader.told (counts_at n (places_in inside.log.fact)) c.hears_writes.ensures.published
          (tracked_writes g.J.Traced.contents inside.reader.told c.hears_writes.new.reader.told (counts_at n (places_in inside.log.fact)) c.index_mut.result.now
          c.hears_writes.ensures.kept
          (some_of (slice_get inside.followers.items n) c.index_mut.result.now
          (AreTracked g.J.Traced.contents inside.reader.told (counts_at n (places_in inside.log.fact))) is (inv.tracked n)))) inv.tracked;
    }

pub returns : goal.returns
returns g c =
    let inside = c.cpu_seat.inside in
    let n = c.number-at.result in
    let value : n ≡ c.args.receipt.seat = c.number-at.ensures.value ∙ c.seat.ensures in
    let inv = c.cpu_seat.invariant in
    let small : n < length inside.followers.items = omega (arith, inv.seats.many, c.number-at.ensures.small) in
    let is : slice_get inside.followers.items n ≡ Some c.index_mut.result.now =
    slice_get-get_or inside.followers.items n c.index_mut.result.now small ∙ ap (λ f. Some f) (sym c.index_mut.ensures.value) in
    rw (← c.cpu_seat.view_is) (record {
      before = c.index_mut.result.now;
      after = c.tell.new.self;
      old_is = subst (λ (k : ℕ). slice_get inside.followers.items k ≡ Some c.index_mut.result.now) value is;
      new_is = subst (λ (k : ℕ). slice_get (slice_set inside.followers.items n c.tell.new.self) k ≡ Some c.tell.new.self) value
          (get_set_same inside.followers.items n c.tell.new.self small);
      told_seat = c.tell.ensures.heard;
      whose = c.tell.ensures.whose;
      others = λ seat other. get_set_other inside.followers.items n seat c.tell.new.self (λ e. other (e ∙ value));
      published = c.hears_writes.ensures.published;
      kept = c.hears_writes.ensures.kept;
      seen = c.hears_writes.ensures.seen;
      cpu = refl;
      place = refl;
      log = refl;
      answers = (refl, refl);
    })
