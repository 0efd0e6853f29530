-- What is to be shown of `meet`.
use Rattle.std.proofs.Common.{◌≡◌, ◌<◌, ◌+◌, ℕ, Some, length, refl, sym, ap, ◌∙◌, subst, arith}
use Rattle.std.proofs.lemmas.List.{length-set}
use Rattle.std.proofs.lemmas.Option.{slice_get-get_or}
use Rattle.std.specs.List.{slice_get, slice_set}
use Rattle.dt_hub.proofs.Offers.{get_set_other, get_set_same}
use Rattle.dt_hub.proofs.Places.{at_seat_met}
use Rattle.dt_hub.proofs.Tracks.{all_but_one, counts_length}
use Rattle.dt_hub.proofs.hub.Hub.meet.Goals as goal
use Rattle.dt_hub.specs.Processors.{IsAtSeat, counts_at, places_in}
use Rattle.dt_life.specs.laws.Lists.{replaced}
use Rattle.dt_life.specs.laws.Options.{some_of}
use Rattle.dt_meeting.specs.Sharing.{IsShared}
use Rattle.dt_seat.specs.Keeps.{noted_of}
use Rattle.dt_seat.specs.Tracked.{AreTracked}
use Rattle.dt_trail.specs.Items.{own}

pub invariant_of-cpu_seat : goal.invariant_of-cpu_seat
invariant_of-cpu_seat g c =
    let inside = c.cpu_seat.inside in
    let n = c.number-at.result in
    let inv = c.cpu_seat.invariant in
    let log = places_in inside.log.fact in
    let new = c.meet_at.new.follower in
    let made = c.meet_at.ensures in
    let small : n < length inside.followers.items = omega (arith, inv.seats.many, c.number-at.ensures.small) in
    let is : slice_get inside.followers.items n ≡ Some c.index_mut.result.now =
    slice_get-get_or inside.followers.items n c.index_mut.result.now small ∙ ap (λ f. Some f) (sym c.index_mut.ensures.value) in
    let at = some_of (slice_get inside.followers.items n) c.index_mut.result.now (IsAtSeat inside.cpu inside.place n) is (inv.seats.each n) in
    record {
      there = inv.there;
      seats = record {
        many = length-set inside.followers.items n new ∙ inv.seats.many;
        each = replaced (λ seat. IsAtSeat inside.cpu inside.place seat) inside.followers.items n new
            (at_seat_met inside.cpu inside.place n c.meet_at.new.session.life c.index_mut.result.now new c.meet_at.new.session.knows made.carried made.whole
            made.own_firings at)
            (λ seat other. inv.seats.each seat);
      };
      many = inv.many;
      log_is = inv.log_is;
      places = inv.places;
      tracked = all_but_one g.J.Traced.contents inside.reader.told c.meet_at.new.reader.told log inside.followers.items n new small made.reader.1
          (made.tracked (counts_at n log)
          (some_of (slice_get inside.followers.items n) c.index_mut.result.now (AreTracked g.J.Traced.contents inside.reader.told (counts_at n log)) is
          (inv.tracked n))) inv.tracked;
    }

pub returns : goal.returns
returns g c =
    let contents = g.J.Traced.contents in
    let inside = c.cpu_seat.inside in
    let n = c.number-at.result in
    let inv = c.cpu_seat.invariant in
    let log = places_in inside.log.fact in
    let session = c.meet_at.new.session in
    let new = c.meet_at.new.follower in
    let made = c.meet_at.ensures in
    let value : n ≡ session.seat = c.number-at.ensures.value ∙ c.seat.ensures ∙ sym made.session.same.0 in
    let small : n < length inside.followers.items = omega (arith, inv.seats.many, c.number-at.ensures.small) in
    let is : slice_get inside.followers.items n ≡ Some c.index_mut.result.now =
    slice_get-get_or inside.followers.items n c.index_mut.result.now small ∙ ap (λ f. Some f) (sym c.index_mut.ensures.value) in
    let at = some_of (slice_get inside.followers.items n) c.index_mut.result.now (IsAtSeat inside.cpu inside.place n) is (inv.seats.each n) in
    let shared = made.shared (counts_at n log)
    (some_of (slice_get inside.followers.items n) c.index_mut.result.now (AreTracked contents inside.reader.told (counts_at n log)) is (inv.tracked n)) in
    rw (← c.cpu_seat.view_is) (record {
      session = made.session;
      processor = record {
        before = c.index_mut.result.now;
        after = new;
        old_is = subst (λ (k : ℕ). slice_get inside.followers.items k ≡ Some c.index_mut.result.now) value is;
        new_is = subst (λ (k : ℕ). slice_get (slice_set inside.followers.items n new) k ≡ Some new) value (get_set_same inside.followers.items n new small);
        over = made.over;
        whose = made.whose;
        known = made.known;
        noted = made.noted;
        own_firings = subst (λ (p : ℕ). own (p + 1) session.knows ≡ own (p + 1) (noted_of session.life c.index_mut.result.now)) at.cpu_is made.own_firings;
        begins = made.begins;
        carries = made.carried;
        others = λ seat other. get_set_other inside.followers.items n seat new (λ e. other (e ∙ value));
        told = made.reader.1;
        published = made.reader.2;
        seen = made.reader.0;
        cpu = refl;
        place = refl;
        log = refl;
        answers = (refl, refl);
      };
      row = shared.0;
      shared = subst (λ (k : ℕ). IsShared session.account contents inside.cpu session.knows (counts_at k log session.life) shared.0) value
          (subst (λ (p : ℕ). IsShared session.account contents p session.knows (counts_at n log session.life) shared.0) at.cpu_is shared.1);
      places = counts_length session.seat log session.life ∙ inv.places;
    })
