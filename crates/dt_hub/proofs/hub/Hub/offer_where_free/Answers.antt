-- What is to be shown of `offer_where_free`.
use Rattle.std.proofs.Common.{◌≡◌, ◌<◌, ◌≤◌, ◌==◌, ◌||◌, ℕ, Bool, false, Option, Some, None, length, refl, sym, ap, ◌∙◌, arith, rules, if◌then◌else◌}
use Rattle.std.proofs.lemmas.Option.{slice_get-get_or}
use Rattle.std.specs.Option.{is_some}
use Rattle.std.specs.List.{slice_get}
use Rattle.dt_chain.specs.Limits.{seat_count}
use Rattle.dt_chain.specs.Named.{life_left}
use Rattle.dt_chain.specs.Seats.{life_at}
use Rattle.dt_facts.specs.laws.Beginnings.{prefix_self, prefix_trans}
use Rattle.dt_hub.specs.Offering.{missed_in}
use Rattle.dt_hub.proofs.Rounds.{at_first, first_from, left_missed, left_taken, none_below, none_missed, none_missed_from, offered_more, offered_none, offered_same, same_from}
use Rattle.dt_hub.proofs.hub.Hub.offer_where_free.Goals.{in-Some-try_lock, in_default-try_lock}
use Rattle.dt_hub.proofs.hub.Hub.offer_where_free.Goals as goal

pub seats-init : goal.seats-init
seats-init g c =
    let same : (seat : ℕ) → is_some (life_left c.named-left.result seat) || missed_in c.clear.new.self seat ≡ is_some (life_at c.args.mask.now seat) =
    λ seat. none_missed (life_left c.named-left.result seat) (life_at c.args.mask.now seat) (missed_in c.clear.new.self seat)
    (c.named-left.ensures seat) (c.clear.ensures seat) in
    let answers : length c.args.held.now.items ≡ seat_count = search rules in
    record {
      low = omega arith;
      left_below = λ seat lt. absurd (omega (arith, lt));
      left_from = λ seat le. c.named-left.ensures seat;
      missed_from = λ seat le. c.clear.ensures seat;
      offered = offered_none g.J.Traced.contents c.args.context.now.firing.now c.args.mask.now c.args.reader.now.seen c.args.followers.now.items
          c.args.held.now.items c.args.reader.now.told _ c.requires.script c.requires.look c.requires.seats answers c.requires.reader same;
      seen = refl;
      told = prefix_self c.args.reader.now.told;
    }

pub offer_at-requires-clause-follower : goal.offer_at-requires-clause-follower
offer_at-requires-clause-follower g c =
    let inv = c.seats.invariant in
    let n = c.number-at.result in
    let left : ℕ → Option ℕ = life_left c.seats.left in
    let was_left = ap left c.number-at.ensures.value ∙ c.in-Some.ensures.0 in
    let there : slice_get c.seats.followers.items n ≡ Some c.index_mut.result.now =
    slice_get-get_or c.seats.followers.items n c.index_mut.result.now (omega (arith, inv.offered.many, c.number-at.ensures.small))
    ∙ ap (λ f. Some f) (sym c.index_mut.ensures.value) in
    let at = at_first g.J.Traced.contents c.args.context.now.firing.now c.args.mask.now c.args.reader.now.seen c.args.followers.now.items
    _ c.seats.held.items c.seats.followers.items c.seats.reader.told n c.index_mut.result.now inv.offered
    (ap (λ (o : Option ℕ). is_some o || missed_in c.seats.missed n) was_left) there in
    (at.seat_is ∙ c.number-at.ensures.value, at.cpu_is)

pub offer_at-requires-clause-below : goal.offer_at-requires-clause-below
offer_at-requires-clause-below g c =
    let inv = c.seats.invariant in
    let n = c.number-at.result in
    let left : ℕ → Option ℕ = life_left c.seats.left in
    let was_left = ap left c.number-at.ensures.value ∙ c.in-Some.ensures.0 in
    let there : slice_get c.seats.followers.items n ≡ Some c.index_mut.result.now =
    slice_get-get_or c.seats.followers.items n c.index_mut.result.now (omega (arith, inv.offered.many, c.number-at.ensures.small))
    ∙ ap (λ f. Some f) (sym c.index_mut.ensures.value) in
    (at_first g.J.Traced.contents c.args.context.now.firing.now c.args.mask.now c.args.reader.now.seen c.args.followers.now.items
    _ c.seats.held.items c.seats.followers.items c.seats.reader.told n c.index_mut.result.now inv.offered
    (ap (λ (o : Option ℕ). is_some o || missed_in c.seats.missed n) was_left) there).below

pub seats-preserved : goal.seats-preserved
seats-preserved g c =
    let contents = g.J.Traced.contents in
    let firing = c.args.context.now.firing.now in
    let mask = c.args.mask.now in
    let inv = c.seats.invariant in
    let n = c.number-at.result in
    let value = c.number-at.ensures.value in
    let small = c.number-at.ensures.small in
    let left : ℕ → Option ℕ = life_left c.seats.left in
    let new : ℕ → Option ℕ = life_left c.pop_first.new.self in
    let missed : ℕ → Bool = missed_in c.seats.missed in
    let was_left = ap left value ∙ c.in-Some.ensures.0 in
    let before : (seat : ℕ) → seat < n → left seat ≡ None = λ seat lt. c.in-Some.ensures.1 seat (omega (arith, lt, value)) in
    let taken : (other : ℕ) → new other ≡ (if other == n then None else left other) = λ other. rw value (c.in-Some.ensures.2 other) in
    let le : c.seats.next ≤ n = first_from left c.seats.next n _ was_left inv.left_below in
    let off : missed n ≡ false = inv.missed_from n le in
    record {
      low = omega (arith, small);
      left_below = none_below left new missed n taken before;
      left_from = same_from left new missed n taken (life_at mask) c.seats.next le inv.left_from;
      missed_from = λ seat far. elim c.match-try_lock.branch [
        | in-Some-try_lock w ↦ rw w.missed-is (inv.missed_from seat (omega (arith, far, le)))
        | in_default-try_lock w ↦ rw w.missed-is (none_missed_from missed (missed_in w.add.new.self) n (λ other. rw value (w.add.ensures other)) seat far
            (inv.missed_from seat (omega (arith, far, le))))
      ];
      offered = elim c.match-try_lock.branch [
        | in-Some-try_lock w ↦
            let there : slice_get c.seats.followers.items n ≡ Some w.index_mut.result.now =
            slice_get-get_or c.seats.followers.items n w.index_mut.result.now (omega (arith, inv.offered.many, small))
            ∙ ap (λ f. Some f) (sym w.index_mut.ensures.value) in
            rw (w.held-is, w.followers-is, w.reader-is, w.missed-is)
            (offered_more contents firing mask c.args.reader.now.seen c.args.followers.now.items _ _ c.seats.held.items c.seats.followers.items
            c.seats.reader.told w.offer_at.new.reader.told n _ inv.offered c.requires.script c.requires.look small (sym (inv.left_from n le) ∙ was_left)
            (ap (λ (o : Option ℕ). is_some o || missed n) was_left) (left_taken left new missed n taken off)
            w.offer_at.result w.index_mut.result.now w.offer_at.new.follower there w.offer_at.ensures.held w.offer_at.ensures.own
            w.offer_at.ensures.published (rw inv.seen at w.offer_at.ensures.tracked) w.offer_at.ensures.reader.1)
        | in_default-try_lock w ↦ rw (w.held-is, w.followers-is, w.reader-is, w.missed-is)
            (offered_same contents firing mask c.args.reader.now.seen c.args.followers.now.items _ _ c.seats.held.items c.seats.followers.items
            c.seats.reader.told (left_missed left new missed n taken (missed_in w.add.new.self) _ was_left (λ other. rw value (w.add.ensures other)))
            inv.offered)
      ];
      seen = elim c.match-try_lock.branch [
        | in-Some-try_lock w ↦ rw w.reader-is (w.offer_at.ensures.reader.0 ∙ inv.seen)
        | in_default-try_lock w ↦ rw w.reader-is inv.seen
      ];
      told = elim c.match-try_lock.branch [
        | in-Some-try_lock w ↦ rw w.reader-is (prefix_trans _ _ _ inv.told w.offer_at.ensures.reader.1)
        | in_default-try_lock w ↦ rw w.reader-is inv.told
      ];
    }

pub returns-clause-offered : goal.returns-clause-offered
returns-clause-offered g c =
    let inv = c.seats.invariant in
    offered_same g.J.Traced.contents c.args.context.now.firing.now c.args.mask.now c.args.reader.now.seen c.args.followers.now.items
    _ (missed_in c.seats.missed) c.seats.held.items c.seats.followers.items c.seats.reader.told
    (λ seat. sym (ap (λ (o : Option ℕ). is_some o || missed_in c.seats.missed seat) (c.in_default.ensures.0 seat))) inv.offered
