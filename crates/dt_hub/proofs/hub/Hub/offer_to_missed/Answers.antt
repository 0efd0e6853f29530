-- What is to be shown of `offer_to_missed`.
use Rattle.std.proofs.Common.{◌≡◌, ◌<◌, ◌==◌, ℕ, Bool, true, false, Some, sym, ap, ◌∙◌, arith, if◌then◌else◌}
use Rattle.std.proofs.lemmas.Option.{slice_get-get_or}
use Rattle.std.specs.List.{slice_get}
use Rattle.dt_chain.specs.Seats.{has, life_at}
use Rattle.dt_facts.specs.laws.Beginnings.{prefix_trans}
use Rattle.dt_hub.proofs.Rounds.{none_to_come_below, offered_more, offered_same}
use Rattle.dt_hub.proofs.hub.Hub.offer_to_missed.Goals as goal

pub seats-preserved : goal.seats-preserved
seats-preserved g c =
    let contents = g.J.Traced.contents in
    let firing = c.args.context.now.firing.now in
    let mask = c.args.mask.now in
    let inv = c.seats.invariant in
    let n = c.number-at.result in
    let value = c.number-at.ensures.value in
    let small = c.number-at.ensures.small in
    let missed : ℕ → Bool = has c.seats.missed in
    let new : ℕ → Bool = has c.remove.new.self in
    let was : missed n ≡ true = ap missed value ∙ c.in-Some.ensures.0 in
    let before : (seat : ℕ) → seat < n → missed seat ≡ false = λ seat lt. c.in-Some.ensures.1 seat (omega (arith, lt, value)) in
    let taken : (other : ℕ) → new other ≡ (if other == n then false else missed other) = λ other. rw value (c.remove.ensures other) in
    let some = inv.offered c.requires.offered.0 c.requires.offered.1 in
    let there : slice_get c.seats.followers.items n ≡ Some c.index_mut.result.now =
    slice_get-get_or c.seats.followers.items n c.index_mut.result.now (omega (arith, some.many, small)) ∙ ap (λ f. Some f) (sym c.index_mut.ensures.value) in
    record {
      low = omega (arith, small);
      below = none_to_come_below missed new n taken before;
      offered = λ first h.
          offered_more contents firing mask c.args.reader.now.seen first missed new c.seats.held.items c.seats.followers.items c.seats.reader.told
          c.offer_at.new.reader.told n _ (inv.offered first h) c.requires.script c.requires.look small
          (ap (life_at mask) value ∙ sym c.in-Some-life_of.ensures) was taken
          c.offer_at.result c.index_mut.result.now c.offer_at.new.follower there c.offer_at.ensures.held c.offer_at.ensures.own
          c.offer_at.ensures.published (rw inv.seen at c.offer_at.ensures.tracked) c.offer_at.ensures.reader.1;
      seen = c.offer_at.ensures.reader.0 ∙ inv.seen;
      told = prefix_trans _ _ _ inv.told c.offer_at.ensures.reader.1;
    }

pub returns-clause-offered : goal.returns-clause-offered
returns-clause-offered g c = λ first h.
    offered_same g.J.Traced.contents c.args.context.now.firing.now c.args.mask.now c.args.reader.now.seen first (has c.seats.missed) (λ _. false)
    c.seats.held.items c.seats.followers.items c.seats.reader.told (λ seat. sym (c.in_default.ensures seat)) (c.seats.invariant.offered first h)
