-- The seat was taken out of all lists, and is put into those of its new interest.
use Rattle.std.proofs.Common.{◌≡◌, ◌≢◌, ℕ, ap, sym, ◌∙◌, arith}
use Rattle.std.proofs.lemmas.List.{with_items_is}
use Rattle.std.specs.Vec.{with_items}
use Rattle.dt_machine.specs.Interest.{has_probe}
use Rattle.dt_chain.specs.Listed.{is_listed_for}
use Rattle.dt_chain.proofs.Agreeing.{agree_after, put_in}
use Rattle.dt_chain.proofs.lists.Lists.set.Goals as goal

pub invariant_of-self-clause-agree : goal.invariant_of-self-clause-agree
invariant_of-self-clause-agree c = λ probe seat.
    let old = c.clear.new.self in
    let at = c.number.result in
    let here : at ≡ c.args.seat = c.number.ensures.value in
    let full = c.clear.ensures.full_stays c.requires in
    let kept : (with_items old.by_probe c.mark.new.lists).items ≡ c.mark.new.lists =
    with_items_is old.by_probe c.mark.new.lists (omega arith) in
    let same : c.as_mut_slice.result.now ≡ old.by_probe.items = c.as_mut_slice.ensures.value in
    let own : (p : ℕ) → is_listed_for c.mark.new.lists p at ≡ has_probe c.args.interest.now p =
    λ p.
    ap (is_listed_for c.mark.new.lists p) here ∙ c.mark.ensures.own p
    ∙ put_in (has_probe c.args.interest.now p) _
    (ap (λ lists. is_listed_for lists p c.args.seat) same ∙ c.clear.ensures.own p) in
    let others : (p other : ℕ) → other ≢ at → is_listed_for c.mark.new.lists p other ≡ is_listed_for old.by_probe.items p other =
    λ p other ne. c.mark.ensures.others p other (λ e. ne (e ∙ sym here)) ∙ ap (λ lists. is_listed_for lists p other) same in
    ap (λ lists. is_listed_for lists probe seat) kept
    ∙ agree_after old.by_probe.items c.mark.new.lists old.by_seat.items at c.args.interest.now (omega (arith, full.seats, c.number.ensures.small)) own others
    old.agree probe seat
