-- The seat is taken out of the lists in which its interest says that it stands.
use Rattle.std.proofs.Common.{◌≡◌, ◌≢◌, ℕ, ◌<◌, ◌≤◌, length, ap, sym, ◌∙◌, arith, ⊎_elim}
use Rattle.std.proofs.lemmas.Bool.{cases_lt, false≢true}
use Rattle.std.proofs.lemmas.List.{with_items_is}
use Rattle.std.specs.Vec.{with_items}
use Rattle.dt_machine.specs.Interest.{has_probe}
use Rattle.dt_chain.specs.Listed.{is_listed_for, is_interested}
use Rattle.dt_chain.specs.Seats.{has}
use Rattle.dt_chain.proofs.Agreeing.{interest_at, agree_after, taken_out}
use Rattle.dt_chain.proofs.Listing.{flag_at-past}
use Rattle.dt_chain.proofs.lists.Lists.clear.Goals as goal

pub mark-requires : goal.mark-requires
mark-requires c = λ probe up.
    let old = c.args.self.now in
    let at = c.number-at.result in
    let interested : is_interested old.by_seat.items at probe ≡ has_probe c.index.result.now probe =
    interest_at old.by_seat.items at probe c.index.result.now (omega arith) c.index.ensures in
    ⊎_elim
    (λ (within : probe < length old.by_probe.items). omega (arith, within, ap length c.as_mut_slice.ensures.value))
    (λ (past : length old.by_probe.items ≤ probe).
    absurd (false≢true (sym (flag_at-past (λ seats. has seats at) old.by_probe.items probe past)
    ∙ old.agree probe at ∙ interested ∙ up)))
    (cases_lt probe (length old.by_probe.items))

pub invariant_of-self-clause-agree : goal.invariant_of-self-clause-agree
invariant_of-self-clause-agree c = λ probe seat.
    let old = c.args.self.now in
    let at = c.number-at.result in
    let here : at ≡ c.args.seat = c.number-at.ensures.value in
    let kept : (with_items old.by_probe c.mark.new.lists).items ≡ c.mark.new.lists =
    with_items_is old.by_probe c.mark.new.lists (omega arith) in
    let same : c.as_mut_slice.result.now ≡ old.by_probe.items = c.as_mut_slice.ensures.value in
    let own : (p : ℕ) → is_listed_for c.mark.new.lists p at ≡ has_probe c.new.result p =
    λ p.
    ap (is_listed_for c.mark.new.lists p) here ∙ c.mark.ensures.own p
    ∙ taken_out (has_probe c.index.result.now p) _
    (ap (λ lists. is_listed_for lists p c.args.seat) same ∙ ap (is_listed_for old.by_probe.items p) (sym here) ∙ old.agree p at
    ∙ interest_at old.by_seat.items at p c.index.result.now (omega arith) c.index.ensures)
    ∙ sym (c.new.ensures p) in
    let others : (p other : ℕ) → other ≢ at → is_listed_for c.mark.new.lists p other ≡ is_listed_for old.by_probe.items p other =
    λ p other ne. c.mark.ensures.others p other (λ e. ne (e ∙ sym here)) ∙ ap (λ lists. is_listed_for lists p other) same in
    ap (λ lists. is_listed_for lists probe seat) kept
    ∙ agree_after old.by_probe.items c.mark.new.lists old.by_seat.items at c.new.result (omega arith) own others old.agree
    probe seat

pub returns-clause-own : goal.returns-clause-own
returns-clause-own c = λ probe.
    let old = c.args.self.now in
    let at = c.number-at.result in
    let here : at ≡ c.args.seat = c.number-at.ensures.value in
    let kept : (with_items old.by_probe c.mark.new.lists).items ≡ c.mark.new.lists =
    with_items_is old.by_probe c.mark.new.lists (omega arith) in
    let same : c.as_mut_slice.result.now ≡ old.by_probe.items = c.as_mut_slice.ensures.value in
    ap (λ lists. is_listed_for lists probe c.args.seat) kept ∙ c.mark.ensures.own probe
    ∙ taken_out (has_probe c.index.result.now probe) _
    (ap (λ lists. is_listed_for lists probe c.args.seat) same ∙ ap (is_listed_for old.by_probe.items probe) (sym here)
    ∙ old.agree probe at
    ∙ interest_at old.by_seat.items at probe c.index.result.now (omega arith) c.index.ensures)
