-- What the proof of `some_element_holds` is told at its goals.
use Rattle.std.proofs.Common.{refl, sym, ◌∙◌}
use Rattle.std.proofs.lemmas.Bool.{false≢true}
use Rattle.dt_glob.proofs.TokenLemmas.{left_more, left_holds, left_none}
use Rattle.dt_glob.proofs.element.some_element_holds.Goals as goal

pub loop-element-init : goal.loop-element-init
loop-element-init c elements h = record { tail = elements; shows = h; same = (λ k. k, λ k. k) }

pub split_first-requires : goal.split_first-requires
split_first-requires c = let left = c.loop-element.invariant c.requires.0 c.requires.1 in (left.tail, left.shows)

pub returns-then-holds : goal.returns-then-holds
returns-then-holds c elements h =
    let left = c.loop-element.invariant elements h in
    let yes = left_holds c.in-Some.element elements c.loop-element.rest.now c.in-Some.behind.now c.args.byte left
    c.in-Some.ensures.some (c.holds.ensures.0 c.if-holds.true) in
    (λ _. yes, λ _. refl)

pub loop-element-preserved : goal.loop-element-preserved
loop-element-preserved c elements h =
    left_more c.in-Some.element elements c.loop-element.rest.now c.in-Some.behind.now c.args.byte
    (c.loop-element.invariant elements h) c.in-Some.ensures.some
    (λ k. false≢true (sym c.if-holds.false ∙ c.holds.ensures.1 k))

pub returns : goal.returns
returns c elements h =
    let none = left_none elements c.loop-element.rest.now c.args.byte (c.loop-element.invariant elements h)
    c.in_default.ensures.none in
    (λ e. absurd (false≢true e), λ k. absurd (none k))
