-- A use ends the walk, or the walk goes on.
use Rattle.std.proofs.Common.{◌≡◌, ◌∙◌, ◌++◌, ◌+◌, false, List, sym, ap, subst, take}
use Rattle.dt_ecb.specs.Forms.{form_of_shape}
use Rattle.dt_ecb.specs.Shapes.{IsFirstClash, clashes, any_clash}
use Rattle.dt_ecb.specs.declared.shape.Shape.{Shape}
use Rattle.dt_ecb.proofs.ClashLemmas.{forms, NoneClash, clash_found, none_further, none_at_all}
use Rattle.dt_ecb.proofs.clashes.first_clash.Goals as goal

pub returns-then-is_clashing : goal.returns-then-is_clashing
returns-then-is_clashing c =
    let accepted = c.args.accepted.now.uses.items in
    let uses = c.as_slice-uses.result.now in
    let one = c.index-uses-place.result in
    let place = c.loop-place.place in
    let Found : List Shape → Type 0 = λ xs. IsFirstClash (forms accepted) (forms xs) one.name in
    let Before : List Shape → Type 0 = λ xs. NoneClash (forms accepted) (forms xs) place in
    subst Found c.as_slice-uses.ensures.value
    (clash_found accepted uses place one c.loop-place-test.true c.index-uses-place.is
    (ap (λ (xs : List Shape). clashes (forms xs ++ forms (take place uses)) (form_of_shape one))
    (sym c.deref.ensures.value)
    ∙ sym c.is_clashing.ensures ∙ c.if-is_clashing.true)
    (subst Before (sym c.as_slice-uses.ensures.value) c.loop-place.invariant))

pub loop-place-preserved : goal.loop-place-preserved
loop-place-preserved c =
    let accepted = c.args.accepted.now.uses.items in
    let uses = c.as_slice-uses.result.now in
    let one = c.index-uses-place.result in
    let place = c.loop-place.place in
    let Before : List Shape → Type 0 = λ xs. NoneClash (forms accepted) (forms xs) place in
    let Further : List Shape → Type 0 = λ xs. NoneClash (forms accepted) (forms xs) (place + 1) in
    subst Further c.as_slice-uses.ensures.value
    (none_further accepted uses place one c.loop-place-test.true c.index-uses-place.is
    (ap (λ (xs : List Shape). clashes (forms xs ++ forms (take place uses)) (form_of_shape one))
    (sym c.deref.ensures.value)
    ∙ sym c.is_clashing.ensures ∙ c.if-is_clashing.false)
    (subst Before (sym c.as_slice-uses.ensures.value) c.loop-place.invariant))

pub returns : goal.returns
returns c =
    let accepted = c.args.accepted.now.uses.items in
    let uses = c.as_slice-uses.result.now in
    let place = c.loop-place.place in
    let Before : List Shape → Type 0 = λ xs. NoneClash (forms accepted) (forms xs) place in
    let None_at_all : List Shape → Type 0 = λ xs. any_clash (forms accepted) (forms xs) ≡ false in
    subst None_at_all c.as_slice-uses.ensures.value
    (none_at_all accepted uses place c.loop-place-test.false
    (subst Before (sym c.as_slice-uses.ensures.value) c.loop-place.invariant))
