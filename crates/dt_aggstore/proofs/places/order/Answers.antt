-- The first place at which parts differ decides, or at which both have none.
use Rattle.std.proofs.Common.{◌≡◌, ℕ, ◌+◌, ◌<◌, get_or, drop, length, List, refl, sym, ap, ◌∙◌, arith}
use Rattle.std.specs.Prelude.{Option}
use Rattle.std.specs.Ordering.{is_ne}
use Rattle.std.proofs.lemmas.Bool.{false≢true}
use Rattle.dt_aggstore.specs.Keys.{key_cmp}
use Rattle.dt_aggstore.specs.Shares.{part_told, parts_told}
use Rattle.dt_aggstore.specs.declared.key.KeyPart.{KeyPart}
use Rattle.dt_aggstore.specs.declared.part_share.PartShare.TheVariants.{Nothing}
use Rattle.dt_aggstore.specs.declared.part_share.PartShare.{PartShare}
use Rattle.dt_aggstore.proofs.Parts.{both_end, later_decide, none_past, parts_decide, then_parts, told_from}
use Rattle.dt_aggstore.proofs.places.order.Goals as goal
use Rattle.dt_aggstore.proofs.places.order.Goals.{then-is_ne-via-then-is_ne, then-is_ne-via-else-is_ne+then-is_nothing}

pub loop-place-init : goal.loop-place-init
loop-place-init c = refl

module _ (one other : List PartShare) (same : length one ≡ length other) (place : ℕ) (small : place < length one)
    (so_far : key_cmp (parts_told one) (parts_told other)
    ≡ key_cmp (parts_told (drop place one)) (parts_told (drop place other))) where
  abbrev Part : Option KeyPart
  Part = part_told (get_or one place Nothing)

  abbrev Other-part : Option KeyPart
  Other-part = part_told (get_or other place Nothing)

  -- the keys are ordered as what they have from a place on
  by_parts : key_cmp (parts_told one) (parts_told other)
      ≡ key_cmp (then_parts Part (parts_told (drop (place + 1) one)))
      (then_parts Other-part (parts_told (drop (place + 1) other)))
  by_parts =
      so_far
      ∙ (λ i. key_cmp (told_from one place Nothing small i)
      (told_from other place Nothing (omega (arith, small, same)) i))

pub returns-then-is_ne : goal.returns-then-is_ne
returns-then-is_ne c =
    let first = c.args.one.now in
    let second = c.args.other.now in
    let place = c.loop-place.place in
    let parts = by_parts first second c.requires place c.loop-place-test.true c.loop-place.invariant in
    let later = parts_told (drop (place + 1) first) in
    let other_later = parts_told (drop (place + 1) second) in
    let one = part_told (get_or first place Nothing) in
    let two = part_told (get_or second place Nothing) in
    c.order-order.ensures
    ∙ (elim c.then-is_ne.branch [
      | then-is_ne-via-then-is_ne w ↦
          parts_decide one two later other_later (sym (ap is_ne c.order-order.ensures) ∙ sym c.is_ne.ensures ∙ w.if-is_ne.true)
      | then-is_ne-via-else-is_ne+then-is_nothing w ↦
          both_end one two later other_later (sym (ap is_ne c.order-order.ensures) ∙ sym c.is_ne.ensures ∙ w.if-is_ne.false)
          (w.is_nothing.ensures.0 w.if-is_nothing.true)
    ])
    ∙ sym parts

pub loop-place-preserved : goal.loop-place-preserved
loop-place-preserved c =
    let first = c.args.one.now in
    let second = c.args.other.now in
    let place = c.loop-place.place in
    by_parts first second c.requires place c.loop-place-test.true c.loop-place.invariant
    ∙ later_decide (part_told (get_or first place Nothing)) (part_told (get_or second place Nothing))
    (parts_told (drop (place + 1) first)) (parts_told (drop (place + 1) second))
    (sym (ap is_ne c.order-order.ensures) ∙ sym c.is_ne.ensures ∙ c.if-is_ne.false)
    (λ none. false≢true (sym c.if-is_nothing.false ∙ c.is_nothing.ensures.1 none))

pub returns : goal.returns
returns c =
    sym (c.loop-place.invariant
    ∙ (λ i. key_cmp
    (none_past c.args.one.now c.loop-place.place (omega (arith, c.loop-place-test.false)) i)
    (none_past c.args.other.now c.loop-place.place (omega (arith, c.loop-place-test.false, c.requires)) i)))
