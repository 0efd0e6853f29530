-- One part more is put, or there is none.
use Rattle.std.proofs.Common.{◌≡◌, ◌+◌, ◌<◌, ◌++◌, ◌∷◌, [], ℕ, List, length, get_or, drop, sym, ap, ◌∙◌, arith, rules, to_z, of_z, w64, Vec, Global}
use Rattle.std.specs.Prelude.{Some}
use Rattle.std.proofs.lemmas.List.{append-nil, append_assoc, length-append}
use Rattle.dt_aggstore.specs.Shares.{part_told, parts_told}
use Rattle.dt_aggstore.specs.declared.key.KeyPart.{KeyPart}
use Rattle.dt_aggstore.specs.declared.key.KeyPart.TheVariants as part
use Rattle.dt_aggstore.specs.declared.part_share.PartShare.TheVariants.{Nothing}
use Rattle.dt_aggstore.specs.declared.part_share.PartShare.{PartShare}
use Rattle.dt_aggstore.proofs.Parts.{none_past, then_parts, told_from}
use Rattle.dt_aggstore.proofs.places.all_parts.Goals as goal
use Rattle.dt_aggstore.proofs.places.all_parts.Goals.{in-Number+in_ok-push-in-Number, in-Text+in_ok-push-in-Text}

pub returns-in-Nothing : goal.returns-in-Nothing
returns-in-Nothing c =
    let places = c.args.places.now in
    let place = c.loop-place.place in
    let items = c.loop-place.parts.items in
    let later = parts_told (drop (place + 1) places) in
    let none : parts_told (drop place places) ≡ [] =
    told_from places place Nothing (omega (arith, c.loop-place-test.true))
    ∙ ap (λ a. then_parts (part_told a) later) c.in-Nothing.is in
    sym (append-nil items) ∙ sym (ap (λ xs. items ++ xs) none) ∙ c.loop-place.invariant.so_far

-- a part that a place has is put
module _ (places : List PartShare) (place : ℕ) (small : place < length places) (items new : List KeyPart) (one : KeyPart)
    (so_far : items ++ parts_told (drop place places) ≡ parts_told places) (long : length items ≡ place)
    (is : part_told (get_or places place Nothing) ≡ Some one) (pushed : new ≡ items ++ one ∷ []) where
  abbrev Later : List KeyPart
  Later = parts_told (drop (place + 1) places)

  one_more : new ++ Later ≡ parts_told places
  one_more =
      ap (λ xs. xs ++ Later) pushed ∙ append_assoc items (one ∷ []) Later
      ∙ sym (ap (λ xs. items ++ xs)
      (told_from places place Nothing (omega (arith, small)) ∙ ap (λ a. then_parts a Later) is))
      ∙ so_far

  longer : length new ≡ place + 1
  longer = ap length pushed ∙ omega (arith, length-append items (one ∷ []), long)

pub loop-place-preserved : goal.loop-place-preserved
loop-place-preserved c =
    let places = c.args.places.now in
    let place = c.loop-place.place in
    let small = c.loop-place-test.true in
    let items = c.loop-place.parts.items in
    let so_far = c.loop-place.invariant.so_far in
    let long = c.loop-place.invariant.long in
    elim c.match-places-place.branch [
      | in-Number+in_ok-push-in-Number w ↦
          (let same : to_z w64 (of_z w64 w.in-Number.number) ≡ w.in-Number.number = search rules in
          let pushed = ap (λ (v : Vec KeyPart Global). v.items) w.parts-is ∙ w.in_ok-push-in-Number.ensures.items
          ∙ ap (λ n. items ++ part.Number n ∷ []) same in
          record {
            so_far = one_more places place small items _ (part.Number w.in-Number.number) so_far long (ap part_told w.in-Number.is) pushed;
            long = longer places place small items _ (part.Number w.in-Number.number) so_far long (ap part_told w.in-Number.is) pushed;
          })
      | in-Text+in_ok-push-in-Text w ↦
          (let pushed = ap (λ (v : Vec KeyPart Global). v.items) w.parts-is ∙ w.in_ok-push-in-Text.ensures.items in
          record {
            so_far = one_more places place small items _ (part.Text w.in-Text.text.now) so_far long (ap part_told w.in-Text.is) pushed;
            long = longer places place small items _ (part.Text w.in-Text.text.now) so_far long (ap part_told w.in-Text.is) pushed;
          })
    ]

pub returns : goal.returns
returns c =
    let places = c.args.places.now in
    let items = c.loop-place.parts.items in
    sym (append-nil items)
    ∙ sym (ap (λ xs. items ++ xs) (none_past places c.loop-place.place (omega (arith, c.loop-place-test.false))))
    ∙ c.loop-place.invariant.so_far
