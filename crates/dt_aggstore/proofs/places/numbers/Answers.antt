-- One part more is put, or there is none.
use Rattle.std.proofs.Common.{◌≡◌, ◌+◌, ◌++◌, ◌∷◌, [], length, drop, sym, ap, ◌∙◌, arith, rules, to_z, of_z, w64}
use Rattle.std.specs.Prelude.{map}
use Rattle.std.proofs.lemmas.List.{append-nil, append_assoc, length-append, map-append}
use Rattle.dt_aggstore.specs.Shares.{part_told, parts_told}
use Rattle.dt_aggstore.specs.declared.key.KeyPart.TheVariants as part
use Rattle.dt_aggstore.specs.declared.part_share.PartShare.TheVariants.{Nothing}
use Rattle.dt_aggstore.proofs.Parts.{none_past, then_parts, told_from}
use Rattle.dt_aggstore.proofs.places.numbers.Goals as goal

pub returns-in-Nothing : goal.returns-in-Nothing
returns-in-Nothing c =
    let parts = c.args.parts.now in
    let place = c.loop-place.place in
    let items = map part.Number c.loop-place.numbers.items in
    let later = parts_told (drop (place + 1) parts) in
    let none : parts_told (drop place parts) ≡ [] =
    told_from parts place Nothing (omega (arith, c.loop-place-test.true))
    ∙ ap (λ a. then_parts (part_told a) later) c.in-Nothing.is in
    sym (append-nil items) ∙ sym (ap (λ xs. items ++ xs) none) ∙ c.loop-place.invariant.so_far

pub loop-place-preserved : goal.loop-place-preserved
loop-place-preserved c =
    let parts = c.args.parts.now in
    let place = c.loop-place.place in
    let number = c.in-Number.number in
    let old = c.loop-place.numbers.items in
    let items = map part.Number old in
    let later = parts_told (drop (place + 1) parts) in
    let same : to_z w64 (of_z w64 number) ≡ number = search rules in
    let pushed : map part.Number c.push.new.self.items ≡ items ++ part.Number number ∷ [] =
    ap (map part.Number) (c.push.ensures.items ∙ ap (λ n. old ++ n ∷ []) same) ∙ map-append part.Number old (number ∷ []) in
    let some : parts_told (drop place parts) ≡ part.Number number ∷ later =
    told_from parts place Nothing (omega (arith, c.loop-place-test.true))
    ∙ ap (λ a. then_parts (part_told a) later) c.in-Number.is in
    record {
      so_far = ap (λ xs. xs ++ later) pushed ∙ append_assoc items (part.Number number ∷ []) later
          ∙ sym (ap (λ xs. items ++ xs) some) ∙ c.loop-place.invariant.so_far;
      long = ap length c.push.ensures.items
          ∙ omega (arith, length-append old (to_z w64 (of_z w64 number) ∷ []), c.loop-place.invariant.long);
    }

pub returns : goal.returns
returns c =
    let parts = c.args.parts.now in
    let items = map part.Number c.loop-place.numbers.items in
    sym (append-nil items)
    ∙ sym (ap (λ xs. items ++ xs) (none_past parts c.loop-place.place (omega (arith, c.loop-place-test.false))))
    ∙ c.loop-place.invariant.so_far
