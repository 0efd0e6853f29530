-- The cell of two bags that are joined.
use Rattle.std.proofs.Common.{FitsSigned}
use Rattle.std.specs.Int.{w64}
use Rattle.std.proofs.lemmas.Int.{to_z-of_z}
use Rattle.dt_aggfn.proofs.MergeLemmas.{Added, merge_min, merge_max, merge_words}
use Rattle.dt_aggfn.proofs.function.AggFn.merge.Goals as goal

pub returns-in-Min-clause-cell : goal.returns-in-Min-clause-cell
returns-in-Min-clause-cell c =
    let own : FitsSigned w64 c.cast_signed.result = record { sfits = c.cast_signed.type_inv } in
    let others : FitsSigned w64 c.cast_signed-in-Min.result = record { sfits = c.cast_signed-in-Min.type_inv } in
    let both : FitsSigned w64 c.min-least.result = record { sfits = c.min-least.type_inv } in
    let least = simp to_z-of_z at c.min-least.ensures.value in
    let word = simp to_z-of_z at c.cast_unsigned.ensures in
    rw (word, least, c.cast_signed.ensures, c.cast_signed-in-Min.ensures, c.in-Min.is)
    (merge_min c.args.cell.now c.args.other.now)

pub returns-in-Max-clause-cell : goal.returns-in-Max-clause-cell
returns-in-Max-clause-cell c =
    let own : FitsSigned w64 c.cast_signed-in-Max.result = record { sfits = c.cast_signed-in-Max.type_inv } in
    let others : FitsSigned w64 c.cast_signed-in-Max-2.result = record { sfits = c.cast_signed-in-Max-2.type_inv } in
    let both : FitsSigned w64 c.max-greatest.result = record { sfits = c.max-greatest.type_inv } in
    let greatest = simp to_z-of_z at c.max-greatest.ensures.value in
    let word = simp to_z-of_z at c.cast_unsigned-in-Max.ensures in
    rw (word, greatest, c.cast_signed-in-Max.ensures, c.cast_signed-in-Max-2.ensures, c.in-Max.is)
    (merge_max c.args.cell.now c.args.other.now)

pub returns-in_default-clause-cell : goal.returns-in_default-clause-cell
returns-in_default-clause-cell c =
    let added : Added c.args.cell.now c.args.other.now c.add_words.new.cell =
    record { long = c.add_words.auto.cell; words = c.add_words.ensures } in
    λ bag other_bag.
    merge_words c.args.self c.args.cell.now c.args.other.now c.add_words.new.cell bag other_bag
    c.in_default.not-Min c.in_default.not-Max added
