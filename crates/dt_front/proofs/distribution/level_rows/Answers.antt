-- What is to be shown of `level_rows`.
use Rattle.std.proofs.Common.{◌≡◌, ◌<◌, ◌++◌, FitsSigned, ℤ, Some, map, ap, ◌∙◌, arith, rules}
use Rattle.dt_aggfn.specs.Rows.{levels_of}
use Rattle.std.specs.Prelude.{codes}
use Rattle.std.specs.Fmt.{signed_decimal}
use Rattle.std.specs.Int.{w64, cast_signed, cast_unsigned}
use Rattle.std.proofs.lemmas.Int.{to_z-of_z}
use Rattle.dt_front.specs.CountForms.{form_of_row_count}
use Rattle.dt_front.specs.PictureForms.{form_of_picture_row}
use Rattle.dt_front.proofs.FunctionRows.{all_levels, level_named}
use Rattle.dt_front.proofs.distribution.level_rows.Goals as goal

pub loop-index-preserved : goal.loop-index-preserved
loop-index-preserved c =
    let within : c.loop-index.index < levels_of c.args.bounds = omega (arith, c.loop-index-test.true, c.levels-index-end.ensures.levels) in
    let fits : FitsSigned w64 c.level_from.result = record { sfits = c.level_from.type_inv } in
    level_named c.args.bounds (map form_of_row_count c.args.counts.now) c.loop-index.index (cast_signed w64 (cast_unsigned w64 c.level_from.result))
    (map form_of_picture_row c.loop-index.rows.items) (map form_of_picture_row c.push_named.new.rows.items) within
    c.loop-index.invariant c.in_ok-push_named.ensures
    (to_z-of_z w64 c.level_from.result fits ∙ c.level_from.ensures)

pub returns : goal.returns
returns c =
    let whole : c.loop-index.index ≡ levels_of c.args.bounds =
    omega (arith, c.loop-index-test.false, c.loop-index.auto.index-end, c.levels-index-end.ensures.levels) in
    let fits : FitsSigned w64 c.args.bounds.upper = search rules in
    let same = to_z-of_z w64 c.args.bounds.upper fits in
    all_levels c.args.bounds (map form_of_row_count c.args.counts.now) c.loop-index.index _ _
    (map form_of_picture_row c.loop-index.rows.items) (map form_of_picture_row c.push_row-2.new.rows.items) whole
    c.loop-index.invariant c.in_ok-push_row-2.ensures (ap (λ (z : ℤ). Some z) same)
    (c.in_ok-above.ensures ∙ ap (λ z. codes ">= " ++ signed_decimal z) same)
