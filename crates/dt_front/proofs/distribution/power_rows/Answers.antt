-- What is to be shown of `power_rows`.
use Rattle.std.proofs.Common.{◌≡◌, ◌-◌, ◌^◌, ◌<◌, ℤ, pos, map, ap, ◌∙◌, arith}
use Rattle.std.specs.Int.{w64, cast_signed, cast_unsigned}
use Rattle.std.proofs.lemmas.Int.{to_z-of_z}
use Rattle.dt_front.specs.CountForms.{form_of_row_count}
use Rattle.dt_front.specs.PictureForms.{form_of_picture_row}
use Rattle.dt_front.proofs.FunctionRows.{all_powers, minus_named, opposite, power_fits, power_named}
use Rattle.dt_front.proofs.distribution.power_rows.Goals as goal

pub loop-back-preserved : goal.loop-back-preserved
loop-back-preserved c =
    let small : 62 - c.loop-back.back < 63 = omega (arith, c.loop-back-test.true) in
    minus_named (map form_of_row_count c.args.counts.now) c.loop-back.back _ (map form_of_picture_row c.loop-back.rows.items)
    (map form_of_picture_row c.push_named.new.rows.items) c.loop-back.invariant c.in_ok-push_named.ensures
    (opposite (62 - c.loop-back.back) c.power.result small c.power.ensures)

pub loop-exponent-preserved : goal.loop-exponent-preserved
loop-exponent-preserved c =
    let k = c.loop-exponent.exponent in
    let small : k < 63 = omega (arith, c.loop-exponent-test.true) in
    let is = ap (λ (z : ℤ). cast_signed w64 (cast_unsigned w64 z)) c.power-in-loop-exponent.ensures ∙ to_z-of_z w64 (pos (2 ^ k)) (power_fits k small) in
    power_named (map form_of_row_count c.args.counts.now) k (cast_signed w64 (cast_unsigned w64 c.power-in-loop-exponent.result))
    (map form_of_picture_row c.loop-exponent.rows.items) (map form_of_picture_row c.push_named-in-loop-exponent.new.rows.items)
    c.loop-exponent.invariant c.in_ok-push_named-3.ensures is

pub returns : goal.returns
returns c =
    let whole : c.loop-exponent.exponent ≡ 63 = omega (arith, c.loop-exponent-test.false, c.loop-exponent.auto.exponent-end) in
    c.loop-exponent.invariant ∙ all_powers (map form_of_row_count c.args.counts.now) c.loop-exponent.exponent whole
