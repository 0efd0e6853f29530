-- The names of the rows of `quantize`.
use Rattle.std.proofs.Common.{◌≡◌, ◌-◌, ◌<◌, ◌^◌, ℤ, pos, Some, arith, ap, sym, ◌∙◌}
use Rattle.std.specs.Int.{w64, cast_signed, cast_unsigned}
use Rattle.std.proofs.lemmas.Int.{to_z-of_z}
use Rattle.std.proofs.lemmas.Nat.{pow_below}
use Rattle.dt_aggfn.specs.Rows.{name_at, quantize_rows}
use Rattle.dt_aggfn.proofs.PowerLemmas.{name_of_minus, name_of_zero, name_of_power, power_fits, opposite}
use Rattle.dt_aggfn.proofs.powers.row_name.Goals as goal

pub pow-requires : goal.pow-requires
pow-requires c = power_fits (62 - c.args.index) (omega arith)

pub pow-requires-else-index-eq-ZERO_ROW : goal.pow-requires-else-index-eq-ZERO_ROW
pow-requires-else-index-eq-ZERO_ROW c = power_fits (c.args.index - 63 - 1) (omega arith)

pub returns-then-index-lt-ZERO_ROW : goal.returns-then-index-lt-ZERO_ROW
returns-then-index-lt-ZERO_ROW c =
    name_of_minus c.args.index c.if-index-lt-ZERO_ROW.true
    ∙ ap (λ (z : ℤ). Some z) (sym (opposite (2 ^ (62 - c.args.index)) c.pow.result
    (pow_below (62 - c.args.index) 63 (omega arith)) c.pow.ensures))

pub returns-then-index-eq-ZERO_ROW : goal.returns-then-index-eq-ZERO_ROW
returns-then-index-eq-ZERO_ROW c = ap (name_at quantize_rows) c.if-index-eq-ZERO_ROW.true ∙ name_of_zero

pub returns-else-index-eq-ZERO_ROW : goal.returns-else-index-eq-ZERO_ROW
returns-else-index-eq-ZERO_ROW c =
    let below : c.args.index - 64 < 63 = omega arith in
    let same : c.args.index - 63 - 1 ≡ c.args.index - 64 = omega arith in
    let r = c.pow-else-index-eq-ZERO_ROW.result in
    let is : r ≡ pos (2 ^ (c.args.index - 64)) =
    c.pow-else-index-eq-ZERO_ROW.ensures ∙ ap (λ n. pos (2 ^ n)) same in
    name_of_power c.args.index (omega arith) c.requires
    ∙ ap (λ (z : ℤ). Some z) (sym (ap (λ (z : ℤ). cast_signed w64 (cast_unsigned w64 z)) is
    ∙ to_z-of_z w64 (pos (2 ^ (c.args.index - 64))) (power_fits (c.args.index - 64) below)))
