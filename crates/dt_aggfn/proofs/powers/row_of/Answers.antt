-- The row of the greatest power of two that isn't above the value's size.
use Rattle.std.specs.Int.{w64, cast_signed, cast_unsigned}
use Rattle.std.proofs.lemmas.Int.{to_z-of_z}
use Rattle.dt_aggfn.proofs.PowerLemmas.{row_of_zero, row_below_zero, row_above_zero}
use Rattle.dt_aggfn.proofs.powers.row_of.Goals as goal

pub returns-then-value-eq0 : goal.returns-then-value-eq0
returns-then-value-eq0 c = row_of_zero c.args.value c.ranges.value c.if-value-eq0.true

pub returns-then-value-lt0 : goal.returns-then-value-lt0
returns-then-value-lt0 c =
    row_below_zero (cast_signed w64 (cast_unsigned w64 c.args.value)) c.args.value c.ilog2.result c.min-power.result
    (to_z-of_z w64 c.args.value c.ranges.value) c.if-value-lt0.true
    (rw (← c.unsigned_abs.ensures.value) c.ilog2.ensures.power_le)
    (rw (← c.unsigned_abs.ensures.value) c.ilog2.ensures.next_power_gt) c.min-power.ensures

pub returns-else-value-lt0 : goal.returns-else-value-lt0
returns-else-value-lt0 c =
    row_above_zero (cast_signed w64 (cast_unsigned w64 c.args.value)) c.args.value c.ilog2.result c.min-power.result
    (to_z-of_z w64 c.args.value c.ranges.value) c.if-value-lt0.false
    (rw (← c.unsigned_abs.ensures.value) c.ilog2.ensures.power_le)
    (rw (← c.unsigned_abs.ensures.value) c.ilog2.ensures.next_power_gt) c.min-power.ensures
