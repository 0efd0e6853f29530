-- What the proof of `decimal` is told at its goals.
use Rattle.std.proofs.Common.{arith}
use Rattle.dt_cred.proofs.Decimals.{below_28_digits, fits_wide, scanned_more}
use Rattle.dt_cred.proofs.class.decimal.Goals as goal

pub overflow_mul-number : goal.overflow_mul-number
overflow_mul-number c = fits_wide _ (omega (arith, below_28_digits _ _ c.loop-digit.invariant.bounded (omega arith)))

pub overflow_add-number : goal.overflow_add-number
overflow_add-number c =
    fits_wide _ (omega (
      arith,
      c.if-not-is_ascii_digit.ensures.cases,
      below_28_digits _ _ c.loop-digit.invariant.bounded (omega arith),
    ))

pub loop-digit-preserved : goal.loop-digit-preserved
loop-digit-preserved c =
    rw c.from.ensures
    (scanned_more _ _ _ c.loop-digit.invariant c.loop-digit-test.true
    (omega (arith, c.if-not-is_ascii_digit.ensures.cases)))
