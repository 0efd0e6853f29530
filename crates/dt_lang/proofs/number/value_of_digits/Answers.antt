-- What is to be shown of `value_of_digits`.
use Rattle.std.proofs.Common.{◌+◌, get_or, arith, sym, ◌∙◌, ap, subst, ◌<◌, ℕ}
use Rattle.std.specs.Char.{digit_value}
use Rattle.std.proofs.lemmas.Bool.{false≢true}
use Rattle.std.proofs.lemmas.Int.Digits.{digits_more, digits_value_more}
use Rattle.std.proofs.lemmas.Str.Parse.{digits_value-take-le}
use Rattle.dt_lang.proofs.Digits.{digit_at, product_over, sum_over, one_more}
use Rattle.dt_lang.proofs.number.value_of_digits.Goals as goal

pub returns-in_err-digit-clause-none : goal.returns-in_err-digit-clause-none
returns-in_err-digit-clause-none c =
    rw c.from_residual.ensures (λ all.
    let small = digit_at c.args.radix c.args.digits.now c.loop-byte.byte-index c.loop-byte-test.true all in
    let same = ap digit_value c.from.ensures in
    let less : digit_value c.from.result < c.args.radix = subst (λ (d : ℕ). d < c.args.radix) (sym same) small in
    absurd (false≢true (c.in_err-digit.ensures.succeeds less)))

pub returns-in_err-checked_mul-clause-none : goal.returns-in_err-checked_mul-clause-none
returns-in_err-checked_mul-clause-none c =
    rw c.from_residual-in_err-checked_mul.ensures (λ all.
    product_over _ _ _ _ _ _ _
    (digits_value-take-le c.args.radix c.args.digits.now (c.loop-byte.byte-index + 1) (omega arith))
    (digits_value_more c.args.radix c.args.digits.now c.loop-byte.byte-index c.loop-byte-test.true)
    c.loop-byte.invariant.1 c.from-in-loop-byte.ensures c.in_err-checked_mul.ensures)

pub returns-in_err-value-clause-none : goal.returns-in_err-value-clause-none
returns-in_err-value-clause-none c =
    rw c.from_residual-in_err-value.ensures (λ all.
    sum_over _ _ _ _ _ _ _ _ _
    (digits_value-take-le c.args.radix c.args.digits.now (c.loop-byte.byte-index + 1) (omega arith))
    (digits_value_more c.args.radix c.args.digits.now c.loop-byte.byte-index c.loop-byte-test.true)
    c.loop-byte.invariant.1 c.from-in-loop-byte.ensures c.in_ok-checked_mul.ensures.1
    (c.from-in-loop-byte-2.ensures ∙ c.in_ok-digit.ensures.value.1 ∙ ap digit_value c.from.ensures)
    c.in_err-value.ensures)

pub loop-byte-preserved : goal.loop-byte-preserved
loop-byte-preserved c =
    let same = ap digit_value c.from.ensures in
    let less : digit_value (get_or c.args.digits.now c.loop-byte.byte-index 0) < c.args.radix =
    subst (λ (d : ℕ). d < c.args.radix) same c.in_ok-digit.ensures.value.0 in (
      digits_more c.args.radix c.args.digits.now c.loop-byte.byte-index c.loop-byte-test.true
          c.loop-byte.invariant.0 less,
      one_more _ _ _ _ _ _ _ _ _
          (digits_value_more c.args.radix c.args.digits.now c.loop-byte.byte-index c.loop-byte-test.true)
          c.loop-byte.invariant.1 c.from-in-loop-byte.ensures c.in_ok-checked_mul.ensures.1
          (c.from-in-loop-byte-2.ensures ∙ c.in_ok-digit.ensures.value.1 ∙ same) c.in_ok-value.ensures.1,
    )
