-- What is to be shown of `number_of`.
use Rattle.std.proofs.Common.{sym, ◌∙◌}
use Rattle.std.proofs.lemmas.Bool.{true≢false}
use Rattle.dt_proto.proofs.Decimals.{decimal_bare, decimal_utf8, parsed, unparsed, ok_some, ok_none}
use Rattle.dt_proto.proofs.decimal.number_of.Goals as goal

pub returns-then-has_sign_or_zero-clause-none : goal.returns-then-has_sign_or_zero-clause-none
returns-then-has_sign_or_zero-clause-none c = λ number fits is. decimal_bare number fits
    (rw is at (c.has_sign_or_zero.ensures.0 c.if-has_sign_or_zero.true))

pub returns-in_err-ok-clause-none : goal.returns-in_err-ok-clause-none
returns-in_err-ok-clause-none c =
    rw c.from_residual.ensures (λ number fits is. ok_none _ _ c.from_utf8.result c.in_err-ok.ensures.value
    c.from_utf8.ensures.cases (decimal_utf8 _ number fits is))

pub returns-clause-found : goal.returns-clause-found
returns-clause-found c =
    let text = ok_some _ _ c.from_utf8.result c.in_ok-ok.field-0 c.in_ok-ok.ensures.value c.from_utf8.ensures.cases in
    rw c.ok-2.ensures.value (parsed c.args.digits.now c.parse.result (λ found. true≢false (sym
    (c.has_sign_or_zero.ensures.1 found) ∙ c.if-has_sign_or_zero.false)) (rw text.0 at c.parse.ensures.value.0))

pub returns-clause-none : goal.returns-clause-none
returns-clause-none c =
    let text = ok_some _ _ c.from_utf8.result c.in_ok-ok.field-0 c.in_ok-ok.ensures.value c.from_utf8.ensures.cases in
    rw c.ok-2.ensures.value (unparsed c.args.digits.now c.parse.result (rw text.0 at c.parse.ensures.value.0))
