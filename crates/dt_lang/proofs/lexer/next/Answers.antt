-- What is to be shown of `next`.
use Rattle.std.proofs.Common.{arith}
use Rattle.dt_lang.specs.laws.Progress.{token_within, overlong_within}
use Rattle.dt_lang.proofs.lexer.next.Goals as goal

pub overflow_add-result : goal.overflow_add-result
overflow_add-result c =
    let within = token_within c.args.mode c.skip_blanks-rest.result.now c.in-Token.token c.in-Token.size
    c.in-Token.ensures in
    let fits = within.fits in
    omega (arith, c.skip_blanks-rest.ensures.shorter)

pub overflow_add-result-in-Overlong : goal.overflow_add-result-in-Overlong
overflow_add-result-in-Overlong c =
    let within = overlong_within c.args.mode c.skip_blanks-rest.result.now c.in-Overlong.limit c.in-Overlong.size
    c.in-Overlong.ensures in
    let fits = within.fits in
    omega (arith, c.skip_blanks-rest.ensures.shorter)

pub returns-in-Overlong-clause-within : goal.returns-in-Overlong-clause-within
returns-in-Overlong-clause-within c =
    let within = overlong_within c.args.mode c.skip_blanks-rest.result.now c.in-Overlong.limit c.in-Overlong.size
    c.in-Overlong.ensures in
    let some = within.some in
    let fits = within.fits in
    let less = c.skip_blanks-rest.ensures.shorter in
    (omega arith, omega arith, omega arith)

pub returns-in-Token-clause-within : goal.returns-in-Token-clause-within
returns-in-Token-clause-within c =
    let within = token_within c.args.mode c.skip_blanks-rest.result.now c.in-Token.token c.in-Token.size
    c.in-Token.ensures in
    let some = within.some in
    let fits = within.fits in
    let less = c.skip_blanks-rest.ensures.shorter in
    (omega arith, omega arith, omega arith)
