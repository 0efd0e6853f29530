-- What is to be shown of `behind_comment`.
use Rattle.std.proofs.Common.{arith}
use Rattle.dt_lang.specs.laws.Comments.{before_all, before_next, ends_here, nothing_left}
use Rattle.dt_lang.proofs.blanks.behind_comment.Goals as goal

pub loop-behind-init : goal.loop-behind-init
loop-behind-init c = (before_all c.args.text.now, omega arith)

pub loop-behind-preserved : goal.loop-behind-preserved
loop-behind-preserved c =
    let bound = c.loop-behind.invariant.1 in
    let cut = c.in-Some.ensures.cases in (
      before_next c.args.text.now c.loop-behind.rest.now _ c.in-Some.behind.now c.loop-behind.invariant.0 cut.0
          c.in_default-strip_end.ensures.none,
      omega (arith, cut.1),
    )

pub returns-in-Some-strip_end-clause-some : goal.returns-in-Some-strip_end-clause-some
returns-in-Some-strip_end-clause-some c =
    c.loop-behind.invariant.0.ends _ (ends_here _ _ c.in-Some-strip_end.ensures.some)

pub returns-clause-none : goal.returns-clause-none
returns-clause-none c =
    nothing_left c.args.text.now c.loop-behind.rest.now c.loop-behind.invariant.0 c.in_default.ensures.cases
