-- What is to be shown of `skip_blanks`.
use Rattle.std.proofs.Common.{arith}
use Rattle.dt_lang.specs.Blanks.{one_more, none_left}
use Rattle.dt_lang.proofs.blanks.skip_blanks.Goals as goal

pub loop-behind-preserved : goal.loop-behind-preserved
loop-behind-preserved c =
    let bound = c.loop-behind.invariant.1 in (
      λ end h. c.loop-behind.invariant.0 end (one_more _ _ _ c.in-Some.ensures.some h),
      omega (arith, c.in-Some.ensures.shorter, bound),
    )

pub returns-clause-skipped : goal.returns-clause-skipped
returns-clause-skipped c = c.loop-behind.invariant.0 _ (none_left _ c.in_default.ensures.none)
