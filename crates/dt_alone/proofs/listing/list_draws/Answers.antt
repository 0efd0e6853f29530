-- One failed draw more was listed.
use Rattle.std.proofs.Common.{ap, sym, ◌∙◌, arith}
use Rattle.dt_alone.specs.Happened.{left_count, only_drops, told_both, told_on}
use Rattle.dt_alone.specs.declared.happened.Happened.TheVariants.{DrawFailed}
use Rattle.dt_alone.proofs.Bringing.{both_nothing, left_more, told_more, told_one}
use Rattle.dt_alone.proofs.ListSteps.{draws_step}
use Rattle.dt_alone.proofs.listing.list_draws.Goals as goal

pub loop-draw-init : goal.loop-draw-init
loop-draw-init c = record {
  told = λ on. sym (both_nothing (told_on on c.args.happened.now.items));
  left = omega arith;
}

pub loop-draw-preserved : goal.loop-draw-preserved
loop-draw-preserved c =
    let old = c.loop-draw.happened.items in
    record {
      told = λ on.
          ap (told_on on) c.in_ok-push.ensures.items ∙ told_more on old DrawFailed
          ∙ ap (λ t. told_both t (told_one on DrawFailed)) (c.loop-draw.invariant.told on)
          ∙ draws_step (told_on on c.args.happened.now.items) on c.loop-draw._draw;
      left = omega (arith, ap left_count c.in_ok-push.ensures.items, left_more old DrawFailed, c.loop-draw.invariant.left);
    }

pub returns-clause-told : goal.returns-clause-told
returns-clause-told c = λ on.
    c.loop-draw.invariant.told on
    ∙ ap (λ n. told_both (told_on on c.args.happened.now.items) (only_drops 0 0 n)) (omega (arith, c.loop-draw-test.false, c.loop-draw.auto._draw-end))
