-- One drop more was listed.
use Rattle.std.proofs.Common.{◌==◌, ap, ◌∙◌, arith}
use Rattle.dt_alone.specs.Happened.{left_count, told_both, told_on}
use Rattle.dt_alone.specs.declared.happened.Happened.TheVariants.{VariableDropped}
use Rattle.dt_alone.proofs.Bringing.{left_more, told_more, told_one}
use Rattle.dt_alone.proofs.ListSteps.{variables_none, variables_step}
use Rattle.dt_alone.proofs.listing.list_variables.Goals as goal

pub loop-drop-init : goal.loop-drop-init
loop-drop-init c = record {
  told = λ on. variables_none (told_on on c.args.happened.now.items) (c.args.cpu == on);
  left = omega arith;
}

pub loop-drop-preserved : goal.loop-drop-preserved
loop-drop-preserved c =
    let old = c.loop-drop.happened.items in
    let x = VariableDropped c.args.cpu in
    record {
      told = λ on.
          ap (told_on on) c.in_ok-push.ensures.items ∙ told_more on old x
          ∙ ap (λ t. told_both t (told_one on x)) (c.loop-drop.invariant.told on)
          ∙ variables_step (told_on on c.args.happened.now.items) c.args.cpu on c.loop-drop._drop;
      left = omega (arith, ap left_count c.in_ok-push.ensures.items, left_more old x, c.loop-drop.invariant.left);
    }
