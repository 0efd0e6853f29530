-- The contributions to an aggregation were truncated, where there may be some.
use Rattle.std.proofs.Common.{◌≡◌, Some, refl, sym, ap, ◌∙◌, subst}
use Rattle.dt_alone.specs.Runs.{Answers}
use Rattle.dt_alone.specs.declared.runner.Runner.{Runner}
use Rattle.dt_alone.proofs.Replying.{begun, early, trunc_done, trunc_idle}
use Rattle.dt_life.specs.Aggregations.{aggregation_of}
use Rattle.dt_life.specs.Ask.{trunc}
use Rattle.dt_life.specs.Life.{is_inactive}
use Rattle.dt_life.specs.Reply.{known}
use Rattle.dt_life.specs.declared.reply.Reply.TheVariants.{Done}
use Rattle.dt_alone.proofs.runner.Runner.truncate.Goals as goal
use Rattle.dt_alone.proofs.runner.Runner.truncate.Goals.{then-not-is_inactive+in_ok-push, else-not-is_inactive}

pub returns : goal.returns
returns c = λ account registry life k.
    let name = c.args.name.now in
    let old = c.args.self.now in
    let a = c.in-Some.named.aggregation in
    let is : known account registry life name ≡ Some a =
    sym (c.in-Some.ensures.is ∙ ap (λ shapes. aggregation_of shapes name) k.has.within.shapes) in
    elim c.if-not-is_inactive.branch [
      | then-not-is_inactive+in_ok-push w ↦ subst (λ (new : Runner). Answers account registry life (trunc name) Done new)
          (sym w.self-is)
          (trunc_done account registry life old k name a _
          (begun account registry life old k (sym c.is_inactive.ensures ∙ w.if-not-is_inactive.true)) is
          refl refl refl refl refl w.in_ok-push.ensures.items refl refl)
      | else-not-is_inactive w ↦ subst (λ (new : Runner). Answers account registry life (trunc name) Done new)
          (sym w.self-is)
          (trunc_idle account registry life old k name a
          (ap is_inactive (early account registry life old k (sym c.is_inactive.ensures ∙ w.if-not-is_inactive.false)))
          is)
    ]
