-- An aggregation was truncated.
use Rattle.std.proofs.Common.{refl, ap, ◌∙◌, arith}
use Rattle.dt_life.specs.Life.{set_up, with_event}
use Rattle.dt_life.specs.Takings.{truncated}
use Rattle.dt_life.specs.laws.Verdicts.{truncated_by}
use Rattle.dt_life.specs.laws.Lines.{after_counted, quota_left}
use Rattle.dt_consumer.proofs.Stands.{stands_changed, keeps_quiet, keeps_traced, traced, untraced}
use Rattle.dt_consumer.proofs.consumer.Consumer.trunc.Goals as goal
use Rattle.dt_consumer.proofs.consumer.Consumer.trunc.Goals.{in-Some, in_default}

pub returns : goal.returns
returns c = λ account registry life line s drafted.
    let own = set_up account registry life in
    let old = c.args.self.now in
    let name = drafted.0 in
    rw (after_counted life line drafted.1, drafted.3)
    (elim c.match-self.branch [
      | in-Some w ↦
          let t = traced account registry own old s.keeps w.in-Some.tracing w.in-Some.is in
          (stands_changed account registry old life s _ _ (with_event own (truncated name))
          (truncated_by account registry life name c.args.aggregation drafted.2 drafted.4)
          (omega (arith, quota_left life drafted.1, s.counted, c.saturating_add-self.ensures))
          (keeps_traced account registry old own (with_event own (truncated name)) _ w.trunc.new.self s.keeps
          refl refl (w.trunc.ensures.truncated account registry own name t drafted.4) (ap (λ x. x.1.0) w.self-is)))
      | in_default w ↦
          let never = untraced account registry own old s.keeps w.in_default.is in
          (stands_changed account registry old life s _ _ (with_event own (truncated name))
          (truncated_by account registry life name c.args.aggregation drafted.2 drafted.4)
          (omega (arith, quota_left life drafted.1, s.counted, c.saturating_add-self.ensures))
          (keeps_quiet account registry own old s.keeps (truncated name) old.closed _ never.quiet
          never.standing (ap (λ x. x.1.0) w.self-is ∙ w.in_default.is) refl))
    ])
