-- The buffer of a processor was read.
use Rattle.std.proofs.Common.{refl, ap, ◌∙◌, arith}
use Rattle.dt_life.specs.Life.{set_up, with_event}
use Rattle.dt_life.specs.Takings.{snapped}
use Rattle.dt_life.specs.laws.Verdicts.{snapped_by}
use Rattle.dt_life.specs.laws.Lines.{after_counted, quota_left}
use Rattle.dt_consumer.proofs.Stands.{stands_changed, keeps_quiet, keeps_traced, traced, untraced}
use Rattle.dt_consumer.proofs.consumer.Consumer.snap.Goals as goal
use Rattle.dt_consumer.proofs.consumer.Consumer.snap.Goals.{in-Some, in_default}

pub returns : goal.returns
returns c = λ account registry life line s drafted.
    let own = set_up account registry life in
    let old = c.args.self.now in
    rw (after_counted life line drafted.0, drafted.2)
    (elim c.match-self.branch [
      | in-Some w ↦
          let t = traced account registry own old s.keeps w.in-Some.tracing w.in-Some.is in
          (stands_changed account registry old life s _ _ (with_event own (snapped c.args.cpu))
          (snapped_by account registry life c.args.cpu drafted.3 drafted.1)
          (omega (arith, quota_left life drafted.0, s.counted, c.saturating_add-self.ensures))
          (keeps_traced account registry old own (with_event own (snapped c.args.cpu)) _ w.snap.new.self s.keeps
          refl refl (w.snap.ensures.snapped account registry own t) (ap (λ x. x.1.0) w.self-is)))
      | in_default w ↦
          let never = untraced account registry own old s.keeps w.in_default.is in
          (stands_changed account registry old life s _ _ (with_event own (snapped c.args.cpu))
          (snapped_by account registry life c.args.cpu drafted.3 drafted.1)
          (omega (arith, quota_left life drafted.0, s.counted, c.saturating_add-self.ensures))
          (keeps_quiet account registry own old s.keeps (snapped c.args.cpu) old.closed _ never.quiet
          never.standing (ap (λ x. x.1.0) w.self-is ∙ w.in_default.is) refl))
    ])
