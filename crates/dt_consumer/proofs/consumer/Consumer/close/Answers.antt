-- Tracing ends without a cause, or the consumer never traces.
use Rattle.std.proofs.Common.{ap, ◌∙◌, arith}
use Rattle.dt_life.specs.Life.{set_up}
use Rattle.dt_consumer.proofs.Closing.{closes_traced, closes_untraced}
use Rattle.dt_life.specs.laws.Lines.{after_counted, quota_left}
use Rattle.dt_consumer.proofs.consumer.Consumer.close.Goals as goal
use Rattle.dt_consumer.proofs.consumer.Consumer.close.Goals.{in-Some, in-None}

pub returns : goal.returns
returns c = λ account registry life line s drafted.
    let old = c.args.self.now in
    rw (after_counted life line drafted.0, drafted.1)
    (elim c.match-self.branch [
      | in-Some w ↦
          (closes_traced account registry old life s w.in-Some.tracing w.close.new.self w.in-Some.is
          (λ t off. w.close.ensures.running account registry (set_up account registry life) t off)
          (λ t on. w.close.ensures.over account registry (set_up account registry life) t on)
          (omega (arith, quota_left life drafted.0, s.counted, c.saturating_add-self.ensures)) (ap (λ x. x.1.0) w.self-is))
      | in-None w ↦
          (closes_untraced account registry old life s w.in-None.is
          (omega (arith, quota_left life drafted.0, s.counted, c.saturating_add-self.ensures))
          (ap (λ x. x.1.0) w.self-is ∙ w.in-None.is) (ap (λ x. x.1.1.1.1.1.0) w.self-is))
    ])
