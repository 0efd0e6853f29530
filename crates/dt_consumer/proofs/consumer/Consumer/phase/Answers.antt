-- A consumer that never traced is inactive, or stopped where it was closed.
use Rattle.std.proofs.Common.{sym, ap, ◌∙◌}
use Rattle.dt_consumer.specs.Keeps.{phase_untraced}
use Rattle.dt_life.specs.Life.{set_up}
use Rattle.dt_consumer.proofs.Stands.{untraced}
use Rattle.dt_consumer.proofs.consumer.Consumer.phase.Goals as goal

pub returns-in-None : goal.returns-in-None
returns-in-None c = λ account registry life s.
    let never = untraced account registry (set_up account registry life) c.args.self.now s.keeps c.in-None.is in
    sym (never.standing ∙ ap phase_untraced c.if-self.true)

pub returns-in-None-2 : goal.returns-in-None-2
returns-in-None-2 c = λ account registry life s.
    let never = untraced account registry (set_up account registry life) c.args.self.now s.keeps c.in-None.is in
    sym (never.standing ∙ ap phase_untraced c.if-self.false)
