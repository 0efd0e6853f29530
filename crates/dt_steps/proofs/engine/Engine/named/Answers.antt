-- All that a look named.
use Rattle.dt_steps.proofs.Taking.{questions-looking, looked-looking, quiet-looking}
use Rattle.dt_steps.proofs.engine.Engine.named.Goals as goal

pub returns-in-Some-clause-telling : goal.returns-in-Some-clause-telling
returns-in-Some-clause-telling c = λ world at.
    let registry = c.args.machine.now.registry in (
      questions-looking registry world c.args.cpu c.args.firing.now,
      looked-looking registry world c.args.cpu c.args.firing.now c.left.result (c.in-Some.ensures.answer world at).0
          (c.left.ensures registry _ (c.in-Some.ensures.at world at)),
    )

pub returns-in-None-clause-telling : goal.returns-in-None-clause-telling
returns-in-None-clause-telling c = λ world at.
    quiet-looking c.args.machine.now.registry world c.args.cpu c.args.firing.now (c.in-None.ensures.answer world at)
