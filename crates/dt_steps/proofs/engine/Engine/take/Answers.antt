-- Each step in turn.
use Rattle.std.proofs.Common.{option_map, sym, ap, subst}
use Rattle.dt_proto.specs.Asked.{form_asked}
use Rattle.dt_steps.specs.Stands.{EngineIsAt, IsAnswered}
use Rattle.dt_steps.specs.Steps.{form_of_step, after_step, opening, asking, finishing}
use Rattle.dt_steps.specs.Telling.{IsTelling}
use Rattle.dt_steps.specs.declared.outcome.StepAnswer.TheVariants.{Quiet}
use Rattle.dt_steps.specs.declared.session.Answered.{Answered}
use Rattle.dt_steps.specs.declared.session.Finished.{Finished}
use Rattle.dt_steps.proofs.Taking.{quiet-opening, looks-asking, quiet-publishing, looks-finishing, quiet-withdrawing}
use Rattle.dt_steps.proofs.Taking.{quiet-offering, quiet-closing, telling_replied}
use Rattle.dt_steps.proofs.engine.Engine.take.Goals as goal

pub returns-in_ok-open-in-Open : goal.returns-in_ok-open-in-Open
returns-in_ok-open-in-Open c = λ world few at.
    let registry = c.args.machine.now.registry in
    subst (λ step. EngineIsAt registry (after_step registry world step) c.open.new.self
    × IsTelling registry world (after_step registry world step) Quiet)
    (sym (ap form_of_step c.in-Open.is)) (
      subst (λ name. EngineIsAt registry (opening registry world c.in-Open.seat name) c.open.new.self)
          c.deref.ensures.value
          (c.in_ok-open-in-Open.ensures world at),
      quiet-opening registry world c.in-Open.seat c.in-Open.name.items,
    )

pub returns-in_ok-reply-in-Ask : goal.returns-in_ok-reply-in-Ask
returns-in_ok-reply-in-Ask c = λ world few at.
    let registry = c.args.machine.now.registry in
    subst (λ step. EngineIsAt registry (after_step registry world step) c.ask.new.self
    × IsTelling registry world (after_step registry world step) c.replied.result)
    (sym (ap form_of_step c.in-Ask.is)) (
      subst (λ line. EngineIsAt registry (asking registry world c.in-Ask.seat line) c.ask.new.self) c.lent.ensures
          (c.in_ok-reply-in-Ask.ensures.at world at),
      subst (IsTelling registry world (asking registry world c.in-Ask.seat (form_asked c.in-Ask.line)))
          (sym c.replied.ensures)
          (telling_replied (λ (answered : Answered). answered.text) registry world
          (asking registry world c.in-Ask.seat (form_asked c.in-Ask.line)) c.in-Ask.seat
          c.in_ok-reply-in-Ask.reply
          (subst (λ line. IsAnswered registry world (asking registry world c.in-Ask.seat line) c.in-Ask.seat
          (option_map (λ answered. answered.text.items) c.in_ok-reply-in-Ask.reply)) c.lent.ensures
          (c.in_ok-reply-in-Ask.ensures.answer world at))
          (looks-asking registry world c.in-Ask.seat (form_asked c.in-Ask.line))),
    )

pub returns-in_ok-publish-in-Publish : goal.returns-in_ok-publish-in-Publish
returns-in_ok-publish-in-Publish c = λ world few at.
    let registry = c.args.machine.now.registry in
    subst (λ step. EngineIsAt registry (after_step registry world step) c.publish.new.self
    × IsTelling registry world (after_step registry world step) Quiet)
    (sym (ap form_of_step c.in-Publish.is)) (
      c.in_ok-publish-in-Publish.ensures registry world at,
      quiet-publishing registry world c.in-Publish.seat,
    )

pub returns-in-Finish : goal.returns-in-Finish
returns-in-Finish c = λ world few at.
    let registry = c.args.machine.now.registry in
    subst (λ step. EngineIsAt registry (after_step registry world step) c.finish-reply.new.self
    × IsTelling registry world (after_step registry world step) c.finished.result)
    (sym (ap form_of_step c.in-Finish.is)) (
      c.finish-reply.ensures.at world at,
      subst (IsTelling registry world (finishing world c.in-Finish.seat)) (sym c.finished.ensures)
          (telling_replied (λ (finished : Finished). finished.text) registry world (finishing world c.in-Finish.seat)
          c.in-Finish.seat c.finish-reply.result (c.finish-reply.ensures.answer world at)
          (looks-finishing registry world c.in-Finish.seat)),
    )

pub returns-in-Withdraw : goal.returns-in-Withdraw
returns-in-Withdraw c = λ world few at.
    let registry = c.args.machine.now.registry in
    subst (λ step. EngineIsAt registry (after_step registry world step) c.withdraw.new.self
    × IsTelling registry world (after_step registry world step) Quiet)
    (sym (ap form_of_step c.in-Withdraw.is)) (
      c.withdraw.ensures registry world at,
      quiet-withdrawing registry world c.in-Withdraw.seat,
    )

pub returns-in-Look : goal.returns-in-Look
returns-in-Look c = λ world few at.
    let registry = c.args.machine.now.registry in
    subst (λ step. EngineIsAt registry (after_step registry world step) c.named.new.self
    × IsTelling registry world (after_step registry world step) c.named.result)
    (sym (ap form_of_step c.in-Look.is)) (c.named.ensures.at world at, c.named.ensures.telling world at)

pub returns-in-Offer : goal.returns-in-Offer
returns-in-Offer c = λ world few at.
    let registry = c.args.machine.now.registry in
    subst (λ step. EngineIsAt registry (after_step registry world step) c.offer.new.self
    × IsTelling registry world (after_step registry world step) Quiet)
    (sym (ap form_of_step c.in-Offer.is)) (
      (c.offer.ensures world at).0,
      quiet-offering registry world c.in-Offer.cpu c.in-Offer.seat,
    )

pub returns-in-Close : goal.returns-in-Close
returns-in-Close c = λ world few at.
    let registry = c.args.machine.now.registry in
    subst (λ step. EngineIsAt registry (after_step registry world step) c.close.new.self
    × IsTelling registry world (after_step registry world step) Quiet)
    (sym (ap form_of_step c.in-Close.is)) (
      c.close.ensures registry world (few c.in-Close.seat) at,
      quiet-closing registry world c.in-Close.seat,
    )
