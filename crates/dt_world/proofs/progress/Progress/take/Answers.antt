-- The step lines that are one step, and answer nothing.
use Rattle.std.proofs.Common.{sym, subst, refl}
use Rattle.std.proofs.lemmas.Result.{on_ok_weaker}
use Rattle.dt_world.specs.Progress.{IsAfter}
use Rattle.dt_world.specs.Replay.{after_step_line}
use Rattle.dt_world.specs.StepLine.{form_of_step_line}
use Rattle.dt_steps.specs.Steps.{publishing, withdrawing, closing}
use Rattle.dt_world.proofs.After.{after-silent}
use Rattle.dt_world.proofs.Silences.{publishing_silent, publishing_views, withdrawing_silent, withdrawing_views}
use Rattle.dt_world.proofs.Silences.{closing_silent, closing_views}
use Rattle.dt_world.proofs.progress.Progress.take.Goals as goal

pub returns-in-Close : goal.returns-in-Close
returns-in-Close c = λ wanted now few before.
    let contents = c.args.machine.now in
    subst
    (λ step. IsAfter wanted contents (after_step_line contents now (form_of_step_line step))
    (record { engine = c.close.new.self; taken = c.args.self.now.taken; output = c.args.self.now.output }))
    (sym c.in-Close.is)
    (after-silent wanted contents now (closing now.world c.in-Close.seat) c.args.self.now
    (record { engine = c.close.new.self; taken = c.args.self.now.taken; output = c.args.self.now.output }) before
    (c.close.ensures contents.registry now.world (few c.in-Close.seat) before.at) refl
    (closing_silent now.world c.in-Close.seat)
    (closing_views now.world c.in-Close.seat) refl)

pub returns-in-Withdraw : goal.returns-in-Withdraw
returns-in-Withdraw c = λ wanted now few before.
    let contents = c.args.machine.now in
    subst
    (λ step. IsAfter wanted contents (after_step_line contents now (form_of_step_line step))
    (record { engine = c.withdraw.new.self; taken = c.args.self.now.taken; output = c.args.self.now.output }))
    (sym c.in-Withdraw.is)
    (after-silent wanted contents now (withdrawing contents.registry now.world c.in-Withdraw.seat) c.args.self.now
    (record { engine = c.withdraw.new.self; taken = c.args.self.now.taken; output = c.args.self.now.output }) before
    (c.withdraw.ensures contents.registry now.world before.at) refl (withdrawing_silent now.world contents.registry c.in-Withdraw.seat)
    (withdrawing_views now.world contents.registry c.in-Withdraw.seat) refl)

pub returns-in-Publish : goal.returns-in-Publish
returns-in-Publish c =
    on_ok_weaker c.publish.result
    (λ does wanted now few before.
    let contents = c.args.machine.now in
    subst
    (λ step. IsAfter wanted contents (after_step_line contents now (form_of_step_line step))
    (record { engine = c.publish.new.self; taken = c.args.self.now.taken; output = c.args.self.now.output }))
    (sym c.in-Publish.is)
    (after-silent wanted contents now (publishing contents.registry now.world c.in-Publish.seat) c.args.self.now
    (record { engine = c.publish.new.self; taken = c.args.self.now.taken; output = c.args.self.now.output }) before
    (does contents.registry now.world before.at) refl
    (publishing_silent now.world contents.registry c.in-Publish.seat)
    (publishing_views now.world contents.registry c.in-Publish.seat) refl))
    c.publish.ensures
