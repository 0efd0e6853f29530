-- A call: the ask, and what is due after it.
use Rattle.std.proofs.Common.{◌≡◌, ◌+◌, ◌<◌, ◌^◌, true, false, sym, ◌∙◌, subst, arith, refl}
use Rattle.std.proofs.lemmas.Result.{on_ok_weaker}
use Rattle.dt_world.specs.Progress.{IsAfter, with_world}
use Rattle.dt_steps.specs.World.{waits, has_closed, number_on}
use Rattle.dt_steps.specs.Steps.{publishing, withdrawing, closing}
use Rattle.dt_world.proofs.Numbers.{after-asking, after-withdrawing}
use Rattle.dt_world.proofs.After.{after-silent}
use Rattle.dt_world.proofs.Silences.{asked_in, called_waiting, called_closed, publishing_silent, publishing_views}
use Rattle.dt_world.proofs.Silences.{withdrawing_silent, withdrawing_views, closing_silent, closing_views}
use Rattle.dt_proto.specs.Lines.{line_form}
use Rattle.dt_world.proofs.progress.Progress.call.Goals as goal

pub returns-in_ok-publish : goal.returns-in_ok-publish
returns-in_ok-publish c =
    on_ok_weaker c.finish.result
    (λ finishes wanted now few before.
    let contents = c.args.machine.now in
    let seat = c.args.seat in
    let world = asked_in contents now seat c.args.line.now in
    let asked = c.in_ok-ask.ensures wanted now before in
    let is : waits (world.places seat) ≡ true =
    sym (c.waits.ensures contents.registry world asked.at) ∙ c.if-waits.true in
    let published =
    after-silent wanted contents (with_world now world) (publishing contents.registry world seat) c.ask.new.self
    (record { engine = c.publish.new.self; taken = c.ask.new.self.taken; output = c.ask.new.self.output }) asked
    (c.in_ok-publish.ensures contents.registry world asked.at) refl (publishing_silent world contents.registry seat)
    (publishing_views world contents.registry seat) refl in
    subst (λ at. IsAfter wanted contents at c.finish.new.self)
    (sym (called_waiting contents now seat c.args.line.now is))
    (finishes wanted (with_world now (publishing contents.registry world seat)) published))
    c.finish.ensures

pub returns-then-has_closed : goal.returns-then-has_closed
returns-then-has_closed c = λ wanted now few before.
    let contents = c.args.machine.now in
    let seat = c.args.seat in
    let world = asked_in contents now seat c.args.line.now in
    let asked = c.in_ok-ask.ensures wanted now before in
    let not : waits (world.places seat) ≡ false =
    sym (c.waits.ensures contents.registry world asked.at) ∙ c.if-waits.false in
    let is : has_closed contents.registry (world.places seat) ≡ true =
    sym (c.has_closed.ensures contents.registry world asked.at) ∙ c.if-has_closed.true in
    let withdrawn = withdrawing contents.registry world seat in
    let fewer : number_on withdrawn seat + 1 < 2 ^ 64 =
    omega (
      arith,
      few,
      after-asking now.world seat contents.registry seat (line_form c.args.line.now),
      after-withdrawing world seat contents.registry seat,
    ) in
    let closed = c.close.ensures contents.registry withdrawn fewer (c.withdraw.ensures contents.registry world asked.at) in
    subst (λ at. IsAfter wanted contents at
    (record { engine = c.close.new.self; taken = c.ask.new.self.taken; output = c.ask.new.self.output }))
    (sym (called_closed contents now seat c.args.line.now not is))
    (after-silent wanted contents (with_world now world) (closing withdrawn seat) c.ask.new.self
    (record { engine = c.close.new.self; taken = c.ask.new.self.taken; output = c.ask.new.self.output })
    asked closed refl
    (closing_silent withdrawn seat ∙ withdrawing_silent world contents.registry seat)
    (λ other. closing_views withdrawn seat other ∙ withdrawing_views world contents.registry seat other) refl)
