-- A line was asked on a seat.
use Rattle.std.proofs.Common.{option_map, ◌∙◌, sym}
use Rattle.std.proofs.lemmas.Result.{IfOk-weaker}
use Rattle.dt_proto.specs.Asked.{form_lent}
use Rattle.dt_steps.proofs.Holding.{asked-session, served_session, some_weaker}
use Rattle.dt_steps.proofs.place.Place.ask.Goals as goal

pub returns-in-Some-clause-asked : goal.returns-in-Some-clause-asked
returns-in-Some-clause-asked c =
    IfOk-weaker c.ask.result _ _
    (λ reply asks place h.
    asked-session c.args.machine.now.registry place c.args.self.now h (form_lent c.args.line)
    (option_map (λ answered. answered.text.items) reply) c.in-Some.session c.ask.new.self c.in-Some.is
    (λ session kept.
    let may = sym (c.may_ask.ensures.may c.args.machine.now.registry session kept) ∙ c.if-may_ask.true in
    (may, asks session kept may)))
    c.ask.ensures.asked

pub returns-in-Some-clause-over : goal.returns-in-Some-clause-over
returns-in-Some-clause-over c =
    IfOk-weaker c.ask.result _ _
    (λ reply.
    some_weaker reply _ _
    (λ answered over place session h at.
    over session (served_session c.args.machine.now.registry place c.args.self.now h c.in-Some.session session
    c.in-Some.is at)))
    c.ask.ensures.over
