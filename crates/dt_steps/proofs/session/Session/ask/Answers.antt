-- A line was asked of a session.
use Rattle.std.proofs.Common.{◌≡◌, true, refl, subst}
use Rattle.dt_life.specs.Answer.{answer_of}
use Rattle.dt_life.specs.Life.{is_over}
use Rattle.dt_consumer.specs.Draft.{IsDraftOf}
use Rattle.dt_proto.specs.Asked.{form_lent}
use Rattle.dt_proto.specs.Line.{ask_in}
use Rattle.dt_steps.specs.World.{life_in}
use Rattle.dt_steps.proofs.Serving.{asked_go, asked_other, same_test}
use Rattle.dt_steps.proofs.session.Session.ask.Goals as goal

pub returns-then-publishes-clause-asked : goal.returns-then-publishes-clause-asked
returns-then-publishes-clause-asked c = λ session h may.
    let registry = c.args.machine.now.registry in
    let life = life_in registry session in
    let line = form_lent c.args.line in
    let drafted : IsDraftOf session.account registry life (ask_in line) c.in_ok-draft.draft =
    subst (λ own. IsDraftOf session.account registry life own c.in_ok-draft.draft) c.in_ok-asked.ensures.asks
    (c.in_ok-draft.ensures.drafted session.account life h.stands) in
    asked_go registry session line c.args.self.now h _ (answer_of c.reply.result.now) c.in_ok-line.ensures drafted
    ((c.publishes.ensures session.account registry life (ask_in line) drafted).0 c.if-publishes.true)
    (c.reply.ensures session.account registry life (ask_in line) drafted) c.in_ok-text.ensures refl _

pub returns-clause-asked : goal.returns-clause-asked
returns-clause-asked c = λ session h may.
    let registry = c.args.machine.now.registry in
    let life = life_in registry session in
    let line = form_lent c.args.line in
    let draft = c.in_ok-draft.draft in
    let drafted : IsDraftOf session.account registry life (ask_in line) draft =
    subst (λ own. IsDraftOf session.account registry life own draft) c.in_ok-asked.ensures.asks
    (c.in_ok-draft.ensures.drafted session.account life h.stands) in
    asked_other registry session line c.args.self.now h c.apply.new.self c.closes-self.result
    (answer_of c.reply.result.now) c.in_ok-text.text.items may
    (λ go. let bad : c.publishes.result
    ≡ true = (c.publishes.ensures session.account registry life (ask_in line) drafted).1 go in
    cc)
    (c.closes-self.ensures session.account registry life (ask_in line) drafted)
    (c.apply.ensures session.account life (ask_in line) h.stands drafted)
    (c.reply.ensures session.account registry life (ask_in line) drafted)
    c.in_ok-text.ensures _

pub returns-clause-over : goal.returns-clause-over
returns-clause-over c = λ session h.
    let registry = c.args.machine.now.registry in
    let life = life_in registry session in
    let line = form_lent c.args.line in
    let draft = c.in_ok-draft.draft in
    let drafted : IsDraftOf session.account registry life (ask_in line) draft =
    subst (λ own. IsDraftOf session.account registry life own draft) c.in_ok-asked.ensures.asks
    (c.in_ok-draft.ensures.drafted session.account life h.stands) in
    let told = c.is_over_quota-is_over.ensures session.account registry life (ask_in line) drafted in
    same_test c.is_over_quota-is_over.result (is_over life) told.0 told.1
