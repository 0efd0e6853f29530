-- The room for tracing, and what is taken at BEGIN.
use Rattle.std.proofs.Common.{◌≡◌, [], map, sym, ap, ◌∙◌, subst}
use Rattle.dt_cred.specs.declared.account.Account.{Account}
use Rattle.dt_lang.specs.Program.{form_of_clause}
use Rattle.dt_life.specs.Buffers.{reserve_on}
use Rattle.dt_life.specs.Placed.{AreEcbs}
use Rattle.dt_consumer.specs.Keeps.{IsTracing}
use Rattle.dt_life.specs.Life.{ecbs_in, set_up, since_then, happens}
use Rattle.dt_life.specs.Takings.{began}
use Rattle.dt_consumer.proofs.Drafting.{go_draft}
use Rattle.dt_consumer.proofs.consumer.Consumer.draft_go.Goals as goal

pub returns-clause-drafted : goal.returns-clause-drafted
returns-clause-drafted c = λ account life m.
    let registry = c.args.machine.now.registry in
    let consumer = c.args.self.now in
    let s = set_up account registry life in
    let k = m.stands.keeps in
    let off = c.is_late.ensures.early account registry life m.stands c.if-is_late.false in
    let are = subst (AreEcbs s.clauses (ecbs_in account registry s)) (sym c.ecbs-ecbs.ensures.value) k.ecbs in
    let room = c.in-Some.ensures.reserve account registry s k.options
    (ap (map form_of_clause) c.clauses-clauses.ensures.value ∙ k.clauses) are in
    let own = k.same_account in
    let begun = subst
    (λ (a : Account). AreEcbs s.clauses (ecbs_in a registry s) consumer.programs.ecbs.items
    → c.in-Some.reserve ≡ reserve_on a registry s 0
    → IsTracing a registry (happens a registry (since_then s []) began) c.in_ok-begun.begun)
    own (λ are. c.in_ok-begun.ensures.traces s k.options k.clauses are k.shapes) in
    go_draft account registry life c.in_ok-tracing.tracing m.in_quota off room.0
    (subst (IsTracing account registry (happens account registry (since_then s []) began)) (sym c.in_ok-tracing.ensures.ok) (begun k.ecbs room.1))
