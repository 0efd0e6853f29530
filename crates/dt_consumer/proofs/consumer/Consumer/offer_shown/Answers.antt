-- A firing that is seen is taken, and tracing may end by it.
use Rattle.std.proofs.Common.{◌≡◌, true, cond, refl, ap, ◌∙◌, subst, arith}
use Rattle.dt_cred.specs.declared.account.Account.{Account}
use Rattle.dt_consumer.specs.Keeps.{IsTracing, phase_by}
use Rattle.dt_life.specs.Life.{set_up, happens, is_active, phase_of}
use Rattle.dt_life.specs.Takings.{seen}
use Rattle.dt_life.specs.laws.Happening.{same_options, same_clauses}
use Rattle.dt_consumer.proofs.Seeing.{names_its, seen_cpu, seen_probe, seen_runs, sees_its}
use Rattle.dt_consumer.proofs.Stands.{keeps_same, keeps_traced, traced}
use Rattle.dt_consumer.proofs.consumer.Consumer.offer_shown.Goals as goal

pub returns-clause-seen : goal.returns-clause-seen
returns-clause-seen c = λ account life s is shown holds.
    let registry = c.args.machine.now.registry in
    let own = set_up account registry life in
    let firing = c.args.context.now.firing.now in
    let next = happens account registry own (seen firing) in
    let t = traced account registry own c.args.self.now s.keeps c.in-Some.tracing c.in-Some.is in
    let going = (c.if-not-wants.ensures.going refl).0 in
    let active : is_active (phase_of own) ≡ true =
    ap is_active t.standing ∙ ap (λ e. is_active (phase_by e)) going in
    let saw = subst
    (λ (a : Account). IsTracing a registry own c.in-Some.tracing
    → IsTracing a registry (happens a registry own (seen firing)) c.see.new.self)
    s.keeps.same_account
    (λ h. c.see.ensures.seen own firing h s.keeps.clauses
    (names_its registry c.args.context.now is)) in
    record {
      keeps = keeps_same account registry next _ _ (ap (λ b. cond b next own) active)
          (keeps_traced account registry c.args.self.now own next c.args.self.now.lines c.see.new.self s.keeps
          (same_options account registry own (seen firing)) (same_clauses account registry own (seen firing))
          (saw t) refl);
      counted = s.counted;
    }

pub returns-then-not-wants-clause-sees : goal.returns-then-not-wants-clause-sees
returns-then-not-wants-clause-sees c = λ account life s is shown.
    let registry = c.args.machine.now.registry in
    let own = set_up account registry life in
    let context = c.args.context.now in
    let t = traced account registry own c.args.self.now s.keeps c.in-Some.tracing c.in-Some.is in (
      λ no. cc,
      λ sees. absurd (sees.named (c.wants.ensures.unnamed account registry own t c.if-not-wants.true
          (seen_runs account registry life context is c.in-Some.tracing t sees)
          (omega (arith, seen_cpu account registry life context is c.in-Some.tracing t sees))
          (omega (arith, seen_probe account registry life context is c.in-Some.tracing t)))),
    )

pub returns-clause-sees : goal.returns-clause-sees
returns-clause-sees c = λ account life s is shown.
    let registry = c.args.machine.now.registry in
    let own = set_up account registry life in
    let context = c.args.context.now in
    let t = traced account registry own c.args.self.now s.keeps c.in-Some.tracing c.in-Some.is in (
      λ yes. sees_its account registry life context is c.in-Some.tracing t (c.if-not-wants.ensures.going refl).0
          (c.if-not-wants.ensures.named account registry own t refl) shown,
      λ sees. refl,
    )
