-- A firing that is seen.
use Rattle.std.proofs.Common.{◌≡◌, ◌+◌, true, cond, refl, sym, ap, ◌∙◌, subst}
use Rattle.std.proofs.lemmas.Bool.{false≢true}
use Rattle.dt_cred.specs.declared.account.Account.{Account}
use Rattle.dt_machine.specs.Shown.{IsShown}
use Rattle.dt_alone.specs.Runs.{Has}
use Rattle.dt_alone.proofs.Replying.{has_alike}
use Rattle.dt_alone.proofs.Running.{kept_found, named, unnamed}
use Rattle.dt_life.specs.Life.{happens, is_active, phase_of, set_up}
use Rattle.dt_life.specs.Takings.{seen}
use Rattle.dt_life.specs.declared.phase.Phase.TheVariants as phases
use Rattle.dt_alone.proofs.runner.Runner.offer.Goals as goal
use Rattle.dt_alone.proofs.runner.Runner.offer.Goals.{in-Active, in_default}

pub returns-then-not-has-clause-sees : goal.returns-then-not-has-clause-sees
returns-then-not-has-clause-sees c = λ account life r. (
  (λ t. absurd (false≢true t)),
  (λ sees. absurd (sees.named
      (unnamed account c.args.machine.now.registry (set_up account c.args.machine.now.registry life) _ c.args.self.now
      r.has.within c.args.firing.now.probe (sym c.has.ensures ∙ c.if-not-has.true)))),
)

pub returns-clause-sees : goal.returns-clause-sees
returns-clause-sees c = λ account life r.
    let registry = c.args.machine.now.registry in
    let on : c.args.self.now.phase ≡ phases.Active = elim c.match-matches.branch [
      | in-Active w ↦ w.in-Active.is
      | in_default w ↦ absurd (false≢true (sym w.matches-is ∙ c.if-not-matches.false))
    ] in (
      (λ t. record {
        active = sym r.has.within.standing ∙ on;
        belongs = c.in-Some.ensures.shown.0;
        named = named account registry (set_up account registry life) _ c.args.self.now r.has.within c.args.firing.now.probe
            (sym c.has.ensures ∙ c.if-not-has.false);
        admitted = subst (λ (a : Account). IsShown a registry c.args.firing.now) r.has.within.same_account
            c.in-Some.ensures.shown.1;
      }),
      (λ sees. refl),
    )

pub returns-clause-after : goal.returns-clause-after
returns-clause-after c = λ account life r.
    let registry = c.args.machine.now.registry in
    let s = set_up account registry life in
    let on : c.args.self.now.phase ≡ phases.Active = elim c.match-matches.branch [
      | in-Active w ↦ w.in-Active.is
      | in_default w ↦ absurd (false≢true (sym w.matches-is ∙ c.if-not-matches.false))
    ] in
    let next = happens account registry s (seen c.args.firing.now) in
    let active : is_active (phase_of (set_up account c.args.machine.now.registry life)) ≡ true =
    ap is_active (sym r.has.within.standing ∙ on) in
    record {
      has = subst (λ x. Has account registry x c.happen.new.self) (sym (ap (λ b. cond b next s) active))
          (c.in_ok-happen.ensures.happens account s (seen c.args.firing.now)
          (has_alike account registry s (phase_of s) c.args.self.now _ r.has.within
          (record { account = refl; seen = refl; since = refl }) refl refl (phase_of s) r.has.within.standing (λ e. e))
          (kept_found account registry s c.args.self.now.kept c.in-Some-take.kept (sym c.take.ensures.value ∙ c.in-Some-take.is)
          r.has.kept) tt c.in-Some.ensures.shown.2 refl
          (ap (λ n. n + 1) r.has.within.seen));
      counted = c.in_ok-happen.ensures.lines ∙ r.counted;
    }
