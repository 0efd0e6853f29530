-- A firing that the account isn't shown is unseen, and any other is offered.
use Rattle.std.proofs.Common.{◌≡◌, Bool, true, false, sym, ◌∙◌, subst}
use Rattle.std.proofs.lemmas.Bool.{both_ways}
use Rattle.dt_cred.specs.declared.account.Account.{Account}
use Rattle.dt_cred.specs.declared.firing.Firing.{Firing}
use Rattle.dt_machine.specs.Registry.{Registry}
use Rattle.dt_machine.specs.Tests.{is_shown}
use Rattle.dt_machine.specs.laws.Tests.{shown_from, shown_to}
use Rattle.dt_consumer.proofs.consumer.Consumer.offer_context.Goals as goal

-- what the consumer's own account is shown is what its life's account is
told : (own account : Account) (registry : Registry) (firing : Firing) (answer shown : Bool) → own ≡ account
    → answer ≡ is_shown own registry firing → answer ≡ shown → is_shown account registry firing ≡ shown
told own account registry firing answer shown same asked is =
    subst (λ a. is_shown a registry firing ≡ shown) same (sym asked ∙ is)

pub returns-then-is_shown-clause-sees : goal.returns-then-is_shown-clause-sees
returns-then-is_shown-clause-sees c = λ account life s is.
    let registry = c.args.machine.now.registry in
    let firing = c.args.context.now.firing.now in
    c.offer_shown.ensures.sees account life s is (shown_from account registry firing
    (told c.args.self.now.account account registry firing c.is_shown.result true s.keeps.same_account
    (c.is_shown.ensures registry is) c.if-is_shown.true))

pub returns-then-is_shown-clause-seen : goal.returns-then-is_shown-clause-seen
returns-then-is_shown-clause-seen c = λ account life s is.
    let registry = c.args.machine.now.registry in
    let firing = c.args.context.now.firing.now in
    c.offer_shown.ensures.seen account life s is (shown_from account registry firing
    (told c.args.self.now.account account registry firing c.is_shown.result true s.keeps.same_account
    (c.is_shown.ensures registry is) c.if-is_shown.true))

pub returns-else-is_shown-clause-sees : goal.returns-else-is_shown-clause-sees
returns-else-is_shown-clause-sees c = λ account life s is.
    let registry = c.args.machine.now.registry in
    let firing = c.args.context.now.firing.now in
    let unshown = told c.args.self.now.account account registry firing c.is_shown.result false s.keeps.same_account
    (c.is_shown.ensures registry is) c.if-is_shown.false in (
      λ yes. absurd (both_ways c.is_shown.result c.if-is_shown.false yes),
      λ sees. absurd (both_ways (is_shown account registry firing) unshown (shown_to account registry firing sees.admitted)),
    )
