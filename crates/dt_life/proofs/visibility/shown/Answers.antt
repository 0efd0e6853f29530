-- The context is that of the firing, and the account is asked.
use Rattle.std.proofs.Common.{◌≡◌, false, Some, sym, ◌∙◌, subst}
use Rattle.std.proofs.lemmas.Bool.{both_ways}
use Rattle.dt_cred.specs.declared.firing.Firing.{Firing}
use Rattle.dt_machine.specs.Context.{form_of_context, context_of}
use Rattle.dt_machine.specs.Registry.{Belongs}
use Rattle.dt_machine.specs.Shown.{IsShown}
use Rattle.dt_machine.specs.Tests.{is_shown}
use Rattle.dt_machine.specs.laws.Tests.{shown_from, shown_to}
use Rattle.dt_life.specs.laws.Contexts.{context_is}
use Rattle.dt_life.proofs.visibility.shown.Goals as goal

pub returns-then-is_shown-clause-shown : goal.returns-then-is_shown-clause-shown
returns-then-is_shown-clause-shown c =
    let registry = c.args.machine.now.registry in
    let is = c.in_ok-context.ensures.value in
    let shown = sym (c.is_shown.ensures registry is.0) ∙ c.if-is_shown.true in
    let P : Firing → Type 0 = λ f. Belongs registry f × IsShown c.args.account.now registry f
    × (context_of registry f ≡ Some (form_of_context c.in_ok-context.context)) in
    subst P is.1 (is.0.belongs, shown_from _ registry _ shown, context_is registry _ is.0)

pub returns-else-is_shown-clause-shown : goal.returns-else-is_shown-clause-shown
returns-else-is_shown-clause-shown c = λ belongs shown.
    let registry = c.args.machine.now.registry in
    let is = c.in_ok-context.ensures.value in
    let P : Firing → Type 0 = λ f. is_shown c.args.account.now registry f ≡ false in
    both_ways (is_shown c.args.account.now registry c.args.firing.now)
    (subst P is.1 (sym (c.is_shown.ensures registry is.0) ∙ c.if-is_shown.false))
    (shown_to _ registry _ shown)
