-- A processor that looked owes the firing to the seats that were named.
use Rattle.std.proofs.Common.{◌≡◌, ◌∙◌, ℕ, Option, Some, None, IfSome, IfNone, is_some, refl, sym, ap}
use Rattle.std.specs.Option.{option_map}
use Rattle.dt_cred.specs.declared.firing.Firing.{Firing}
use Rattle.dt_chain.specs.Seats.{life_at}
use Rattle.dt_machine.specs.Context.{IsContext}
use Rattle.dt_machine.specs.Registry.{Registry}
use Rattle.dt_machine.specs.declared.context.Context.{Context}
use Rattle.dt_steps.specs.Stands.{due_by}
use Rattle.dt_steps.specs.World.{DueOffer}
use Rattle.dt_steps.proofs.due.DueOffers.look.Goals as goal

owed : (registry : Registry) (context : Option Context) (firing : Firing) (lives : ℕ → Option ℕ)
    → IfSome context (λ one. IsContext registry one × (one.firing.now ≡ firing))
    → IfNone context ((seat : ℕ) → lives seat ≡ None) → (seat : ℕ)
    → due_by context (lives seat) ≡ option_map (λ life. record { life = life; firing = firing }) (lives seat)
owed registry None firing lives lent none seat = let is = none seat in rw is refl
owed registry (Some one) firing lives lent none seat =
    ap (λ f. option_map (λ life. record { life = life; firing = f }) (lives seat)) lent.1

is_owed : (life : Option ℕ) (firing : Firing)
    → is_some life ≡ is_some {T = DueOffer} (option_map (λ own. record { life = own; firing = firing }) life)
is_owed None firing = refl
is_owed (Some life) firing = refl

the_machines : (registry : Registry) (context : Option Context) (firing : Firing)
    → IfSome context (λ one. IsContext registry one × (one.firing.now ≡ firing)) → IfSome context (IsContext registry)
the_machines registry None firing lent = tt
the_machines registry (Some one) firing lent = lent.0

pub returns-clause-owes : goal.returns-clause-owes
returns-clause-owes c =
    owed c.args.machine.now.registry c.look_into-self.result c.args.firing.now (life_at c.look_into-self.new.mask)
    c.look_into-self.ensures.context c.look_into-self.ensures.none

pub returns-clause-named : goal.returns-clause-named
returns-clause-named c seat =
    c.seats.ensures seat ∙ is_owed (life_at c.look_into-self.new.mask seat) c.args.firing.now
    ∙ ap is_some (sym (returns-clause-owes c seat))

pub returns-clause-context : goal.returns-clause-context
returns-clause-context c =
    the_machines c.args.machine.now.registry c.look_into-self.result c.args.firing.now c.look_into-self.ensures.context
