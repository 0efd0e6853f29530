-- What a look found for a firing serves all of its kind.
use Rattle.std.proofs.Common.{List, sym, subst, reverse}
use Rattle.dt_chain.specs.Chains.{IsMaskAfter}
use Rattle.dt_chain.specs.Seats.{life_at}
use Rattle.dt_chain.specs.Writes.{Write}
use Rattle.dt_hub.proofs.Alike.{alike_serve, of_some}
use Rattle.dt_hub.specs.Serving.{Serves}
use Rattle.dt_hub.proofs.naming.Naming.look_anew.Goals as goal
use Rattle.dt_machine.specs.Registry.{Contents}

pub invariant_of-self-2 : goal.invariant_of-self-2
invariant_of-self-2 g c = λ last is.
    let registry = g.J.Traced.contents.registry in
    let firing = c.args.firing.now in
    let mask = c.look_into.new.mask in
    let here = subst (λ (contents : Contents). IsMaskAfter contents.registry c.look_into.new.self.seen firing mask) c.requires.machine
    c.in_ok-_found.ensures.mask in
    let look = subst (λ (front : List Write). IsMaskAfter registry front firing mask) (sym c.seen.ensures) here in
    let serves : Serves registry mask c.seen.result c.of.result = λ other kind.
    alike_serve registry c.of.result firing other c.of.ensures kind (reverse c.seen.result) (life_at mask) look in
    of_some (λ l. Serves registry mask l.front l.kind) _ last is serves
