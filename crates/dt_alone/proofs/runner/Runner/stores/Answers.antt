-- The stores hold what came to them.
use Rattle.std.proofs.Common.{◌<◌, ap, ◌∙◌, ⊎_elim, arith}
use Rattle.std.specs.List.{slice_get}
use Rattle.dt_alone.specs.Happened.{given_to}
use Rattle.dt_alone.proofs.Recounting.{given_is, if_ok_both}
use Rattle.dt_life.specs.Stores.{given_in}
use Rattle.std.proofs.lemmas.Bool.{cases_lt}
use Rattle.dt_life.specs.laws.Giving.{same_at}
use Rattle.dt_life.specs.laws.Lists.{nothing_past}
use Rattle.dt_life.specs.laws.Stores.{are_zipped}
use Rattle.dt_life.specs.laws.Options.{if_some_map}
use Rattle.dt_alone.proofs.runner.Runner.stores.Goals as goal

pub returns-clause-stand : goal.returns-clause-stand
returns-clause-stand c =
    if_ok_both _ _ _ c.stores_on.result
    (λ stores each counts. λ account s h.
    let registry = c.args.machine.now.registry in
    are_zipped (given_in account registry s) stores.items registry.cpus (counts ∙ c.cpus.ensures.value)
    (λ cpu. ⊎_elim
    (λ (inside : cpu < c.args.machine.now.registry.cpus). if_some_map _ _ (slice_get stores.items cpu)
    (λ st at. same_at _ _ st
    (ap (λ hs. record { size = c.args.self.now.options.aggsize; events = given_to cpu hs }) c.deref.ensures.value
    ∙ given_is account registry s _ c.args.self.now h.within cpu inside) at)
    (each cpu))
    (λ past. nothing_past _ stores.items cpu (omega (arith, past, counts, c.cpus.ensures.value)))
    (cases_lt cpu c.args.machine.now.registry.cpus)))
    c.stores_on.ensures.each c.stores_on.ensures.len
