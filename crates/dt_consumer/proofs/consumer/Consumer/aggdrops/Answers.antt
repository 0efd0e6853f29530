-- The drops of each store, while it traces; and zeros before.
use Rattle.std.proofs.Common.{replicate, ap, ◌∙◌}
use Rattle.dt_life.specs.Life.{set_up}
use Rattle.dt_life.specs.Stores.{given_in}
use Rattle.dt_consumer.proofs.Stands.{traced, untraced}
use Rattle.dt_consumer.proofs.StoresTold.{aggdrops_told, no_aggdrops}
use Rattle.dt_life.specs.laws.Options.{if_ok_map}
use Rattle.dt_consumer.proofs.consumer.Consumer.aggdrops.Goals as goal

pub returns-in-Some : goal.returns-in-Some
returns-in-Some c =
    if_ok_map _ _ c.aggdrops.result
    (λ aggdrops h. λ account life m.
    let registry = c.args.machine.now.registry in
    let s = set_up account registry life in
    let t = traced account registry s c.args.self.now m.stands.keeps c.in-Some.tracing c.in-Some.is in
    h (given_in account registry s) t.processors.stores ∙ aggdrops_told account registry life c.in-Some.tracing t)
    c.aggdrops.ensures

pub returns-in_ok-vec-in-None : goal.returns-in_ok-vec-in-None
returns-in_ok-vec-in-None c = λ account life m.
    let registry = c.args.machine.now.registry in
    let off = (untraced account registry (set_up account registry life) c.args.self.now m.stands.keeps
    c.in-None.is).quiet in
    c.in_ok-vec-in-None.ensures.items_if_clones_equal (λ y h. h) ∙ ap (λ n. replicate n 0) c.cpus.ensures.value
    ∙ no_aggdrops c.drops_go_on.ensures.fresh c.drops_go_on.ensures.truncated account registry life off
