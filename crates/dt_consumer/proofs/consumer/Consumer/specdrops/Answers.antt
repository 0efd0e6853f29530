-- The records that speculations dropped on each processor, while it traces; and zeros before.
use Rattle.std.proofs.Common.{replicate, ap, ◌∙◌}
use Rattle.dt_life.specs.Life.{set_up}
use Rattle.dt_consumer.proofs.Stands.{traced, untraced}
use Rattle.dt_life.specs.laws.Options.{if_ok_map}
use Rattle.dt_consumer.proofs.Telling.{specdrops_told, no_specdrops}
use Rattle.dt_consumer.proofs.consumer.Consumer.specdrops.Goals as goal

pub returns-in-Some : goal.returns-in-Some
returns-in-Some c =
    if_ok_map _ _ c.specdrops.result
    (λ specdrops h. λ account life m.
    let registry = c.args.machine.now.registry in
    let s = set_up account registry life in
    let t = traced account registry s c.args.self.now m.stands.keeps c.in-Some.tracing c.in-Some.is in
    h ∙ specdrops_told account registry life c.in-Some.tracing t)
    c.specdrops.ensures

pub returns-in_ok-vec-in-None : goal.returns-in_ok-vec-in-None
returns-in_ok-vec-in-None c = λ account life m.
    let registry = c.args.machine.now.registry in
    let off = (untraced account registry (set_up account registry life) c.args.self.now m.stands.keeps
    c.in-None.is).quiet in
    c.in_ok-vec-in-None.ensures.items_if_clones_equal (λ y h. h) ∙ ap (λ n. replicate n 0) c.cpus.ensures.value
    ∙ no_specdrops account registry life off
