-- The failed draws, while it traces; and none before.
use Rattle.dt_life.specs.Life.{set_up}
use Rattle.dt_life.specs.Variables.{specs_in}
use Rattle.dt_consumer.proofs.Stands.{traced, untraced}
use Rattle.dt_consumer.proofs.Telling.{no_specfails}
use Rattle.dt_consumer.proofs.consumer.Consumer.specfails.Goals as goal

pub returns-in-Some : goal.returns-in-Some
returns-in-Some c = λ account registry life s.
    let own = set_up account registry life in
    let t = traced account registry own c.args.self.now s.keeps c.in-Some.tracing c.in-Some.is in
    c.fails.ensures.shows (specs_in account registry own) t.processors.specs

pub returns-in-None : goal.returns-in-None
returns-in-None c = λ account registry life s.
    no_specfails account registry life
    (untraced account registry (set_up account registry life) c.args.self.now s.keeps c.in-None.is).quiet
