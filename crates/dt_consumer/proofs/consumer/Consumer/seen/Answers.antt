-- Before tracing begins nothing is seen.
use Rattle.std.proofs.Common.{sym}
use Rattle.dt_life.specs.Life.{set_up}
use Rattle.dt_consumer.proofs.Stands.{untraced}
use Rattle.dt_consumer.proofs.Telling.{none_seen}
use Rattle.dt_consumer.proofs.consumer.Consumer.seen.Goals as goal

pub returns-in-None : goal.returns-in-None
returns-in-None c = λ account registry life s.
    sym (none_seen (set_up account registry life).since
    (untraced account registry (set_up account registry life) c.args.self.now s.keeps c.in-None.is).quiet)
