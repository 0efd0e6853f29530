-- The phase and the counts are the life's.
use Rattle.std.proofs.Common.{refl}
use Rattle.dt_life.specs.Answer as answers
use Rattle.dt_life.specs.Ask.{status}
use Rattle.dt_consumer.proofs.DraftLemmas.{told_draft}
use Rattle.dt_consumer.proofs.consumer.Consumer.draft_status.Goals as goal

pub returns-clause-drafted : goal.returns-clause-drafted
returns-clause-drafted c = λ account life m.
    let registry = c.args.machine.now.registry in
    told_draft account registry life status _ m.in_quota refl
    (λ i. answers.status (c.phase.ensures account registry life m.stands i) (c.seen.ensures account registry life m.stands i)
    (c.in_ok-errors.ensures account life m i) (c.in_ok-aggdrops.ensures account life m i)
    (c.in_ok-dyndrops.ensures account life m i) (c.in_ok-specdrops.ensures account life m i)
    (c.specfails.ensures account registry life m.stands i))
    refl refl
