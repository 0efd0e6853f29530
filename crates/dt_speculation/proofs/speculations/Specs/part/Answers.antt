-- The bytes of a part.
use Rattle.dt_speculation.proofs.Pasts.{part_nowhere, part_somewhere}
use Rattle.dt_speculation.proofs.speculations.Specs.part.Goals as goal

pub returns-in_default : goal.returns-in_default
returns-in_default c = λ past s. part_nowhere past c.args.self.now s c.args.id c.args.cpu c.in_default.ensures

pub returns : goal.returns
returns c = λ past s.
    part_somewhere past c.args.self.now s c.args.id c.args.cpu c.in-Some.place c.index.result.now c.part.result.now
    c.in-Some.ensures.0 c.in-Some.ensures.1 c.index.ensures c.part.ensures
