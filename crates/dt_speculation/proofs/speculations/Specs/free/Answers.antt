-- The use of an identifier ends, or none does.
use Rattle.std.proofs.Common.{refl}
use Rattle.dt_speculation.proofs.Pasts.{free_nowhere, free_somewhere}
use Rattle.dt_speculation.proofs.speculations.Specs.free.Goals as goal

pub returns-in-Some-clause-stands : goal.returns-in-Some-clause-stands
returns-in-Some-clause-stands c = λ past s.
    free_somewhere past c.args.self.now s c.args.id _ c.in-Some.place c.index_mut.result.now c.free.new.self
    c.in-Some.ensures.0 c.in-Some.ensures.1 c.index_mut.ensures.value refl refl c.free.ensures.stands

pub returns-in_default-clause-stands : goal.returns-in_default-clause-stands
returns-in_default-clause-stands c = λ past s. free_nowhere past c.args.self.now s c.args.id c.in_default.ensures
