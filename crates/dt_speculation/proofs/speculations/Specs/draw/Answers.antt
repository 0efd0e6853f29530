-- A draw gives the first identifier that isn't in use, or fails.
use Rattle.std.proofs.Common.{refl}
use Rattle.dt_speculation.proofs.Pasts.{draw_failed, draw_given, draw_none, draw_some}
use Rattle.dt_speculation.proofs.speculations.Specs.draw.Goals as goal

pub returns-in_default-clause-answers : goal.returns-in_default-clause-answers
returns-in_default-clause-answers c = λ past s. draw_none past c.args.self.now s c.in_default.ensures

pub returns-in_default-clause-stands : goal.returns-in_default-clause-stands
returns-in_default-clause-stands c = λ past s. draw_failed past c.args.self.now s _ refl refl c.in_default.ensures

pub returns-clause-answers : goal.returns-clause-answers
returns-clause-answers c = λ past s. draw_some past c.args.self.now s c.in-Some.place c.in-Some.ensures

pub returns-clause-stands : goal.returns-clause-stands
returns-clause-stands c = λ past s.
    draw_given past c.args.self.now s c.in-Some.place c.in-Some.ensures _ c.index_mut.result.now c.begin.new.self
    c.index_mut.ensures.value refl refl c.begin.ensures.stands
