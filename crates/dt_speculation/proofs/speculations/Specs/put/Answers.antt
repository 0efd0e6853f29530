-- A record comes to the part of an identifier, or nowhere.
use Rattle.std.proofs.Common.{refl}
use Rattle.dt_speculation.proofs.Pasts.{put_nowhere, put_said, put_somewhere, put_unknown}
use Rattle.dt_speculation.proofs.speculations.Specs.put.Goals as goal

pub returns-in_default-clause-answers : goal.returns-in_default-clause-answers
returns-in_default-clause-answers c = λ past s.
    put_unknown past c.args.self.now s c.args.id c.args.cpu c.args.bytes.now c.in_default.ensures

pub returns-in_default-clause-stands : goal.returns-in_default-clause-stands
returns-in_default-clause-stands c = λ past s.
    put_nowhere past c.args.self.now s c.args.id c.args.cpu c.args.bytes.now c.in_default.ensures

pub returns-clause-answers : goal.returns-clause-answers
returns-clause-answers c = λ past s.
    put_said past c.args.self.now s c.args.id c.args.cpu c.args.bytes.now c.in-Some.place c.in-Some.ensures.0
    c.in-Some.ensures.1 c.index_mut.result.now c.put.new.self c.index_mut.ensures.value c.put.result c.put.ensures.answers

pub returns-clause-stands : goal.returns-clause-stands
returns-clause-stands c = λ past s.
    put_somewhere past c.args.self.now s c.args.id c.args.cpu c.args.bytes.now c.in-Some.place c.in-Some.ensures.0
    c.in-Some.ensures.1 c.index_mut.result.now c.put.new.self c.index_mut.ensures.value _ refl refl c.put.ensures.stands
