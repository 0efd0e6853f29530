-- Whether none of a processor's offers is left.
use Rattle.std.proofs.Common.{refl}
use Rattle.dt_steps.proofs.Standing.{done-looked, read_at}
use Rattle.dt_steps.proofs.engine.Engine.is_done.Goals as goal

pub returns-in-Some-clause-done : goal.returns-in-Some-clause-done
returns-in-Some-clause-done c = λ registry world at.
    let processors = c.args.self.now.processors.items in
    let lookup = c.in-Some.ensures.lookup in
    let is = read_at processors c.deref.result.now c.args.cpu c.in-Some.due.now c.in-Some.due.now
    c.deref.ensures.value lookup.0 lookup.1 refl in
    done-looked registry world c.args.self.now.seats.items c.args.self.now.publications processors at.0 at.1 c.args.cpu
    c.in-Some.due.now c.is_done.result is c.is_done.ensures.done c.is_done.ensures.busy
