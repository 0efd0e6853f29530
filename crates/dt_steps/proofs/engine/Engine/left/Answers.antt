-- The offers that are left.
use Rattle.std.proofs.Common.{◌∙◌, ◌≤◌, length, refl, subst}
use Rattle.dt_chain.specs.Seats.{life_at}
use Rattle.dt_steps.proofs.Standing.{left-looked, left-past, read_at}
use Rattle.dt_steps.proofs.engine.Engine.left.Goals as goal

pub returns-in-Some : goal.returns-in-Some
returns-in-Some c = λ registry world at seat.
    let processors = c.args.self.now.processors.items in
    let lookup = c.in-Some.ensures.lookup in
    let is = read_at processors c.deref.result.now c.args.cpu c.in-Some.due.now c.in-Some.due.now
    c.deref.ensures.value lookup.0 lookup.1 refl in
    left-looked registry world c.args.self.now.seats.items c.args.self.now.publications processors at.0 at.1 c.args.cpu
    c.in-Some.due.now (life_at c.mask.result seat) is seat (c.mask.ensures seat)

pub returns-in-None : goal.returns-in-None
returns-in-None c = λ registry world at seat.
    let processors = c.args.self.now.processors.items in
    let high : length processors ≤ c.args.cpu =
    subst (λ list. length list ≤ c.args.cpu) c.deref.ensures.value c.in-None.ensures.lookup.3 in
    c.new.ensures seat
    ∙ left-past registry world c.args.self.now.seats.items c.args.self.now.publications processors at.0 at.1 c.args.cpu high
    seat
