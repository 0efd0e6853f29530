-- Look.
use Rattle.std.proofs.Common.{◌≡◌, ◌∙◌, ◌&&◌, ◌==◌, nat_lt, true, false, rules, sym}
use Rattle.std.proofs.lemmas.Bool.{eq-eqb, ne_eqb, and_left, and_right}
use Rattle.dt_steps.specs.Steps.{is_done}
use Rattle.dt_steps.proofs.Soundness.{sound-looking}
use Rattle.dt_steps.proofs.Standing.{kept-looking, kept-looking-not, naming-looking, naming-not}
use Rattle.dt_steps.proofs.engine.Engine.look.Goals as goal

pub returns-clause-at : goal.returns-clause-at
returns-clause-at c = λ world at.
    let registry = c.args.machine.now.registry in
    let done : c.is_done.result ≡ true = search rules in (
      sound-looking registry world at.0 c.args.cpu c.args.firing.now,
      kept-looking registry world c.args.self.now.seats.items c.args.self.now.publications
          c.args.self.now.processors.items at.0 at.1 c.args.cpu c.args.firing.now c.look.new.self
          (eq-eqb c.args.firing.now.cpu c.args.cpu c.if-firing-cpu.false)
          (sym (c.is_done.ensures.done registry world at) ∙ done)
          (c.look.ensures.look world.writes at.1.published) c.look.ensures.owes c.look.ensures.context,
    )

pub returns-clause-answer : goal.returns-clause-answer
returns-clause-answer c = λ world at.
    let registry = c.args.machine.now.registry in
    let done : c.is_done.result ≡ true = search rules in
    naming-looking registry world c.args.self.now.seats.items c.args.self.now.publications
    c.args.self.now.processors.items at.0 at.1 c.args.cpu c.args.firing.now c.look.new.self c.look.result
    (eq-eqb c.args.firing.now.cpu c.args.cpu c.if-firing-cpu.false)
    (sym (c.is_done.ensures.done registry world at) ∙ done)
    (c.look.ensures.look world.writes at.1.published) c.look.ensures.owes c.look.ensures.context c.look.ensures.named

pub returns-then-firing-cpu-clause-answer : goal.returns-then-firing-cpu-clause-answer
returns-then-firing-cpu-clause-answer c = λ world at.
    let registry = c.args.machine.now.registry in
    let other : (c.args.firing.now.cpu == c.args.cpu) ≡ false =
    ne_eqb c.args.firing.now.cpu c.args.cpu c.if-firing-cpu.true in
    naming-not registry world c.args.self.now.seats.items c.args.self.now.publications
    c.args.self.now.processors.items at.0 at.1 c.args.cpu c.args.firing.now
    (and_left (c.args.firing.now.cpu == c.args.cpu)
    (nat_lt c.args.cpu registry.cpus && is_done (world.due c.args.cpu)) other)

pub returns-then-firing-cpu-clause-at : goal.returns-then-firing-cpu-clause-at
returns-then-firing-cpu-clause-at c = λ world at.
    kept-looking-not c.args.machine.now.registry world c.args.self.now.seats.items c.args.self.now.publications
    c.args.self.now.processors.items at.0 at.1 c.args.cpu c.args.firing.now
    (returns-then-firing-cpu-clause-answer c world at)

pub returns-then-not-is_done-clause-answer : goal.returns-then-not-is_done-clause-answer
returns-then-not-is_done-clause-answer c = λ world at.
    let registry = c.args.machine.now.registry in
    let busy : c.is_done.result ≡ false = search rules in
    let off : (nat_lt c.args.cpu registry.cpus && is_done (world.due c.args.cpu)) ≡ false =
    sym (c.is_done.ensures.done registry world at) ∙ busy in
    naming-not registry world c.args.self.now.seats.items c.args.self.now.publications
    c.args.self.now.processors.items at.0 at.1 c.args.cpu c.args.firing.now
    (and_right (c.args.firing.now.cpu == c.args.cpu)
    (nat_lt c.args.cpu registry.cpus && is_done (world.due c.args.cpu)) off)

pub returns-then-not-is_done-clause-at : goal.returns-then-not-is_done-clause-at
returns-then-not-is_done-clause-at c = λ world at.
    kept-looking-not c.args.machine.now.registry world c.args.self.now.seats.items c.args.self.now.publications
    c.args.self.now.processors.items at.0 at.1 c.args.cpu c.args.firing.now
    (returns-then-not-is_done-clause-answer c world at)
