-- At the start.
use Rattle.std.proofs.Common.{◌∙◌, sym, slice_get}
use Rattle.dt_steps.proofs.FreeSeats.{idle_due, idle_context}
use Rattle.dt_steps.proofs.Soundness.{sound-start}
use Rattle.dt_steps.proofs.engine.Engine.new.Goals as goal

pub returns : goal.returns
returns c = (
  sound-start c.args.machine.now.registry,
  record {
    all = sym c.in_ok-free_seats.field-0.ok.0 ∙ c.in_ok-free_seats.ensures.all;
    places = c.in_ok-free_seats.ensures.free c.args.machine.now.registry;
    published = c.new.ensures;
    cpus = sym c.in_ok-idle_processors.field-0.ok.0 ∙ c.in_ok-idle_processors.ensures.all ∙ c.cpus.ensures.value;
    due = λ cpu. idle_due (slice_get c.in_ok-idle_processors.field-0.items cpu) (c.in_ok-idle_processors.ensures.idle cpu);
    contexts = λ cpu. idle_context c.args.machine.now.registry (slice_get c.in_ok-idle_processors.field-0.items cpu)
        (c.in_ok-idle_processors.ensures.idle cpu);
  },
)
