-- What holds at each turn of a loop of `run`.
use Rattle.std.proofs.Common.{map, take}
use Rattle.dt_steps.specs.Ran.{HasTold}
use Rattle.dt_steps.specs.Stands.{EngineIsAt}
use Rattle.dt_steps.specs.Steps.{form_of_step, world_after}
use Rattle.dt_steps.proofs.running.run.Given as goal

abbrev pub invariant-loop-step : goal.invariant-loop-step
invariant-loop-step l = record {
  at : EngineIsAt l.machine.registry (world_after l.machine.registry (map form_of_step (take l.step-index l.steps)))
      l.engine;
  told : HasTold l.machine.registry (world_after l.machine.registry (map form_of_step (take l.step-index l.steps)))
      (map (λ reply. (reply.0, reply.1.items)) l.ran.replies.items) l.ran.masks.items;
}
