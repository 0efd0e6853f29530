-- How far a replay came, beside where it stands by its lines.
use Rattle.std.specs.Prelude.{◌≡◌, ℕ, ◌<◌, List, Option, Some, None, is_some, slice_index}
use Rattle.dt_chain.specs.Seats.{has}
use Rattle.dt_chain.specs.declared.seat_set.SeatSet.{SeatSet}
use Rattle.dt_machine.specs.Registry.{Contents}
use Rattle.dt_cred.specs.declared.firing.Firing.{Firing}
use Rattle.dt_machine.specs.Limits.{cpus_max}
use Rattle.dt_world.specs.Input.{AreStepLines}
use Rattle.dt_world.specs.Replay.{Replayed, replayed, next_of}
use Rattle.dt_steps.specs.Stands.{EngineIsAt}
use Rattle.dt_world.specs.StepLine.{StepLineForm}
use Rattle.dt_steps.specs.Steps.{looking}
use Rattle.dt_world.specs.Told.{IsTold}
use Rattle.dt_steps.specs.World.{World}
use Rattle.dt_world.specs.declared.progress.Progress.{Progress}
use Rattle.dt_world.specs.declared.output.Wanted.{Wanted}

-- What is kept is that of where the replay stands: the seats with their consumers, how many firings of each script
-- were taken, and what is to be written, as it is wanted.
pub record IsAfter (wanted : Wanted) (contents : Contents) (now : Replayed) (progress : Progress) : Type 0 where
  pub at : EngineIsAt contents.registry now.world progress.engine
  pub taken : (cpu : ℕ) → cpu < cpus_max → slice_index progress.taken cpu ≡ now.taken cpu
  pub same : progress.output.wanted ≡ wanted
  pub told : IsTold wanted contents.registry now.world progress.output.text.items

-- a replay with another world
abbrev pub with_world : Replayed → World → Replayed
with_world now world = record { world = world; taken = now.taken }

-- The lines so far are step lines, and this is how far a replay of them came.
pub record HasTakenLines (wanted : Wanted) (contents : Contents) (lines : List (List ℕ)) (progress : Progress)
    : Type 0 where
  pub forms : List StepLineForm
  pub steps : AreStepLines contents.registry lines forms
  pub after : IsAfter wanted contents (replayed contents forms) progress

-- A look took no firing; or it took one, and named the seats to which offers are due then.
abbrev pub IsNamed : Contents → Replayed → (cpu : ℕ) → Option SeatSet → Type 0
IsNamed contents now cpu None = next_of contents now cpu ≡ None
IsNamed contents now cpu (Some seats) = (firing : Firing) × (next_of contents now cpu ≡ Some firing)
    × ((seat : ℕ) → has seats seat ≡ is_some ((looking contents.registry now.world cpu firing).due cpu seat))
