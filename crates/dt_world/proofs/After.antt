-- How far a replay came after one step more.
use Rattle.std.proofs.Common.{◌≡◌, ℕ, ◌++◌, false, List, Option, Some, None, is_some, slice_index, refl, sym, ap, ◌∙◌}
use Rattle.std.proofs.Common.{subst}
use Rattle.dt_machine.specs.Registry.{Contents}
use Rattle.dt_world.specs.Progress.{IsAfter, with_world}
use Rattle.dt_world.specs.Replay.{Replayed}
use Rattle.dt_steps.specs.Stands.{EngineIsAt}
use Rattle.dt_world.specs.Told.{IsTold, Tells}
use Rattle.dt_steps.specs.World.{World}
use Rattle.dt_world.specs.declared.output.Wanted.{Wanted}
use Rattle.dt_world.specs.declared.progress.Progress.{Progress}
use Rattle.dt_world.proofs.Silences.{SameViews}
use Rattle.dt_world.proofs.Trails.{told-silent}

module _ (wanted : Wanted) (contents : Contents) (now : Replayed) (world : World) (before after : Progress)
    (h : IsAfter wanted contents now before) (at : EngineIsAt contents.registry world after.engine)
    (taken : after.taken ≡ before.taken) where
  -- a step of which this is told
  pub after-told : (more : Wanted → List ℕ) → Tells before.output after.output (more before.output.wanted)
      → (IsTold wanted contents.registry now.world before.output.text.items
      → IsTold wanted contents.registry world (before.output.text.items ++ more wanted))
      → IsAfter wanted contents (with_world now world) after
  after-told more tells does = record {
    at = at;
    taken = λ cpu low. ap (λ list. slice_index list cpu) taken ∙ h.taken cpu low;
    same = tells.wanted ∙ h.same;
    told = subst (IsTold wanted contents.registry world)
        (ap (λ w. before.output.text.items ++ more w) (sym h.same) ∙ sym tells.text) (does h.told);
  }

  -- a step of which nothing is told
  pub after-untold : after.output ≡ before.output
      → (IsTold wanted contents.registry now.world before.output.text.items
      → IsTold wanted contents.registry world before.output.text.items)
      → IsAfter wanted contents (with_world now world) after
  after-untold same does = record {
    at = at;
    taken = λ cpu low. ap (λ list. slice_index list cpu) taken ∙ h.taken cpu low;
    same = rw same h.same;
    told = rw same (does h.told);
  }

  -- a step that answers nothing, and brings nothing to a session
  pub after-silent : world.questions ≡ now.world.questions → SameViews now.world world → after.output ≡ before.output
      → IsAfter wanted contents (with_world now world) after
  after-silent same views untold =
      after-untold untold
      (told-silent contents.registry now.world wanted world before.output.text.items same views)

pub none_there : {A : Type 0} (o : Option A) → is_some o ≡ false → o ≡ None
none_there None h = refl
none_there (Some a) h = cc
