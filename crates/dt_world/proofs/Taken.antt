-- The lines that were taken, and one more.
use Rattle.std.proofs.Common.{◌≡◌, ℕ, zero, suc, ◌+◌, ◌<◌, ◌^◌, true, List, [], ◌∷◌, ◌++◌, length, get_or, replicate}
use Rattle.std.proofs.Common.{refl, sym, subst, arith}
use Rattle.dt_machine.specs.Registry.{Registry, Contents}
use Rattle.dt_world.specs.Input.{AreStepLines, IsLineOn, is_written}
use Rattle.dt_world.specs.Progress.{IsAfter, HasTakenLines}
use Rattle.dt_world.specs.Replay.{replayed, after_step_line}
use Rattle.dt_world.specs.StepLine.{StepLineForm, SpellsStepLine}
use Rattle.dt_world.specs.Told.{IsTold}
use Rattle.dt_steps.specs.World.{number_on, new_world}
use Rattle.dt_world.specs.declared.progress.Progress.{Progress}
use Rattle.dt_world.specs.declared.output.Wanted.{Wanted}
use Rattle.dt_world.specs.declared.output.Wanted.TheVariants as wanted
use Rattle.dt_world.proofs.LineLists.{lines-one_more, replayed-one_more, fewer_forms, last_line, same_line}
use Rattle.dt_world.proofs.Numbers.{few_closed}

-- at first nothing is told
pub nothing_told : (wanted : Wanted) (registry : Registry) (text : List ℕ) → text ≡ []
    → IsTold wanted registry new_world text
nothing_told wanted.Replies registry text is = ([], tt, is)
nothing_told (wanted.Trail own) registry text is = is

pub taken-one_more : (wanted : Wanted) (contents : Contents) (lines : List (List ℕ)) (line : List ℕ)
    (form : StepLineForm)
    (before after : Progress) → (h : HasTakenLines wanted contents lines before) → is_written line ≡ true
    → SpellsStepLine line form
    → IsLineOn contents.registry form
    → IsAfter wanted contents (after_step_line contents (replayed contents h.forms) form) after
    → HasTakenLines wanted contents (lines ++ line ∷ []) after
taken-one_more wanted contents lines line form before after h written spells known now = record {
  forms = h.forms ++ form ∷ [];
  steps = lines-one_more contents.registry lines h.forms line form h.steps written spells known;
  after = subst (λ at. IsAfter wanted contents at after) (sym (replayed-one_more contents h.forms form)) now;
}

-- there is room for one closed session more on each seat
pub room : (wanted : Wanted) (contents : Contents) (lines : List (List ℕ)) (progress : Progress)
    → (h : HasTakenLines wanted contents lines progress)
    → length lines + 1 < 2 ^ 64 → (seat : ℕ) → number_on (replayed contents h.forms).world seat + 1 < 2 ^ 64
room wanted contents lines progress h small seat =
    omega (arith, small, few_closed contents seat h.forms, fewer_forms contents.registry lines h.forms h.steps)

pub refused_unspelled : (registry : Registry) (lines : List (List ℕ)) (line : List ℕ) → is_written line ≡ true
    → ((form : StepLineForm) → SpellsStepLine line form → ⊥) → (forms : List StepLineForm)
    → AreStepLines registry (lines ++ line ∷ []) forms → ⊥
refused_unspelled registry lines line written none forms all =
    let last = last_line registry lines forms line written all in
    none last.form last.spells

pub refused_unknown : (registry : Registry) (lines : List (List ℕ)) (line : List ℕ) (form : StepLineForm)
    → is_written line ≡ true → SpellsStepLine line form → (IsLineOn registry form → ⊥) → (forms : List StepLineForm)
    → AreStepLines registry (lines ++ line ∷ []) forms → ⊥
refused_unknown registry lines line form written spells none forms all =
    none (same_line registry line form spells (last_line registry lines forms line written all))

pub zeros : (n cpu : ℕ) → get_or (replicate {A = ℕ} n 0) cpu 0 ≡ 0
zeros zero cpu = refl
zeros (suc n) zero = refl
zeros (suc n) (suc cpu) = zeros n cpu
