-- What a look of a replay does.
use Rattle.std.proofs.Common.{◌≡◌, ℕ, ◌+◌, ◌<◌, ◌≤◌, ◌==◌, Bool, true, false, cond, List, Option}
use Rattle.std.proofs.Common.{Some, None, IfSome, length, get_or, set, ⊎_elim, refl, sym, ap, ◌∙◌}
use Rattle.std.proofs.Common.{subst, arith}
use Rattle.std.specs.List.{slice_get}
use Rattle.std.specs.Option.{option_and_then}
use Rattle.std.proofs.lemmas.Bool.{eq-eqb, ne_eqb, lt-ltb, cases_eq}
use Rattle.std.proofs.lemmas.List.{get_or-set_other}
use Rattle.std.proofs.lemmas.Grind.{get_or-set_at}
use Rattle.std.proofs.lemmas.Option.{slice_get_within}
use Rattle.dt_chain.specs.declared.seat_set.SeatSet.{SeatSet}
use Rattle.dt_machine.specs.Registry.{Registry, Contents, IsSound, IsInScript, firing_at}
use Rattle.dt_machine.specs.declared.limits.TheConstants.{SCRIPT_MAX}
use Rattle.dt_cred.specs.declared.firing.Firing.{Firing}
use Rattle.dt_world.specs.Replay.{Replayed, after_step_line, next_of}
use Rattle.dt_steps.specs.Stands.{IsNaming}
use Rattle.dt_world.specs.StepLine.{look_line}
use Rattle.dt_steps.specs.Steps.{looking, looking_at, may_look, is_done}
use Rattle.dt_chain.specs.Tests.{mask_of}
use Rattle.dt_steps.specs.World.{World}

module _ (registry : Registry) (world : World) (cpu : ℕ) (firing : Firing) where
  pub looking_keeps : (looking registry world cpu firing).questions ≡ world.questions
  unfolding looking
  looking_keeps = kept (may_look registry world cpu firing) where
    kept : (b : Bool) → (cond b (looking_at world cpu firing (mask_of registry world.writes firing)) world).questions
        ≡ world.questions
    kept true = refl
    kept false = refl

  -- the processor is there, and the firing is its own: the look is enabled where no offer is left
  module _ (low : cpu < registry.cpus) (own : firing.cpu ≡ cpu) where
    may_look_when : may_look registry world cpu firing ≡ is_done (world.due cpu)
    may_look_when = rw (lt-ltb cpu registry.cpus low, eq-eqb firing.cpu cpu own) refl

    pub not_done : IsNaming registry world cpu firing None
        → (is_done (world.due cpu) ≡ false) × (looking registry world cpu firing ≡ world)
    unfolding looking
    not_done off = (sym may_look_when ∙ off, rw off refl)

    pub done : (seats : SeatSet) → IsNaming registry world cpu firing (Some seats) → is_done (world.due cpu) ≡ true
    done seats on = sym may_look_when ∙ on.0

module _ (contents : Contents) (now : Replayed) (cpu : ℕ) where
  pub next_none_left : firing_at contents.scripts cpu (now.taken cpu) ≡ None → next_of contents now cpu ≡ None
  next_none_left is = none_at (is_done (now.world.due cpu)) where
    none_at : (b : Bool) → cond b (firing_at contents.scripts cpu (now.taken cpu)) None ≡ None
    none_at true = is
    none_at false = refl

  pub next_not_done : is_done (now.world.due cpu) ≡ false → next_of contents now cpu ≡ None
  next_not_done is = rw is refl

  pub next_done : (firing : Firing) → is_done (now.world.due cpu) ≡ true
      → firing_at contents.scripts cpu (now.taken cpu) ≡ Some firing → next_of contents now cpu ≡ Some firing
  next_done firing is at = rw is at

  -- where the replay stands after a look that takes nothing, and after one that takes a firing
  pub look_none : next_of contents now cpu ≡ None → after_step_line contents now (look_line cpu) ≡ now
  look_none is = rw is refl

  pub look_some : (firing : Firing) → next_of contents now cpu ≡ Some firing
      → after_step_line contents now (look_line cpu)
      ≡ record {
        world = looking contents.registry now.world cpu firing;
        taken = λ other. cond (other == cpu) (now.taken other + 1) (now.taken other);
      }
  look_some firing is = rw is refl

-- one firing more was taken of a processor
pub counted : (counts : List ℕ) (taken : ℕ → ℕ) (cpu more : ℕ) → cpu < length counts
    → ((c : ℕ) → c < 64 → get_or counts c 0 ≡ taken c) → more ≡ taken cpu + 1
    → (c : ℕ) → c < 64 → get_or (set counts cpu more) c 0 ≡ cond (c == cpu) (taken c + 1) (taken c)
counted counts taken cpu more inside before is c low =
    ⊎_elim
    (λ same. get_or-set_at counts cpu c more 0 same inside ∙ is ∙ ap (λ n. taken n + 1) (sym same)
    ∙ sym (ap (λ b. cond b (taken c + 1) (taken c)) (eq-eqb c cpu same)))
    (λ apart. get_or-set_other counts cpu c more 0 apart ∙ before c low
    ∙ sym (ap (λ b. cond b (taken c + 1) (taken c)) (ne_eqb c cpu apart)))
    (cases_eq c cpu)

module _ (contents : Contents) (sound : IsSound contents) (cpu place : ℕ) (firing : Firing)
    (is : firing_at contents.scripts cpu place ≡ Some firing) where
  pub own_firing : firing.cpu ≡ cpu
  own_firing =
      let placed : IsInScript contents.registry cpu place firing =
      subst (λ o. IfSome o (IsInScript contents.registry cpu place)) is (sound.placed cpu place) in
      placed.processor

  short_at : (script : Option (List Firing)) → slice_get contents.scripts cpu ≡ script
      → IfSome script (λ firings. length firings ≤ SCRIPT_MAX)
      → option_and_then (λ firings. slice_get firings place) script ≡ Some firing → place < SCRIPT_MAX
  short_at None at short found = cc
  short_at (Some firings) at short found =
      let within = slice_get_within firings place firing found in omega (arith, within, short)

  -- a place of a script has 32 bits, and the next one too
  pub low_place : place < 65536
  low_place = short_at (slice_get contents.scripts cpu) refl (sound.short cpu) is
