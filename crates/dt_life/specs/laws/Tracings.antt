-- What an event makes of a set-up, and what comes of it.
use Rattle.std.proofs.Common.{◌≡◌, ℕ, ℤ, ◌==◌, Bool, false, cond, List, [], ◌∷◌, ◌++◌, Option, Some, None}
use Rattle.std.proofs.Common.{map, refl, ap, ◌∙◌}
use Rattle.std.specs.List.{AllByRecursion}
use Rattle.std.specs.Option.{option_map, option_map_or, option_or}
use Rattle.std.proofs.lemmas.List.{append-nil}
use Rattle.dt_buffer.specs.History.{of_end}
use Rattle.dt_buffer.specs.Shows.{EndLast}
use Rattle.dt_cred.specs.declared.account.Account.{Account}
use Rattle.dt_ecb.specs.Ecbs.{EcbForm, of_probe}
use Rattle.dt_machine.specs.Context.{ContextForm}
use Rattle.dt_machine.specs.Registry.{Registry}
use Rattle.dt_life.specs.Buffers.{comes_by_steps, past_in}
use Rattle.dt_life.specs.Life.{SetUp, ecbs_in, end_by, happens, seen_count, tracing_steps, with_event}
use Rattle.dt_life.specs.Takings.{TracingEvent, began, seen, snapped, truncated, ended, closed, is_end, context_at, first_exit, taking_of}
use Rattle.dt_life.specs.TracingSteps.{reads, takes, past_of_steps, steps_and, steps_by, taken_at, taken_by, truncates}
use Rattle.dt_life.specs.declared.phase.End.{End}
use Rattle.dt_life.specs.declared.phase.End.TheVariants.{Exit, History}
use Rattle.dt_life.specs.laws.Buffers.{none_more_of_end}
use Rattle.dt_life.specs.laws.TracingSteps.{along}

-- an event at which ECBs are taken
abbrev pub IsFiring : TracingEvent → Type 0
IsFiring (snapped cpu) = ⊥
IsFiring (truncated name) = ⊥
IsFiring _ = Unit {0}

module _ (account : Account) (registry : Registry) (s : SetUp) where
  -- the steps, one event later
  pub steps_snap : (n : ℕ) → tracing_steps account registry (with_event s (snapped n))
      ≡ tracing_steps account registry s ++ reads n ∷ []
  steps_snap n = refl

  pub steps_trunc : (name : List ℕ) → tracing_steps account registry (with_event s (truncated name))
      ≡ tracing_steps account registry s ++ truncates name ∷ []
  steps_trunc name = refl

  pub steps_close : tracing_steps account registry (with_event s closed) ≡ tracing_steps account registry s
  steps_close = append-nil (tracing_steps account registry s)

  steps_of_firing : (event : TracingEvent) → IsFiring event
      → steps_by account registry s.options (ecbs_in account registry s) (tracing_steps account registry s) event
      ≡ map takes (taken_by account registry s.options (ecbs_in account registry s) (tracing_steps account registry s) event)
  steps_of_firing began is = refl
  steps_of_firing (seen firing) is = refl
  steps_of_firing (snapped n) is = absurd is
  steps_of_firing (truncated name) is = absurd is
  steps_of_firing (ended end) is = refl
  steps_of_firing closed is = refl

  module _ (event : TracingEvent) (m : ContextForm) (at : context_at account registry event ≡ Some m) where
    -- what is taken by an event is what is taken in its context
    pub by_is : taken_by account registry s.options (ecbs_in account registry s) (tracing_steps account registry s) event
        ≡ taken_at s.options (tracing_steps account registry s) (is_end event) m (ecbs_in account registry s)
    by_is = ap (λ o. option_map_or (λ (context : ContextForm). taken_at s.options (tracing_steps account registry s)
        (is_end event) context (ecbs_in account registry s)) o []) at

    pub steps_more : IsFiring event → tracing_steps account registry (with_event s event)
        ≡ steps_and (tracing_steps account registry s)
        (taken_at s.options (tracing_steps account registry s) (is_end event) m (ecbs_in account registry s))
    steps_more fires = ap (λ xs. tracing_steps account registry s ++ xs) (steps_of_firing event fires ∙ ap (map takes) by_is)

-- why tracing ends, written by what is known of it
pub end_is : (account : Account) (registry : Registry) (s : SetUp) (event : TracingEvent) (exit : Option ℤ) (b : Bool)
    → first_exit (taken_by account registry s.options (ecbs_in account registry s) (tracing_steps account registry s) event)
    ≡ exit → (seen_count (event ∷ s.since) == s.options.histsize) ≡ b
    → end_by account registry s event ≡ option_or (option_map Exit exit) (cond b (Some History) None)
end_is account registry s event exit b e f =
    ap (λ x. option_or (option_map Exit x) (cond (seen_count (event ∷ s.since) == s.options.histsize) (Some History) None)) e
    ∙ ap (λ x. option_or (option_map Exit exit) (cond x (Some History) None)) f

pub happens_on : (account : Account) (registry : Registry) (s : SetUp) (event : TracingEvent)
    → end_by account registry s event ≡ None → happens account registry s event ≡ with_event s event
happens_on account registry s event e = ap
    (λ o. option_map_or (λ end. with_event (with_event s event) (ended end)) o (with_event s event)) e

pub happens_last : (account : Account) (registry : Registry) (s : SetUp) (event : TracingEvent) (end : End)
    → end_by account registry s event ≡ Some end
    → happens account registry s event ≡ with_event (with_event s event) (ended end)
happens_last account registry s event end e = ap
    (λ o. option_map_or (λ end. with_event (with_event s event) (ended end)) o (with_event s event)) e

every : (ecbs : List EcbForm) → AllByRecursion (λ (ecb : EcbForm). Unit {0}) ecbs
every [] = tt
every (ecb ∷ ecbs) = (tt, every ecbs)

module _ (account : Account) (registry : Registry) (s : SetUp) where
  -- at an ordinary firing nothing of END comes
  pub still_open : (event : TracingEvent) (m : ContextForm) → IsFiring event → context_at account registry event ≡ Some m
      → is_end event ≡ false → ((cpu : ℕ) → of_end (past_in account registry s cpu).events ≡ [])
      → (cpu : ℕ) → of_end (past_in account registry (with_event s event) cpu).events ≡ []
  still_open event m fires at ordinary none cpu =
      ap (λ xs. of_end (comes_by_steps cpu xs)) (steps_more account registry s event m at fires)
      ∙ along s.options (is_end event) m (λ steps. of_end (comes_by_steps cpu steps) ≡ []) (λ ecb. Unit {0})
      (λ steps ecb still is. none_more_of_end cpu steps
      (taking_of (is_end event) (past_of_steps s.options steps) m ecb) ordinary still)
      (of_probe m.firing.probe (ecbs_in account registry s)) (every _) (tracing_steps account registry s) (none cpu)

  -- pasts with nothing of END
  pub all_last : ((cpu : ℕ) → of_end (past_in account registry s cpu).events ≡ [])
      → (cpu : ℕ) → EndLast (past_in account registry s cpu) false
  all_last none = λ cpu fill e. none cpu
