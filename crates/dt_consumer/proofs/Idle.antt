-- Where a consumer never traced, no step takes an ECB.
use Rattle.std.proofs.Common.{◌≡◌, ℕ, true, List, [], ◌∷◌, ◌++◌, sym, refl, subst}
use Rattle.std.specs.List.{AllByRecursion, flat_map}
use Rattle.std.proofs.lemmas.List.{append-nil}
use Rattle.dt_cred.specs.declared.account.Account.{Account}
use Rattle.dt_ecb.specs.Ecbs.{EcbForm}
use Rattle.dt_machine.specs.Registry.{Registry}
use Rattle.dt_life.specs.Life.{SetUp, ecbs_in, tracing_steps}
use Rattle.dt_life.specs.Options.{OptionsForm}
use Rattle.dt_life.specs.Takings.{TracingEvent, began, seen, snapped, truncated, ended, closed}
use Rattle.dt_life.specs.TracingSteps.{TracingStep, takes, reads, truncates, assigned_in, speculated_in, steps_since, taken_on}
use Rattle.dt_consumer.specs.Keeps.{is_quiet}

-- a step at which no ECB is taken
abbrev pub IsNoTaking : TracingStep → Type 0
IsNoTaking (takes t) = ⊥
IsNoTaking _ = Unit {0}

abbrev pub AreIdle : List TracingStep → Type 0
AreIdle steps = AllByRecursion IsNoTaking steps

one_later : (steps : List TracingStep) (step : TracingStep) → AreIdle steps → IsNoTaking step → AreIdle (steps ++ step ∷ [])
one_later [] step h k = (k, tt)
one_later (first ∷ steps) step h k = (h.0, one_later steps step h.1 k)

idle_since : (account : Account) (registry : Registry) (options : OptionsForm) (ecbs : List EcbForm) (events : List TracingEvent)
    → is_quiet events ≡ true → AreIdle (steps_since account registry options ecbs events)
idle_since account registry options ecbs [] e = tt
idle_since account registry options ecbs (began ∷ events) e = cc
idle_since account registry options ecbs (seen firing ∷ events) e = cc
idle_since account registry options ecbs (snapped n ∷ events) e =
    one_later (steps_since account registry options ecbs events) (reads n) (idle_since account registry options ecbs events e) tt
idle_since account registry options ecbs (truncated name ∷ events) e =
    one_later (steps_since account registry options ecbs events) (truncates name)
    (idle_since account registry options ecbs events e) tt
idle_since account registry options ecbs (ended end ∷ events) e = cc
idle_since account registry options ecbs (closed ∷ events) e =
    subst AreIdle (sym (append-nil (steps_since account registry options ecbs events)))
    (idle_since account registry options ecbs events e)

pub quiet_steps : (account : Account) (registry : Registry) (s : SetUp) → is_quiet s.since ≡ true
    → AreIdle (tracing_steps account registry s)
quiet_steps account registry s e = idle_since account registry s.options (ecbs_in account registry s) s.since e

-- nothing is read off such steps
pub idle_taken : (cpu : ℕ) (steps : List TracingStep) → AreIdle steps → flat_map (taken_on cpu) steps ≡ []
idle_taken cpu [] h = refl
idle_taken cpu (takes t ∷ steps) h = absurd h.0
idle_taken cpu (reads n ∷ steps) h = idle_taken cpu steps h.1
idle_taken cpu (truncates name ∷ steps) h = idle_taken cpu steps h.1

pub idle_assigned : (steps : List TracingStep) → AreIdle steps → flat_map assigned_in steps ≡ []
idle_assigned [] h = refl
idle_assigned (takes t ∷ steps) h = absurd h.0
idle_assigned (reads n ∷ steps) h = idle_assigned steps h.1
idle_assigned (truncates name ∷ steps) h = idle_assigned steps h.1

pub idle_speculated : (steps : List TracingStep) → AreIdle steps → flat_map speculated_in steps ≡ []
idle_speculated [] h = refl
idle_speculated (takes t ∷ steps) h = absurd h.0
idle_speculated (reads n ∷ steps) h = idle_speculated steps h.1
idle_speculated (truncates name ∷ steps) h = idle_speculated steps h.1
