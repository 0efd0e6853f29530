-- No more firings are seen than the history has.
use Rattle.std.proofs.Common.{◌≡◌, ℕ, ℤ, ◌<◌, ◌≤◌, ◌==◌, ◌&&◌, ◌||◌, Bool, true, false, cond, List, [], ◌∷◌, Option, Some, None}
use Rattle.std.proofs.Common.{Ok, Err, refl, ap, arith, is_none, inl, inr}
use Rattle.std.proofs.lemmas.Bool.Decides.{eqb_tells}
use Rattle.std.specs.Bool.{nat_lt}
use Rattle.std.specs.Option.{option_map, option_map_or, option_or}
use Rattle.dt_cred.specs.declared.account.Account.{Account}
use Rattle.dt_lang.specs.Reads.{program, fault, destructive}
use Rattle.dt_machine.specs.Registry.{Registry}
use Rattle.dt_life.specs.Aggregations.{aggregation_of}
use Rattle.dt_life.specs.Ask.{option, enable, go, stop, snap, agg, trunc, status, list, describe, close}
use Rattle.dt_life.specs.Life.{Item, asked, fired, SetUp, accepts, after_item, ecbs_in, end_by, happens, has_room, is_active}
use Rattle.dt_life.specs.Life.{is_inactive, is_readable, is_stopped, phase_after, phase_of, seen_count, set_up, shapes_in}
use Rattle.dt_life.specs.Life.{since_then, tracing_steps, with_event, with_options, with_program}
use Rattle.dt_life.specs.Options.{with_setting}
use Rattle.dt_life.specs.Takings.{TracingEvent, began, seen, snapped, truncated, ended, closed, first_exit}
use Rattle.dt_life.specs.TracingSteps.{taken_by}
use Rattle.dt_life.specs.declared.phase.End.{End}
use Rattle.dt_life.specs.declared.phase.End.TheVariants.{Stop, Exit, History}
use Rattle.dt_life.specs.declared.phase.Phase.{Phase}
use Rattle.dt_life.specs.declared.phase.Phase.TheVariants.{Inactive, Active, Stopped}

-- the firings seen are within the history, and while tracing goes on there is room for one more
pub record IsCounted (s : SetUp) : Type 0 where
  pub bound : seen_count s.since ≤ s.options.histsize
  pub further : is_active (phase_of s) ≡ true → seen_count s.since < s.options.histsize

-- before tracing nothing is seen
quiet_count : (events : List TracingEvent) → is_inactive (phase_after events) ≡ true → seen_count events ≡ 0
quiet_count [] h = refl
quiet_count (began ∷ events) h = cc
quiet_count (seen firing ∷ events) h = cc
quiet_count (snapped cpu ∷ events) h = quiet_count events h
quiet_count (truncated name ∷ events) h = quiet_count events h
quiet_count (ended end ∷ events) h = cc
quiet_count (closed ∷ events) h = cc

not_both : (phase : Phase) → is_inactive phase ≡ true → is_active phase ≡ true → ⊥
not_both Inactive h k = cc
not_both Active h k = cc
not_both (Stopped cause) h k = cc

not_last : (exit : Option ℤ) (n most : ℕ) → n ≤ most
    → option_or (option_map Exit exit) (cond (n == most) (Some History) None) ≡ None → n < most
not_last (Some z) n most le h = cc
not_last None n most le h =
    elim (eqb_tells n most) [
      | inl is ↦
          let last : cond (n == most) (Some History) None ≡ Some History =
          ap (λ b. cond b (Some History) None) is.0 in cc
      | inr is_not ↦ let other = is_not.1 in omega (arith, le, other)
    ]

either : (s t : SetUp) (b : Bool) → (b ≡ true → IsCounted t) → IsCounted s → IsCounted (cond b t s)
either s t true h k = h refl
either s t false h k = k

either_not : (s t : SetUp) (b : Bool) → IsCounted t → IsCounted s → IsCounted (cond b s t)
either_not s t true h k = k
either_not s t false h k = h

module _ (account : Account) (registry : Registry) where
  counted_then : (s : SetUp) (event : TracingEvent) (end : Option End)
      → seen_count (event ∷ s.since) ≤ s.options.histsize
      → (end ≡ None → seen_count (event ∷ s.since) < s.options.histsize)
      → IsCounted (option_map_or (λ end. with_event (with_event s event) (ended end)) end (with_event s event))
  counted_then s event None le below = record { bound = le; further = λ on. below refl }
  counted_then s event (Some end) le below = record { bound = le; further = λ on. cc }

  counted_happens : (s : SetUp) (event : TracingEvent) → seen_count (event ∷ s.since) ≤ s.options.histsize
      → IsCounted (happens account registry s event)
  counted_happens s event le =
      counted_then s event (end_by account registry s event) le
      (not_last (first_exit (taken_by account registry s.options (ecbs_in account registry s)
      (tracing_steps account registry s) event))
      (seen_count (event ∷ s.since)) s.options.histsize le)

  counted_after : (s : SetUp) (item : Item) → IsCounted s → IsCounted (after_item account registry s item)
  counted_after s (asked (Err why)) h = h
  counted_after s (asked (Ok (option None))) h = h
  counted_after s (asked (Ok (option (Some setting)))) h =
      either s (with_options s (with_setting s.options setting)) (is_inactive (phase_of s)) (λ quiet.
      let none = quiet_count s.since quiet in
      record {
        bound = omega (arith, none);
        further = λ on. absurd (not_both (phase_of s) quiet on);
      }) h
  counted_after s (asked (Ok (enable (program clauses)))) h =
      either s (with_program s clauses) (accepts account registry s clauses)
      (λ is. record { bound = h.bound; further = h.further }) h
  counted_after s (asked (Ok (enable (fault at why)))) h = h
  counted_after s (asked (Ok (enable (destructive at what)))) h = h
  counted_after s (asked (Ok go)) h =
      either s (happens account registry (since_then s []) began)
      (is_inactive (phase_of s) && has_room account registry s)
      (λ is. counted_happens (since_then s []) began (omega arith)) h
  counted_after s (asked (Ok stop)) h =
      either s (with_event s (ended Stop)) (is_active (phase_of s))
      (λ is. record { bound = h.bound; further = λ on. cc }) h
  counted_after s (asked (Ok (snap cpu))) h =
      either s (with_event s (snapped cpu)) (nat_lt cpu registry.cpus && is_readable s (phase_of s))
      (λ is. record { bound = h.bound; further = h.further }) h
  counted_after s (asked (Ok (agg name))) h = h
  counted_after s (asked (Ok (trunc name))) h =
      either_not s (with_event s (truncated name))
      (is_inactive (phase_of s) || is_none (aggregation_of (shapes_in s) name))
      (record { bound = h.bound; further = h.further }) h
  counted_after s (asked (Ok status)) h = h
  counted_after s (asked (Ok (list desc))) h = h
  counted_after s (asked (Ok (describe epid))) h = h
  counted_after s (asked (Ok close)) h =
      either_not s (with_event s closed) (is_stopped (phase_of s))
      (record { bound = h.bound; further = λ on. cc }) h
  counted_after s (fired firing) h =
      either s (happens account registry s (seen firing)) (is_active (phase_of s)) (λ on.
      let more = h.further on in counted_happens s (seen firing) (omega (arith, more))) h

  pub counted : (life : List Item) → IsCounted (set_up account registry life)
  counted [] = record { bound = omega arith; further = λ on. cc }
  counted (item ∷ life) = counted_after (set_up account registry life) item (counted life)
