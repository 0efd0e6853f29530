-- The phase in words: nothing but an accepted `go` begins tracing, it ends at the earliest end, and then the first cause stays;
-- no more firings are seen than the history has.
use Rattle.std.proofs.Common.{◌≡◌, ◌≢◌, ◌&&◌, ◌||◌, Bool, true, false, cond, []}
use Rattle.std.proofs.Common.{Option, Some, None, Ok, Err, refl, ap, ◌∙◌, is_none}
use Rattle.std.proofs.lemmas.Bool.{and_parts, both_ways}
use Rattle.std.specs.Bool.{nat_lt}
use Rattle.std.specs.Option.{option_map_or}
use Rattle.dt_cred.specs.declared.account.Account.{Account}
use Rattle.dt_lang.specs.Reads.{program, fault, destructive}
use Rattle.dt_machine.specs.Registry.{Registry}
use Rattle.dt_life.specs.Aggregations.{aggregation_of}
use Rattle.dt_life.specs.Ask.{option, enable, go, stop, snap, agg, trunc, status, list, describe, close}
use Rattle.dt_life.specs.Ending.{phase_by_event, phase_by_item}
use Rattle.dt_life.specs.Life.{Item, asked, fired, SetUp, accepts, after_item, end_by, happens, has_room, is_active}
use Rattle.dt_life.specs.Life.{is_inactive, is_readable, is_stopped, phase_of}
use Rattle.dt_life.specs.Life.{shapes_in, since_then, with_event, with_options, with_program}
use Rattle.dt_life.specs.Options.{with_setting}
use Rattle.dt_life.specs.Takings.{TracingEvent, began, seen, snapped, truncated, ended, closed}
use Rattle.dt_life.specs.declared.phase.End.{End}
use Rattle.dt_life.specs.declared.phase.End.TheVariants.{Stop}
use Rattle.dt_life.specs.declared.phase.Phase.TheVariants.{Inactive, Active, Stopped}
use Rattle.dt_life.specs.laws.Happening.{same_clauses}

module _ (account : Account) (registry : Registry) where
  -- the phase after an event at which tracing may end
  phase_then : (s : SetUp) (event : TracingEvent) (end : Option End) → phase_of (with_event s event) ≡ Active
      → phase_of (option_map_or (λ end. with_event (with_event s event) (ended end)) end (with_event s event))
      ≡ option_map_or (λ end. Stopped (Some end)) end Active
  phase_then s event None active = active
  phase_then s event (Some end) active = refl

  phase_happens : (s : SetUp) (event : TracingEvent) → phase_of (with_event s event) ≡ Active
      → phase_of (happens account registry s event) ≡ phase_by_event account registry s event
  phase_happens s event active = phase_then s event (end_by account registry s event) active

  -- what becomes of a phase by a reading or a truncation: nothing
  pub going_on : (s : SetUp) → phase_of s ≡ Active → (item : Item)
      → phase_of (after_item account registry s item) ≡ phase_by_item account registry s item
  going_on s on (asked (Err why)) = on
  going_on s on (asked (Ok (option None))) = on
  going_on s on (asked (Ok (option (Some setting)))) =
      ap (λ p. phase_of (cond (is_inactive p) (with_options s (with_setting s.options setting)) s)) on ∙ on
  going_on s on (asked (Ok (enable (program clauses)))) = either (accepts account registry s clauses)
    where
      either : (b : Bool) → phase_of (cond b (with_program s clauses) s) ≡ Active
      either true = on
      either false = on
  going_on s on (asked (Ok (enable (fault at why)))) = on
  going_on s on (asked (Ok (enable (destructive at what)))) = on
  going_on s on (asked (Ok go)) =
      ap (λ p. phase_of (cond (is_inactive p && has_room account registry s)
      (happens account registry (since_then s []) began) s)) on ∙ on
  going_on s on (asked (Ok stop)) = ap (λ p. phase_of (cond (is_active p) (with_event s (ended Stop)) s)) on
  going_on s on (asked (Ok (snap cpu))) = either (nat_lt cpu registry.cpus && is_readable s (phase_of s))
    where
      either : (b : Bool) → phase_of (cond b (with_event s (snapped cpu)) s) ≡ Active
      either true = on
      either false = on
  going_on s on (asked (Ok (agg name))) = on
  going_on s on (asked (Ok (trunc name))) =
      either (is_inactive (phase_of s) || is_none (aggregation_of (shapes_in s) name))
    where
      either : (b : Bool) → phase_of (cond b s (with_event s (truncated name))) ≡ Active
      either true = on
      either false = on
  going_on s on (asked (Ok status)) = on
  going_on s on (asked (Ok (list desc))) = on
  going_on s on (asked (Ok (describe epid))) = on
  going_on s on (asked (Ok close)) = ap (λ p. phase_of (cond (is_stopped p) s (with_event s closed))) on
  going_on s on (fired firing) =
      ap (λ p. phase_of (cond (is_active p) (happens account registry s (seen firing)) s)) on
      ∙ phase_happens s (seen firing) refl

  -- After the end nothing changes the phase.
  pub staying : (s : SetUp) (cause : Option End) → phase_of s ≡ Stopped cause → (item : Item)
      → phase_of (after_item account registry s item) ≡ Stopped cause
  staying s cause off (asked (Err why)) = off
  staying s cause off (asked (Ok (option None))) = off
  staying s cause off (asked (Ok (option (Some setting)))) =
      ap (λ p. phase_of (cond (is_inactive p) (with_options s (with_setting s.options setting)) s)) off ∙ off
  staying s cause off (asked (Ok (enable (program clauses)))) = either (accepts account registry s clauses)
    where
      either : (b : Bool) → phase_of (cond b (with_program s clauses) s) ≡ Stopped cause
      either true = off
      either false = off
  staying s cause off (asked (Ok (enable (fault at why)))) = off
  staying s cause off (asked (Ok (enable (destructive at what)))) = off
  staying s cause off (asked (Ok go)) =
      ap (λ p. phase_of (cond (is_inactive p && has_room account registry s)
      (happens account registry (since_then s []) began) s)) off ∙ off
  staying s cause off (asked (Ok stop)) =
      ap (λ p. phase_of (cond (is_active p) (with_event s (ended Stop)) s)) off ∙ off
  staying s cause off (asked (Ok (snap cpu))) = either (nat_lt cpu registry.cpus && is_readable s (phase_of s))
    where
      either : (b : Bool) → phase_of (cond b (with_event s (snapped cpu)) s) ≡ Stopped cause
      either true = off
      either false = off
  staying s cause off (asked (Ok (agg name))) = off
  staying s cause off (asked (Ok (trunc name))) =
      either (is_inactive (phase_of s) || is_none (aggregation_of (shapes_in s) name))
    where
      either : (b : Bool) → phase_of (cond b s (with_event s (truncated name))) ≡ Stopped cause
      either true = off
      either false = off
  staying s cause off (asked (Ok status)) = off
  staying s cause off (asked (Ok (list desc))) = off
  staying s cause off (asked (Ok (describe epid))) = off
  staying s cause off (asked (Ok close)) = ap (λ p. phase_of (cond (is_stopped p) s (with_event s closed))) off ∙ off
  staying s cause off (fired firing) =
      ap (λ p. phase_of (cond (is_active p) (happens account registry s (seen firing)) s)) off ∙ off

  -- An accepted `go`: tracing begins, and ends at once where a clause of BEGIN exits.
  pub beginning : (s : SetUp) → phase_of s ≡ Inactive → has_room account registry s ≡ true
      → phase_of (after_item account registry s (asked (Ok go)))
      ≡ phase_by_event account registry (since_then s []) began
  beginning s quiet room =
      ap (λ p. phase_of (cond (is_inactive p && has_room account registry s)
      (happens account registry (since_then s []) began) s)) quiet
      ∙ ap (λ b. phase_of (cond b (happens account registry (since_then s []) began) s)) room
      ∙ phase_happens (since_then s []) began refl

  -- a line that leaves a quiet consumer quiet
  quiet_either : (s t : SetUp) (b : Bool) → phase_of s ≡ Inactive → phase_of t ≡ Inactive
      → phase_of (cond b t s) ≡ Inactive
  quiet_either s t true quiet same = same
  quiet_either s t false quiet same = quiet

  -- Nothing else ends the time before tracing, but a `close`.
  pub waiting : (s : SetUp) → phase_of s ≡ Inactive → (item : Item)
      → (item ≡ asked (Ok go) → has_room account registry s ≡ true → ⊥) → item ≢ asked (Ok close)
      → phase_of (after_item account registry s item) ≡ Inactive
  waiting s quiet (asked (Err why)) no_go no_close = quiet
  waiting s quiet (asked (Ok (option None))) no_go no_close = quiet
  waiting s quiet (asked (Ok (option (Some setting)))) no_go no_close =
      quiet_either s (with_options s (with_setting s.options setting)) (is_inactive (phase_of s)) quiet quiet
  waiting s quiet (asked (Ok (enable (program clauses)))) no_go no_close =
      quiet_either s (with_program s clauses) (accepts account registry s clauses) quiet quiet
  waiting s quiet (asked (Ok (enable (fault at why)))) no_go no_close = quiet
  waiting s quiet (asked (Ok (enable (destructive at what)))) no_go no_close = quiet
  waiting s quiet (asked (Ok go)) no_go no_close = by_room (has_room account registry s) refl
    where
      by_room : (room : Bool) → has_room account registry s ≡ room
          → phase_of (after_item account registry s (asked (Ok go))) ≡ Inactive
      by_room true is = absurd (no_go refl is)
      by_room false is =
          ap (λ p. phase_of (cond (is_inactive p && has_room account registry s)
          (happens account registry (since_then s []) began) s)) quiet
          ∙ ap (λ b. phase_of (cond b (happens account registry (since_then s []) began) s)) is ∙ quiet
  waiting s quiet (asked (Ok stop)) no_go no_close =
      ap (λ p. phase_of (cond (is_active p) (with_event s (ended Stop)) s)) quiet ∙ quiet
  waiting s quiet (asked (Ok (snap cpu))) no_go no_close =
      quiet_either s (with_event s (snapped cpu)) (nat_lt cpu registry.cpus && is_readable s (phase_of s)) quiet quiet
  waiting s quiet (asked (Ok (agg name))) no_go no_close = quiet
  waiting s quiet (asked (Ok (trunc name))) no_go no_close =
      ap (λ p. phase_of (cond (is_inactive p || is_none (aggregation_of (shapes_in s) name)) s
      (with_event s (truncated name)))) quiet ∙ quiet
  waiting s quiet (asked (Ok status)) no_go no_close = quiet
  waiting s quiet (asked (Ok (list desc))) no_go no_close = quiet
  waiting s quiet (asked (Ok (describe epid))) no_go no_close = quiet
  waiting s quiet (asked (Ok close)) no_go no_close = absurd (no_close refl)
  waiting s quiet (fired firing) no_go no_close =
      ap (λ p. phase_of (cond (is_active p) (happens account registry s (seen firing)) s)) quiet ∙ quiet

  -- A `close` before tracing stops it too, without a cause.
  pub closing : (s : SetUp) → phase_of s ≡ Inactive
      → phase_of (after_item account registry s (asked (Ok close))) ≡ Stopped None
  closing s quiet = ap (λ p. phase_of (cond (is_stopped p) s (with_event s closed))) quiet

  -- From its `go` on a consumer keeps its clauses, and so its ECBs.
  pub keeping : (s : SetUp) → is_inactive (phase_of s) ≡ false → (item : Item)
      → (after_item account registry s item).clauses ≡ s.clauses
  keeping s on (asked (Err why)) = refl
  keeping s on (asked (Ok (option None))) = refl
  keeping s on (asked (Ok (option (Some setting)))) =
      ap (λ b. (cond b (with_options s (with_setting s.options setting)) s).clauses) on
  keeping s on (asked (Ok (enable (program clauses)))) = either (accepts account registry s clauses) refl
    where
      either : (b : Bool) → accepts account registry s clauses ≡ b → (cond b (with_program s clauses) s).clauses ≡ s.clauses
      either true is =
          let quiet : is_inactive (phase_of s) ≡ true =
          (and_parts (is_inactive (phase_of s)) _ is).0 in
          absurd (both_ways (is_inactive (phase_of s)) on quiet)
      either false is = refl
  keeping s on (asked (Ok (enable (fault at why)))) = refl
  keeping s on (asked (Ok (enable (destructive at what)))) = refl
  keeping s on (asked (Ok go)) =
      ap (λ b. (cond (b && has_room account registry s) (happens account registry (since_then s []) began) s).clauses) on
  keeping s on (asked (Ok stop)) = either (is_active (phase_of s))
    where
      either : (b : Bool) → (cond b (with_event s (ended Stop)) s).clauses ≡ s.clauses
      either true = refl
      either false = refl
  keeping s on (asked (Ok (snap cpu))) = either (nat_lt cpu registry.cpus && is_readable s (phase_of s))
    where
      either : (b : Bool) → (cond b (with_event s (snapped cpu)) s).clauses ≡ s.clauses
      either true = refl
      either false = refl
  keeping s on (asked (Ok (agg name))) = refl
  keeping s on (asked (Ok (trunc name))) =
      either (is_inactive (phase_of s) || is_none (aggregation_of (shapes_in s) name))
    where
      either : (b : Bool) → (cond b s (with_event s (truncated name))).clauses ≡ s.clauses
      either true = refl
      either false = refl
  keeping s on (asked (Ok status)) = refl
  keeping s on (asked (Ok (list desc))) = refl
  keeping s on (asked (Ok (describe epid))) = refl
  keeping s on (asked (Ok close)) = either (is_stopped (phase_of s))
    where
      either : (b : Bool) → (cond b s (with_event s closed)).clauses ≡ s.clauses
      either true = refl
      either false = refl
  keeping s on (fired firing) = either (is_active (phase_of s))
    where
      either : (b : Bool) → (cond b (happens account registry s (seen firing)) s).clauses ≡ s.clauses
      either true = same_clauses account registry s (seen firing)
      either false = refl
