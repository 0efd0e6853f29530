-- Cells that suffice go on to suffice: a `go` needs the room for the history, and nothing else needs more.
use Rattle.std.proofs.Common.{◌≡◌, ◌≤◌, ◌<◌, ◌+◌, ℕ, Bool, true, false, cond, List, [], ◌&&◌, ◌||◌, Option, Some, None, Result, Ok, Err, is_none, length, refl, sym, ◌∙◌, inl, inr, arith}
use Rattle.std.specs.Bool.{nat_lt}
use Rattle.std.specs.Option.{option_map_or}
use Rattle.dt_cred.specs.declared.account.Account.{Account}
use Rattle.dt_cred.specs.declared.firing.Firing.{Firing}
use Rattle.dt_lang.specs.Reads.{program, fault, destructive}
use Rattle.dt_machine.specs.Registry.{Contents, Registry}
use Rattle.dt_life.specs.Aggregations.{aggregation_of}
use Rattle.dt_life.specs.Ask.{Ask, option, enable, go, stop, snap, agg, trunc, status, list, describe, close}
use Rattle.dt_life.specs.Life.{asked, SetUp, accepts, after_item, end_by, happens, has_room, is_active, is_inactive}
use Rattle.dt_life.specs.Life.{fired as fired_item}
use Rattle.dt_life.specs.Life.{is_over, is_readable, is_stopped, phase_of, shapes_in, since_then}
use Rattle.dt_life.specs.Life.{with_event, with_options, with_program}
use Rattle.dt_life.specs.Limits.{lines_max}
use Rattle.dt_life.specs.Options.{with_setting}
use Rattle.dt_life.specs.Sees.{Sees}
use Rattle.dt_life.specs.Takings.{TracingEvent, began, seen, snapped, truncated, ended, closed}
use Rattle.dt_life.specs.declared.phase.End.{End}
use Rattle.dt_life.specs.declared.phase.End.TheVariants.{Stop}
use Rattle.dt_life.specs.declared.phase.Phase.{Phase}
use Rattle.dt_life.specs.declared.phase.Phase.TheVariants.{Inactive, Active, Stopped}
use Rattle.dt_life.specs.declared.refusal.Refusal.{Refusal}
use Rattle.dt_life.specs.laws.Seeing.{active_to}
use Rattle.dt_trail.specs.Items.{TrailItem}
use Rattle.dt_legal.specs.Rows.{life_of_row, set_up_of, IsLegalRow, Suffice}
use Rattle.dt_legal.specs.laws.Counting.{quiet, not_over, counted_row}

quiet_is_idle : (phase : Phase) → is_inactive phase ≡ true → is_active phase ≡ false
quiet_is_idle Inactive h = refl
quiet_is_idle Active h = cc
quiet_is_idle (Stopped cause) h = cc

both : (s t : SetUp) (cells : ℕ) (b : Bool) → (b ≡ true → Suffice cells t) → Suffice cells s → Suffice cells (cond b t s)
both s t cells true h k = h refl
both s t cells false h k = k

both_not : (s t : SetUp) (cells : ℕ) (b : Bool) → Suffice cells t → Suffice cells s → Suffice cells (cond b s t)
both_not s t cells true h k = k
both_not s t cells false h k = h

same_history : (s : SetUp) (end : Option End)
    → (option_map_or (λ end. with_event s (ended end)) end s).options.histsize ≡ s.options.histsize
same_history s None = refl
same_history s (Some end) = refl

least : (s : SetUp) (cells : ℕ) → Suffice cells s → lines_max ≤ cells
least s cells h = elim h [ inl room ↦ omega (arith, room) | inr idle ↦ idle.2 ]

module _ (account : Account) (registry : Registry) where
  keeps_history : (s : SetUp) (event : TracingEvent) → (happens account registry s event).options.histsize ≡ s.options.histsize
  keeps_history s event = same_history (with_event s event) (end_by account registry s event)

  -- the line is a `go` that would begin tracing
  abbrev pub Begins : SetUp → Result Ask Refusal → Type 0
  Begins s said = (is_inactive (phase_of s) && has_room account registry s ≡ true) × (said ≡ Ok go)

  pub suffices_after_line : (s : SetUp) (said : Result Ask Refusal) (cells : ℕ) → Suffice cells s
      → (Begins s said → lines_max + s.options.histsize ≤ cells)
      → Suffice cells (after_item account registry s (asked said))
  suffices_after_line s (Err why) cells h room = h
  suffices_after_line s (Ok (option None)) cells h room = h
  suffices_after_line s (Ok (option (Some setting))) cells h room =
      both s (with_options s (with_setting s.options setting)) cells (is_inactive (phase_of s))
      (λ is. inr (quiet s.since is, quiet_is_idle (phase_of s) is, least s cells h)) h
  suffices_after_line s (Ok (enable (program clauses))) cells h room =
      both s (with_program s clauses) cells (accepts account registry s clauses) (λ is. h) h
  suffices_after_line s (Ok (enable (fault at why))) cells h room = h
  suffices_after_line s (Ok (enable (destructive at what))) cells h room = h
  suffices_after_line s (Ok go) cells h room =
      both s (happens account registry (since_then s []) began) cells
      (is_inactive (phase_of s) && has_room account registry s)
      (λ is. let wide = room (is, refl) in inl (omega (arith, wide, keeps_history (since_then s []) began))) h
  suffices_after_line s (Ok stop) cells h room =
      both s (with_event s (ended Stop)) cells (is_active (phase_of s))
      (λ is. elim h [ inl wide ↦ inl wide | inr idle ↦ inr (idle.0, refl, idle.2) ]) h
  suffices_after_line s (Ok (snap cpu)) cells h room =
      both s (with_event s (snapped cpu)) cells (nat_lt cpu registry.cpus && is_readable s (phase_of s)) (λ is. h) h
  suffices_after_line s (Ok (agg name)) cells h room = h
  suffices_after_line s (Ok (trunc name)) cells h room =
      both_not s (with_event s (truncated name)) cells (is_inactive (phase_of s) || is_none (aggregation_of (shapes_in s) name)) h h
  suffices_after_line s (Ok status) cells h room = h
  suffices_after_line s (Ok (list desc)) cells h room = h
  suffices_after_line s (Ok (describe epid)) cells h room = h
  suffices_after_line s (Ok close) cells h room =
      both_not s (with_event s closed) cells (is_stopped (phase_of s))
      (elim h [ inl wide ↦ inl wide | inr idle ↦ inr (idle.0, refl, idle.2) ]) h

  pub suffices_after_firing : (s : SetUp) (firing : Firing) (cells : ℕ) → Suffice cells s
      → Suffice cells (after_item account registry s (fired_item firing))
  suffices_after_firing s firing cells h =
      both s (happens account registry s (seen firing)) cells (is_active (phase_of s)) (λ is. elim h [
        | inl wide ↦ inl (omega (arith, wide, keeps_history s (seen firing)))
        | inr idle ↦ absurd (let bad : true ≡ false = sym is ∙ idle.1 in cc)
      ]) h

module _ (account : Account) (contents : Contents) where
  -- a legal row has the lines and the history at most
  pub row_is_short : (row : List TrailItem) → IsLegalRow account contents row
      → length row ≤ lines_max + (set_up_of account contents row).options.histsize
  row_is_short row legal =
      let count = counted_row account contents row legal in
      omega (arith, count.all, count.lines_few, count.seen_few)

  -- there is a cell for a line within the quota
  pub line_has_room : (row : List TrailItem) (cells : ℕ) → IsLegalRow account contents row
      → Suffice cells (set_up_of account contents row) → is_over (life_of_row account contents row) ≡ false
      → length row < cells
  line_has_room row cells legal h quota =
      let count = counted_row account contents row legal in
      let few = not_over (life_of_row account contents row) quota in
      elim h [
        | inl wide ↦ omega (arith, wide, count.all, count.seen_few, few)
        | inr idle ↦ omega (arith, idle.0, idle.2, count.all, few)
      ]

  -- there is a cell for a firing that is seen
  pub firing_has_room : (row : List TrailItem) (firing : Firing) (cells : ℕ) → IsLegalRow account contents row
      → Suffice cells (set_up_of account contents row) → Sees account contents.registry (life_of_row account contents row) firing
      → length row < cells
  firing_has_room row firing cells legal h sees =
      let count = counted_row account contents row legal in
      let on = active_to _ sees.active in
      let further = count.further on in
      elim h [
        | inl wide ↦ omega (arith, wide, count.all, count.lines_few, further)
        | inr idle ↦ absurd (let bad : true ≡ false = sym on ∙ idle.1 in cc)
      ]
