-- What a line and a firing leave of a life: tracing begins by an accepted `go` alone, and a life that traces keeps its
-- ECBs.
use Rattle.std.proofs.Common.{◌≡◌, ◌&&◌, ◌||◌, Bool, true, false, cond, List, [], ◌∷◌, Option, Some, None, Result, Ok}
use Rattle.std.proofs.Common.{Err, is_none, nat_lt, refl, sym, ap, subst}
use Rattle.std.specs.Option.{option_map_or}
use Rattle.std.proofs.lemmas.Bool.{and_parts}
use Rattle.dt_cred.specs.declared.account.Account.{Account}
use Rattle.dt_machine.specs.Registry.{Registry}
use Rattle.dt_cred.specs.declared.firing.Firing.{Firing}
use Rattle.dt_ecb.specs.Ecbs.{ecbs_of}
use Rattle.dt_lang.specs.Reads.{program, fault, destructive}
use Rattle.dt_life.specs.Aggregations.{aggregation_of}
use Rattle.dt_life.specs.Ask.{Ask, option, enable, go, stop, snap, agg, trunc, status, list, describe, close}
use Rattle.dt_life.specs.Acceptance.{after_line}
use Rattle.dt_life.specs.Life.{Item, asked, fired, SetUp, with_event, is_over, set_up, phase_of, ecbs, is_active}
use Rattle.dt_life.specs.Life.{is_inactive, is_stopped, is_readable, has_room, accepts, happens, end_by, after_item}
use Rattle.dt_life.specs.Life.{since_then, shapes_in}
use Rattle.dt_life.specs.Takings.{TracingEvent, began, seen, snapped, truncated, ended}
use Rattle.dt_life.specs.declared.phase.End.{End}
use Rattle.dt_life.specs.declared.phase.Phase.{Phase}
use Rattle.dt_life.specs.declared.phase.Phase.TheVariants.{Inactive, Active, Stopped}
use Rattle.dt_life.specs.declared.refusal.Refusal.{Refusal}

-- where the second traces, the first traced already, with the same clauses
pub record Keeps (before after : SetUp) : Type 0 where
  pub traced : is_active (phase_of after) ≡ true → is_active (phase_of before) ≡ true
  pub clauses : is_active (phase_of after) ≡ true → after.clauses ≡ before.clauses

same : (s : SetUp) → Keeps s s
same s = record { traced = λ h. h; clauses = λ h. refl }

-- one of two, of which the first is taken where something holds
either : (s t : SetUp) (b : Bool) → (b ≡ true → Keeps s t) → Keeps s (cond b t s)
either s t true h = h refl
either s t false h = same s

either_not : (s t : SetUp) (b : Bool) → Keeps s t → Keeps s (cond b s t)
either_not s t true h = same s
either_not s t false h = h

no_longer_inactive : (phase : Phase) → is_inactive phase ≡ true → is_active phase ≡ true → ⊥
no_longer_inactive Inactive h k = cc
no_longer_inactive Active h k = cc
no_longer_inactive (Stopped cause) h k = cc

module _ (account : Account) (registry : Registry) where
  happens_clauses : (s : SetUp) (event : TracingEvent) (end : Option End)
      → (option_map_or (λ why. with_event (with_event s event) (ended why)) end (with_event s event)).clauses
      ≡ s.clauses
  happens_clauses s event None = refl
  happens_clauses s event (Some why) = refl

  pub clauses-happens : (s : SetUp) (event : TracingEvent) → (happens account registry s event).clauses ≡ s.clauses
  clauses-happens s event = happens_clauses s event (end_by account registry s event)

  abbrev pub may_begin : SetUp → Bool
  may_begin s = is_inactive (phase_of s) && has_room account registry s

  -- a line that doesn't begin tracing
  line_keeps : (s : SetUp) (line : Result Ask Refusal) → (line ≡ Ok go → may_begin s ≡ false)
      → Keeps s (after_item account registry s (asked line))
  line_keeps s (Err refusal) h = same s
  line_keeps s (Ok (option None)) h = same s
  line_keeps s (Ok (option (Some setting))) h =
      either s _ (is_inactive (phase_of s)) (λ is. record { traced = λ a. a; clauses = λ a. refl })
  line_keeps s (Ok (enable (program clauses))) h =
      either s _ (accepts account registry s clauses) (λ is.
      let quiet = (and_parts _ _ is).0 in
      record {
        traced = λ a. a;
        clauses = λ a. absurd (no_longer_inactive (phase_of s) quiet a);
      })
  line_keeps s (Ok (enable (fault at why))) h = same s
  line_keeps s (Ok (enable (destructive at what))) h = same s
  line_keeps s (Ok go) h =
      subst (λ b. Keeps s (cond b (happens account registry (since_then s []) began) s)) (sym (h refl)) (same s)
  line_keeps s (Ok stop) h =
      either s _ (is_active (phase_of s)) (λ is. record { traced = λ a. cc; clauses = λ a. refl })
  line_keeps s (Ok (snap cpu)) h =
      either s (with_event s (snapped cpu)) (nat_lt cpu registry.cpus && is_readable s (phase_of s))
      (λ is. record { traced = λ a. a; clauses = λ a. refl })
  line_keeps s (Ok (agg name)) h = same s
  line_keeps s (Ok (trunc name)) h =
      either_not s (with_event s (truncated name))
      (is_inactive (phase_of s) || is_none (aggregation_of (shapes_in s) name))
      (record { traced = λ a. a; clauses = λ a. refl })
  line_keeps s (Ok status) h = same s
  line_keeps s (Ok (list desc)) h = same s
  line_keeps s (Ok (describe epid)) h = same s
  line_keeps s (Ok close) h =
      either_not s _ (is_stopped (phase_of s)) (record { traced = λ a. cc; clauses = λ a. refl })

  firing_keeps : (s : SetUp) (firing : Firing) → Keeps s (after_item account registry s (fired firing))
  firing_keeps s firing =
      either s _ (is_active (phase_of s)) (λ is. record {
        traced = λ a. is;
        clauses = λ a. clauses-happens s (seen firing);
      })

  after_line_keeps : (life : List Item) (line : Result Ask Refusal) (over : Bool)
      → (over ≡ false → line ≡ Ok go → may_begin (set_up account registry life) ≡ false)
      → Keeps (set_up account registry life) (set_up account registry (cond over life (asked line ∷ life)))
  after_line_keeps life line true h = same (set_up account registry life)
  after_line_keeps life line false h = line_keeps (set_up account registry life) line (h refl)

  -- A line that is no accepted `go`.
  pub life-after_line : (life : List Item) (line : Result Ask Refusal)
      → (is_over life ≡ false → line ≡ Ok go → may_begin (set_up account registry life) ≡ false)
      → Keeps (set_up account registry life) (set_up account registry (after_line life line))
  life-after_line life line h = after_line_keeps life line (is_over life) h

  pub life-fired : (life : List Item) (firing : Firing)
      → Keeps (set_up account registry life) (set_up account registry (fired firing ∷ life))
  life-fired life firing = firing_keeps (set_up account registry life) firing

  go_clauses : (s : SetUp) (b : Bool)
      → (cond b (happens account registry (since_then s []) began) s).clauses ≡ s.clauses
  go_clauses s true = clauses-happens (since_then s []) began
  go_clauses s false = refl

  -- A `go` leaves the ECBs.
  pub ecbs-go : (life : List Item) → ecbs account registry (asked (Ok go) ∷ life) ≡ ecbs account registry life
  ecbs-go life =
      ap (λ clauses. ecbs_of account registry clauses)
      (go_clauses (set_up account registry life) (may_begin (set_up account registry life)))
