-- Once tracing began it doesn't become as if it hadn't, it keeps its ECBs, and its end stays.
use Rattle.std.proofs.Common.{◌≡◌, ◌&&◌, true, false, List, [], ◌∷◌, ◌++◌, Option, Some, None, Result, Ok, Err, refl, sym, ap, ◌∙◌, subst, arith, append-nil, append_assoc}
use Rattle.std.specs.Option.{option_map_or}
use Rattle.dt_cred.specs.declared.account.Account.{Account}
use Rattle.dt_ecb.specs.Ecbs.{ecbs_of}
use Rattle.dt_legal.specs.Rows.{IsGoAfter, IsLegalRow, life_of_row, line_form_of}
use Rattle.dt_legal.specs.laws.Beginning.{past_of_last}
use Rattle.dt_life.specs.Ask.{Ask, option, enable, go, stop, snap, agg, trunc, status, list, describe, close}
use Rattle.dt_life.specs.Ending.{phase_by_item}
use Rattle.dt_life.specs.Life.{Item, SetUp, after_item, asked, ecbs, end_by, has_room, is_inactive, is_stopped, phase, phase_of, set_up, since_then}
use Rattle.dt_life.specs.Life.{fired as fired_item}
use Rattle.dt_life.specs.Takings.{began, seen}
use Rattle.dt_life.specs.declared.phase.End.{End}
use Rattle.dt_life.specs.declared.phase.Phase.{Phase}
use Rattle.dt_life.specs.declared.phase.Phase.TheVariants.{Inactive, Active, Stopped}
use Rattle.dt_life.specs.declared.refusal.Refusal.{Refusal}
use Rattle.dt_life.specs.laws.Phases.{beginning, going_on, keeping, staying}
use Rattle.dt_machine.specs.Registry.{Contents}
use Rattle.dt_meeting.specs.laws.Going.{go_keeps, lived_fired}
use Rattle.dt_meeting.specs.laws.Seen.{legal_front}
use Rattle.dt_proto.specs.Legal.{IsLegal}
use Rattle.dt_proto.specs.Line.{ask_in}
use Rattle.dt_trail.specs.Items.{StartsWith, TrailItem, line, long_line, fired, whose}

by_end : (end : Option End) → is_inactive (option_map_or (λ end. Stopped (Some end)) end Active) ≡ false
by_end None = refl
by_end (Some end) = refl

module _ (account : Account) (contents : Contents) where
  abbrev Lived : List TrailItem → List Item
  Lived row = life_of_row account contents row

  abbrev PhaseOf : List TrailItem → Phase
  PhaseOf row = phase account contents.registry (Lived row)

  by_item : (s : SetUp) (item : Item) → is_inactive (phase_by_item account contents.registry s item) ≡ false
  by_item s (asked (Err why)) = refl
  by_item s (asked (Ok (option setting))) = refl
  by_item s (asked (Ok (enable reading))) = refl
  by_item s (asked (Ok go)) = refl
  by_item s (asked (Ok stop)) = refl
  by_item s (asked (Ok (snap cpu))) = refl
  by_item s (asked (Ok (agg name))) = refl
  by_item s (asked (Ok (trunc name))) = refl
  by_item s (asked (Ok status)) = refl
  by_item s (asked (Ok (list desc))) = refl
  by_item s (asked (Ok (describe epid))) = refl
  by_item s (asked (Ok close)) = refl
  by_item s (fired_item firing) = by_end (end_by account contents.registry s (seen firing))

  begun_on : (s : SetUp) (item : Item) → is_inactive (phase_of s) ≡ false
      → is_inactive (phase_of (after_item account contents.registry s item)) ≡ false
  begun_on s item begun = by_phase (phase_of s) refl
    where
      by_phase : (p : Phase) → phase_of s ≡ p → is_inactive (phase_of (after_item account contents.registry s item)) ≡ false
      by_phase Inactive e = absurd (let bad : true ≡ false = sym (ap is_inactive e) ∙ begun in cc bad)
      by_phase Active e = ap is_inactive (going_on account contents.registry s e item) ∙ by_item s item
      by_phase (Stopped cause) e = ap is_inactive (staying account contents.registry s cause e item)

  -- each item of a legal row is one of its life
  pub one_more : (row : List TrailItem) (item : TrailItem) → IsLegalRow account contents (row ++ item ∷ [])
      → (x : Item) × (Lived (row ++ item ∷ []) ≡ x ∷ Lived row)
  one_more row (line bytes) legal = (asked (ask_in (line_form_of (line bytes))), rw (past_of_last row (line bytes)) refl)
  one_more row long_line legal = (asked (ask_in (line_form_of long_line)), rw (past_of_last row long_line) refl)
  one_more row (fired cpu place) legal =
      let firing = (subst (IsLegal account contents) (past_of_last row (fired cpu place)) legal).1.1 in
      (fired_item firing.0, lived_fired account contents row cpu place firing.0 firing.1)

  -- A longer row has begun to trace, with the same ECBs, and has stopped where the shorter one had.
  pub record Lasts (before row : List TrailItem) : Type 0 where
    pub begun : is_inactive (PhaseOf row) ≡ false
    pub same : ecbs account contents.registry (Lived row) ≡ ecbs account contents.registry (Lived before)
    pub stopped : (cause : Option End) → PhaseOf before ≡ Stopped cause → PhaseOf row ≡ Stopped cause

  pub lasting : (before rest : List TrailItem) → IsLegalRow account contents (before ++ rest) → is_inactive (PhaseOf before) ≡ false
      → Lasts before (before ++ rest)
  lasting before [] legal begun =
      subst (Lasts before) (sym (append-nil before)) (record { begun = begun; same = refl; stopped = λ cause e. e })
  lasting before (item ∷ rest) legal begun =
      let one = append_assoc before (item ∷ []) rest in
      let more = one_more before item (legal_front account contents before item rest legal) in
      let s = set_up account contents.registry (Lived before) in
      let next : is_inactive (PhaseOf (before ++ item ∷ [])) ≡ false =
      ap (λ (life : List Item). is_inactive (phase account contents.registry life)) more.1 ∙ begun_on s more.0 begun in
      let later = lasting (before ++ item ∷ []) rest (subst (IsLegalRow account contents) (sym one) legal) next in
      subst (Lasts before) one (record {
        begun = later.begun;
        same =
            later.same ∙ ap (ecbs account contents.registry) more.1
            ∙ ap (ecbs_of account contents.registry) (keeping account contents.registry s begun more.0);
        stopped = λ cause e. later.stopped cause
            (ap (phase account contents.registry) more.1 ∙ staying account contents.registry s cause e more.0);
      })

  lived_line : (row : List TrailItem) (x : TrailItem) → whose x ≡ 0 → Lived (row ++ x ∷ []) ≡ asked (ask_in (line_form_of x)) ∷ Lived row
  lived_line row (line bytes) e = rw (past_of_last row (line bytes)) refl
  lived_line row long_line e = rw (past_of_last row long_line) refl
  lived_line row (fired cpu place) e = absurd (omega (arith, e))

  -- an accepted `go` has begun to trace
  pub go_begins : (row : List TrailItem) (item : TrailItem) → whose item ≡ 0 → IsGoAfter account contents row item
      → is_inactive (PhaseOf (row ++ item ∷ [])) ≡ false
  go_begins row item mine accepted =
      ap (λ (life : List Item). is_inactive (phase account contents.registry life)) (lived_line row item mine)
      ∙ ap (λ (said : Result Ask Refusal). is_inactive (phase account contents.registry (asked said ∷ Lived row))) accepted.3
      ∙ ap is_inactive (beginning account contents.registry (set_up account contents.registry (Lived row)) accepted.1 accepted.2)
      ∙ by_end (end_by account contents.registry (since_then (set_up account contents.registry (Lived row)) []) began)

  -- and has the ECBs that were enabled before
  pub go_has : (row : List TrailItem) (item : TrailItem) → whose item ≡ 0 → IsGoAfter account contents row item
      → ecbs account contents.registry (Lived (row ++ item ∷ [])) ≡ ecbs account contents.registry (Lived row)
  go_has row item mine accepted =
      let s = set_up account contents.registry (Lived row) in
      ap (ecbs account contents.registry)
      (lived_line row item mine ∙ ap (λ (said : Result Ask Refusal). asked said ∷ Lived row) accepted.3)
      ∙ ap (ecbs_of account contents.registry)
      (go_keeps account contents s (is_inactive (phase_of s) && has_room account contents.registry s))

  -- The ECBs of a row that has accepted a `go` are those of that `go`.
  pub ecbs_since : (row before : List TrailItem) (item : TrailItem) → IsLegalRow account contents row → StartsWith row (before ++ item ∷ [])
      → whose item ≡ 0 → IsGoAfter account contents before item
      → ecbs account contents.registry (Lived row) ≡ ecbs account contents.registry (Lived before)
  ecbs_since row before item legal begins mine accepted =
      ap (λ (l : List TrailItem). ecbs account contents.registry (Lived l)) begins.1
      ∙ (lasting (before ++ item ∷ []) begins.0 (subst (IsLegalRow account contents) begins.1 legal) (go_begins before item mine accepted)).same
      ∙ go_has before item mine accepted

  -- A row that has stopped stays so.
  pub stopped_still : (row before : List TrailItem) → StartsWith row before → IsLegalRow account contents row
      → is_stopped (PhaseOf before) ≡ true → is_stopped (PhaseOf row) ≡ true
  stopped_still row before begins legal is = by_phase (PhaseOf before) refl
    where
      by_phase : (p : Phase) → PhaseOf before ≡ p → is_stopped (PhaseOf row) ≡ true
      by_phase Inactive e = absurd (let bad : false ≡ true = sym (ap is_stopped e) ∙ is in cc bad)
      by_phase Active e = absurd (let bad : false ≡ true = sym (ap is_stopped e) ∙ is in cc bad)
      by_phase (Stopped cause) e =
          ap (λ (l : List TrailItem). is_stopped (PhaseOf l)) begins.1
          ∙ ap is_stopped ((lasting before begins.0 (subst (IsLegalRow account contents) begins.1 legal) (ap is_inactive e)).stopped cause e)
