-- Tracing goes on only after an accepted `go`, and the ECBs are those of that `go` from then on.
use Rattle.std.proofs.Common.{◌≡◌, ◌&&◌, ℕ, Bool, true, false, cond, List, [], ◌∷◌, ◌++◌, Option, Some, None, Result, Ok, refl, sym, ap, ◌∙◌, subst, append-nil, append_assoc}
use Rattle.std.specs.Option.{option_map, option_to_list}
use Rattle.dt_cred.specs.declared.account.Account.{Account}
use Rattle.dt_cred.specs.declared.firing.Firing.{Firing}
use Rattle.dt_ecb.specs.Ecbs.{ecbs_of}
use Rattle.dt_legal.specs.Rows.{IsGoAfter, IsLegalRow, life_of_row, line_form_of}
use Rattle.dt_legal.specs.laws.Beginning.{past_of_last}
use Rattle.dt_life.specs.Ask.{Ask, go, close}
use Rattle.dt_life.specs.Life.{Item, SetUp, asked, ecbs, happens, has_room, is_inactive, is_over, phase, phase_of, set_up, since_then}
use Rattle.dt_life.specs.Life.{fired as fired_item}
use Rattle.dt_life.specs.Takings.{began}
use Rattle.dt_life.specs.Tests.{is_accepted_go}
use Rattle.dt_life.specs.declared.phase.Phase.{Phase}
use Rattle.dt_life.specs.declared.phase.Phase.TheVariants.{Inactive, Active, Stopped}
use Rattle.dt_life.specs.declared.refusal.Refusal.{Refusal}
use Rattle.dt_life.specs.laws.Beginning.{accepted_from, accepted_to}
use Rattle.dt_life.specs.laws.Happening.{same_clauses}
use Rattle.dt_life.specs.laws.Phases.{closing, keeping, staying, waiting}
use Rattle.dt_machine.specs.Registry.{Contents, firing_at}
use Rattle.dt_meeting.specs.laws.Seen.{legal_front}
use Rattle.dt_proto.specs.Legal.{IsLegal, life_of_trail}
use Rattle.dt_proto.specs.Line.{ask_in}
use Rattle.dt_trail.specs.Items.{StartsWith, TrailItem, line, long_line, fired, whose}

module _ (account : Account) (contents : Contents) where
  abbrev Lived : List TrailItem → List Item
  Lived row = life_of_row account contents row

  abbrev pub IsActiveRow : List TrailItem → Type 0
  IsActiveRow row = phase account contents.registry (Lived row) ≡ Active

  -- The row has accepted a `go`, and its ECBs are those that were enabled then.
  pub record HasGone (row : List TrailItem) : Type 0 where
    pub before : List TrailItem
    pub item : TrailItem
    pub begins : StartsWith row (before ++ item ∷ [])
    pub mine : whose item ≡ 0
    pub go : IsGoAfter account contents before item
    pub same : ecbs account contents.registry (Lived row) ≡ ecbs account contents.registry (Lived before)

  -- a row that has gone goes on
  gone_on : (row : List TrailItem) (item : TrailItem) (x : Item) → Lived (row ++ item ∷ []) ≡ x ∷ Lived row
      → IsActiveRow row → HasGone row → HasGone (row ++ item ∷ [])
  gone_on row item x lived on h = record {
    before = h.before;
    item = h.item;
    begins = (h.begins.0 ++ item ∷ [], ap (λ (l : List TrailItem). l ++ item ∷ []) h.begins.1 ∙ append_assoc (h.before ++ h.item ∷ []) h.begins.0 (item ∷ []));
    mine = h.mine;
    go = h.go;
    same =
        ap (ecbs account contents.registry) lived
        ∙ ap (ecbs_of account contents.registry)
        (keeping account contents.registry (set_up account contents.registry (Lived row)) (ap is_inactive on) x)
        ∙ h.same;
  }

  -- a `go` leaves the clauses that there are
  pub go_keeps : (s : SetUp) (b : Bool) → (cond b (happens account contents.registry (since_then s []) began) s).clauses ≡ s.clauses
  go_keeps s true = same_clauses account contents.registry (since_then s []) began
  go_keeps s false = refl

  -- a line after which tracing goes on
  line_went : (row : List TrailItem) (item : TrailItem) → whose item ≡ 0 → is_over (Lived row) ≡ false
      → Lived (row ++ item ∷ []) ≡ asked (ask_in (line_form_of item)) ∷ Lived row
      → (IsActiveRow row → HasGone row) → IsActiveRow (row ++ item ∷ []) → HasGone (row ++ item ∷ [])
  line_went row item mine under lived gone on = by_phase (phase account contents.registry (Lived row)) refl
    where
      said : Result Ask Refusal
      said = ask_in (line_form_of item)

      s : SetUp
      s = set_up account contents.registry (Lived row)

      on_after : phase account contents.registry (asked said ∷ Lived row) ≡ Active
      on_after = sym (ap (phase account contents.registry) lived) ∙ on

      by_go : phase_of s ≡ Inactive → (b : Bool) → is_accepted_go account contents.registry (Lived row) said ≡ b → HasGone (row ++ item ∷ [])
      by_go quiet true is =
          let accepted = accepted_from account contents.registry (Lived row) said is in
          record {
            before = row;
            item = item;
            begins = ([], sym (append-nil (row ++ item ∷ [])));
            mine = mine;
            go = accepted;
            same =
                ap (ecbs account contents.registry) (lived ∙ ap (λ (r : Result Ask Refusal). asked r ∷ Lived row) accepted.3)
                ∙ ap (ecbs_of account contents.registry) (go_keeps s (is_inactive (phase_of s) && has_room account contents.registry s));
          }
      by_go quiet false is =
          let no_go : asked said ≡ asked (Ok go) → has_room account contents.registry s ≡ true → ⊥ = λ same room.
          let accepted : is_accepted_go account contents.registry (Lived row) said ≡ true =
          accepted_to account contents.registry (Lived row) said (under, quiet, room, cc same) in
          let bad : false ≡ true = sym is ∙ accepted in cc bad in
          let no_close : asked said ≡ asked (Ok close) → ⊥ = λ same.
          let stopped : phase account contents.registry (asked said ∷ Lived row) ≡ Stopped None =
          ap (λ (x : Item). phase account contents.registry (x ∷ Lived row)) same ∙ closing account contents.registry s quiet in
          let bad : Active ≡ Stopped None = sym on_after ∙ stopped in cc bad in
          let still : phase account contents.registry (asked said ∷ Lived row) ≡ Inactive =
          waiting account contents.registry s quiet (asked said) no_go no_close in
          absurd (let bad : Active ≡ Inactive = sym on_after ∙ still in cc bad)

      by_phase : (p : Phase) → phase account contents.registry (Lived row) ≡ p → HasGone (row ++ item ∷ [])
      by_phase Inactive e = by_go e (is_accepted_go account contents.registry (Lived row) said) refl
      by_phase Active e = gone_on row item (asked said) lived e (gone e)
      by_phase (Stopped cause) e =
          let off : phase account contents.registry (asked said ∷ Lived row) ≡ Stopped cause =
          staying account contents.registry s cause e (asked said) in
          absurd (let bad : Active ≡ Stopped cause = sym on_after ∙ off in cc bad)

  pub lived_fired : (row : List TrailItem) (cpu place : ℕ) (firing : Firing) → firing_at contents.scripts cpu place ≡ Some firing
      → Lived (row ++ fired cpu place ∷ []) ≡ fired_item firing ∷ Lived row
  lived_fired row cpu place firing found =
      ap (life_of_trail account contents) (past_of_last row (fired cpu place))
      ∙ ap (λ (o : Option Firing). option_to_list (option_map fired_item o) ++ Lived row) found

  -- an item after which tracing goes on
  step : (row : List TrailItem) (item : TrailItem) → IsLegalRow account contents (row ++ item ∷ [])
      → (IsActiveRow row → HasGone row) → IsActiveRow (row ++ item ∷ []) → HasGone (row ++ item ∷ [])
  step row (line bytes) legal gone on =
      let may = (subst (IsLegal account contents) (past_of_last row (line bytes)) legal).1 in
      line_went row (line bytes) refl may (rw (past_of_last row (line bytes)) refl) gone on
  step row long_line legal gone on =
      let may = (subst (IsLegal account contents) (past_of_last row long_line) legal).1 in
      line_went row long_line refl may (rw (past_of_last row long_line) refl) gone on
  step row (fired cpu place) legal gone on =
      let stands = (subst (IsLegal account contents) (past_of_last row (fired cpu place)) legal).1 in
      let firing = stands.1 in
      gone_on row (fired cpu place) (fired_item firing.0) (lived_fired row cpu place firing.0 firing.1)
      firing.2.active (gone firing.2.active)

  gone_from : (before rest : List TrailItem) → IsLegalRow account contents (before ++ rest)
      → (IsActiveRow before → HasGone before) → IsActiveRow (before ++ rest) → HasGone (before ++ rest)
  gone_from before [] legal gone on =
      subst HasGone (sym (append-nil before)) (gone (subst IsActiveRow (append-nil before) on))
  gone_from before (item ∷ rest) legal gone on =
      let one = append_assoc before (item ∷ []) rest in
      subst HasGone one
      (gone_from (before ++ item ∷ []) rest (subst (IsLegalRow account contents) (sym one) legal)
      (step before item (legal_front account contents before item rest legal) gone)
      (subst IsActiveRow (sym one) on))

  -- A legal row that is active has accepted a `go`.
  pub active_has_gone : (row : List TrailItem) → IsLegalRow account contents row → IsActiveRow row → HasGone row
  active_has_gone row legal on =
      gone_from [] row legal (λ on. absurd (let bad : Inactive ≡ Active = on in cc bad)) on
