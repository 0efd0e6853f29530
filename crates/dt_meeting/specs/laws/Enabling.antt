-- ECBs are only added as a row goes on.
use Rattle.std.proofs.Common.{◌≡◌, ◌≢◌, ◌+◌, ◌==◌, ◌&&◌, ◌||◌, ℕ, Bool, true, false, cond, List, [], ◌∷◌, ◌++◌, map, Some, None, Ok, Err, is_none, refl, sym, ◌∙◌, subst, append-nil, append_assoc}
use Rattle.std.proofs.lemmas.Grind.{flat_map-append}
use Rattle.std.specs.Bool.{nat_lt}
use Rattle.std.specs.List.{enumerate_from}
use Rattle.dt_cred.specs.declared.account.Account.{Account}
use Rattle.dt_ecb.specs.Ecbs.{EcbForm, ecbs_of, numbered, of_probe, pairs_of, pairs_of_clause}
use Rattle.dt_lang.specs.Program.{ClauseForm}
use Rattle.dt_lang.specs.Reads.{program, fault, destructive}
use Rattle.dt_legal.specs.Rows.{IsLegalRow, life_of_row}
use Rattle.dt_life.specs.Aggregations.{aggregation_of}
use Rattle.dt_life.specs.Ask.{option, enable, go, stop, snap, agg, trunc, status, list, describe, close}
use Rattle.dt_life.specs.Life.{Item, SetUp, accepts, after_item, asked, ecbs, has_room, is_active, is_inactive, is_readable, is_stopped, phase_of, set_up, shapes_in, with_event, with_options, with_program}
use Rattle.dt_life.specs.Life.{fired as fired_item, happens}
use Rattle.dt_life.specs.Options.{with_setting}
use Rattle.dt_life.specs.Takings.{snapped, truncated, ended, closed, seen}
use Rattle.dt_life.specs.declared.phase.End.TheVariants.{Stop}
use Rattle.dt_life.specs.laws.Happening.{same_clauses}
use Rattle.dt_machine.specs.Registry.{Contents}
use Rattle.dt_meeting.specs.laws.Going.{go_keeps}
use Rattle.dt_meeting.specs.laws.Lasting.{one_more}
use Rattle.dt_meeting.specs.laws.Seen.{legal_front}
use Rattle.dt_trail.specs.Items.{StartsWith, TrailItem}

more_either : (b : Bool) (ecb : EcbForm) (some all : List EcbForm) → (some ≢ [] → all ≢ []) → cond b (ecb ∷ some) some ≢ []
    → cond b (ecb ∷ all) all ≢ []
more_either true ecb some all rest h = λ bad. cc bad
more_either false ecb some all rest h = rest h

added_more : (id n : ℕ) (xs ys : List (ℕ × ClauseForm)) → of_probe id (map numbered (enumerate_from n xs)) ≢ []
    → of_probe id (map numbered (enumerate_from n (xs ++ ys))) ≢ []
added_more id n [] ys h = absurd (h refl)
added_more id n (x ∷ xs) ys h =
    more_either (x.0 == id) (numbered (n, x)) (of_probe id (map numbered (enumerate_from (n + 1) xs)))
    (of_probe id (map numbered (enumerate_from (n + 1) (xs ++ ys)))) (added_more id (n + 1) xs ys) h

module _ (account : Account) (contents : Contents) where
  -- A set-up has the clauses of another, and maybe more.
  abbrev HasMore : SetUp → SetUp → Type 0
  HasMore s t = (more : List ClauseForm) × (t.clauses ≡ s.clauses ++ more)

  same_as : (s t : SetUp) → t.clauses ≡ s.clauses → HasMore s t
  same_as s t e = ([], e ∙ sym (append-nil s.clauses))

  either_same : (s t : SetUp) (b : Bool) → t.clauses ≡ s.clauses → HasMore s (cond b t s)
  either_same s t true e = same_as s t e
  either_same s t false e = same_as s s refl

  either_other : (s t : SetUp) (b : Bool) → t.clauses ≡ s.clauses → HasMore s (cond b s t)
  either_other s t true e = same_as s s refl
  either_other s t false e = same_as s t e

  either_more : (s : SetUp) (clauses : List ClauseForm) (b : Bool) → HasMore s (cond b (with_program s clauses) s)
  either_more s clauses true = (clauses, refl)
  either_more s clauses false = same_as s s refl

  clauses_more : (s : SetUp) (item : Item) → HasMore s (after_item account contents.registry s item)
  clauses_more s (asked (Err why)) = same_as s s refl
  clauses_more s (asked (Ok (option None))) = same_as s s refl
  clauses_more s (asked (Ok (option (Some setting)))) =
      either_same s (with_options s (with_setting s.options setting)) (is_inactive (phase_of s)) refl
  clauses_more s (asked (Ok (enable (program clauses)))) = either_more s clauses (accepts account contents.registry s clauses)
  clauses_more s (asked (Ok (enable (fault at why)))) = same_as s s refl
  clauses_more s (asked (Ok (enable (destructive at what)))) = same_as s s refl
  clauses_more s (asked (Ok go)) =
      let b = is_inactive (phase_of s) && has_room account contents.registry s in
      same_as s (after_item account contents.registry s (asked (Ok go))) (go_keeps account contents s b)
  clauses_more s (asked (Ok stop)) = either_same s (with_event s (ended Stop)) (is_active (phase_of s)) refl
  clauses_more s (asked (Ok (snap cpu))) =
      either_same s (with_event s (snapped cpu)) (nat_lt cpu contents.registry.cpus && is_readable s (phase_of s)) refl
  clauses_more s (asked (Ok (agg name))) = same_as s s refl
  clauses_more s (asked (Ok (trunc name))) =
      either_other s (with_event s (truncated name)) (is_inactive (phase_of s) || is_none (aggregation_of (shapes_in s) name)) refl
  clauses_more s (asked (Ok status)) = same_as s s refl
  clauses_more s (asked (Ok (list desc))) = same_as s s refl
  clauses_more s (asked (Ok (describe epid))) = same_as s s refl
  clauses_more s (asked (Ok close)) = either_other s (with_event s closed) (is_stopped (phase_of s)) refl
  clauses_more s (fired_item firing) =
      either_same s (happens account contents.registry s (seen firing)) (is_active (phase_of s))
      (same_clauses account contents.registry s (seen firing))

  abbrev Names : List TrailItem → ℕ → Type 0
  Names row id = of_probe id (ecbs account contents.registry (life_of_row account contents row)) ≢ []

  names_more : (s t : SetUp) (id : ℕ) → HasMore s t → of_probe id (ecbs_of account contents.registry s.clauses) ≢ []
      → of_probe id (ecbs_of account contents.registry t.clauses) ≢ []
  names_more s t id more h =
      subst (λ (l : List ClauseForm). of_probe id (ecbs_of account contents.registry l) ≢ []) (sym more.1)
      (subst (λ (l : List (ℕ × ClauseForm)). of_probe id (map numbered (enumerate_from 1 l)) ≢ [])
      (sym (flat_map-append (pairs_of_clause account contents.registry) s.clauses more.0))
      (added_more id 1 (pairs_of account contents.registry s.clauses) (pairs_of account contents.registry more.0) h))

  names_from : (before rest : List TrailItem) (id : ℕ) → IsLegalRow account contents (before ++ rest) → Names before id
      → Names (before ++ rest) id
  names_from before [] id legal h = subst (λ (l : List TrailItem). Names l id) (sym (append-nil before)) h
  names_from before (item ∷ rest) id legal h =
      let one = append_assoc before (item ∷ []) rest in
      let more = one_more account contents before item (legal_front account contents before item rest legal) in
      let s = set_up account contents.registry (life_of_row account contents before) in
      let next : Names (before ++ item ∷ []) id =
      subst (λ (life : List Item). of_probe id (ecbs account contents.registry life) ≢ []) (sym more.1)
      (names_more s (after_item account contents.registry s more.0) id (clauses_more s more.0) h) in
      subst (λ (l : List TrailItem). Names l id) one
      (names_from (before ++ item ∷ []) rest id (subst (IsLegalRow account contents) (sym one) legal) next)

  -- What the ECBs of a row name, those of a longer one do.
  pub names_still : (row before : List TrailItem) (id : ℕ) → StartsWith row before → IsLegalRow account contents row
      → of_probe id (ecbs account contents.registry (life_of_row account contents before)) ≢ []
      → of_probe id (ecbs account contents.registry (life_of_row account contents row)) ≢ []
  names_still row before id begins legal h =
      subst (λ (l : List TrailItem). Names l id) (sym begins.1)
      (names_from before begins.0 id (subst (IsLegalRow account contents) begins.1 legal) h)
