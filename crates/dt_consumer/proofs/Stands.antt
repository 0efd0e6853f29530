-- A consumer after a line of its own, and after a firing.
use Rattle.std.proofs.Common.{◌≡◌, ℕ, suc, ◌+◌, ◌≤◌, Bool, true, false, List, ◌∷◌, ◌++◌, Option, Some, None}
use Rattle.std.proofs.Common.{Result, length, map, refl, sym, ap, ◌∙◌, subst, arith}
use Rattle.std.specs.Option.{MatchOption}
use Rattle.std.proofs.lemmas.List.{length-map, map-append}
use Rattle.dt_cred.specs.declared.account.Account.{Account}
use Rattle.dt_machine.specs.Registry.{Registry}
use Rattle.dt_lang.specs.Program.{ClauseForm, form_of_clause}
use Rattle.dt_program.specs.declared.clause.Clause.{Clause}
use Rattle.dt_ecb.specs.Ecbs.{EcbForm, added, ecbs_of}
use Rattle.dt_ecb.specs.Enable.{is_enabled}
use Rattle.dt_ecb.specs.Forms.{form_of_ecb, shapes_of}
use Rattle.dt_ecb.specs.Shapes.{uses_of}
use Rattle.dt_ecb.specs.declared.limits.TheConstants.{ECBS_MAX}
use Rattle.dt_ecb.specs.declared.parts.Ecb.{Ecb}
use Rattle.dt_life.specs.Ask.{Ask}
use Rattle.dt_life.specs.Placed.{AreEcbs}
use Rattle.dt_consumer.specs.Keeps.{IsTracing, IsUntraced, Keeps, is_quiet, phase_by, phase_untraced}
use Rattle.dt_life.specs.Forms.{form_of_options}
use Rattle.dt_life.specs.Life.{Item, asked, SetUp, lines, is_inactive, set_up, ecbs_in, next_epid, phase_of, with_event}
use Rattle.dt_life.specs.Life.{with_options, with_program, is_active, shapes_in}
use Rattle.dt_consumer.specs.StandsFor.{StandsFor}
use Rattle.dt_life.specs.Takings.{TracingEvent}
use Rattle.dt_consumer.specs.declared.consumer.Consumer.{Consumer, known-type}
use Rattle.dt_life.specs.declared.options.Options.{Options}
use Rattle.dt_consumer.specs.declared.course.Course.{Course}
use Rattle.dt_consumer.specs.declared.course.Course.TheVariants.{Running, Over}
use Rattle.dt_life.specs.declared.phase.Phase.{Phase}
use Rattle.dt_life.specs.declared.phase.Phase.TheVariants.{Inactive, Active}
use Rattle.dt_consumer.specs.declared.programs.Programs.{Programs}
use Rattle.dt_life.specs.declared.refusal.Refusal.{Refusal}
use Rattle.dt_consumer.specs.declared.tracing.Tracing.{Tracing}
use Rattle.dt_life.specs.laws.Placed.{are_both}
use Rattle.dt_ecb.specs.laws.Enabled.{few_ecbs, many_ecbs}

-- what traces, or has traced, is not inactive
pub begun_phase : (phase : Phase) (course : Course) → phase ≡ phase_by course → is_inactive phase ≡ false
begun_phase phase Running e = ap is_inactive e
begun_phase phase (Over cause) e = ap is_inactive e

clashing : (phase : Phase) → phase ≡ Inactive → is_inactive phase ≡ false → ⊥
clashing phase e f = let no : true ≡ false = sym (ap is_inactive e) ∙ f in cc

-- a consumer that was not tracing keeps so
still_idle : (o : Option Tracing) (phase : Phase) (A B : Type 0) (P Q : Tracing → Type 0) → phase ≡ Inactive
    → ((t : Tracing) → P t → phase ≡ phase_by t.course) → (A → B) → MatchOption o A P → MatchOption o B Q
still_idle None phase A B P Q off f g h = g h
still_idle (Some t) phase A B P Q off f g h =
    absurd (clashing phase off (begun_phase phase t.course (f t h)))

-- one that never traced isn't active
pub not_active : (is_closed : Bool) (phase : Phase) → phase ≡ phase_untraced is_closed → phase ≡ Active → ⊥
not_active true phase e on = let no : true ≡ false = sym (ap is_active on) ∙ ap is_active e in cc
not_active false phase e on = let no : true ≡ false = sym (ap is_active on) ∙ ap is_active e in cc

module _ (account : Account) (registry : Registry) (consumer : Consumer) where
  -- a count more changes nothing that is kept
  pub keeps_counted : (s : SetUp) (n : ℕ) → Keeps account registry s consumer
      → {known : known-type consumer.tracing consumer.account consumer.programs consumer.options consumer.closed n}
      → Keeps account registry s (record consumer { lines = n; known = known })
  keeps_counted s n k = record {
    same_account = k.same_account;
    options = k.options;
    clauses = k.clauses;
    ecbs = k.ecbs;
    shapes = k.shapes;
    tracing = k.tracing;
  }

  module _ (life : List Item) (s : StandsFor account registry consumer life) where
    -- a line that leaves the set-up
    pub stands_same : (line : Result Ask Refusal) (n : ℕ) → n ≡ suc (lines life)
        → set_up account registry (asked line ∷ life) ≡ set_up account registry life
        → {known : known-type consumer.tracing consumer.account consumer.programs consumer.options consumer.closed n}
        → StandsFor account registry (record consumer { lines = n; known = known }) (asked line ∷ life)
    stands_same line n counts same {known} = record {
      keeps =
          let P : SetUp → Type 0 = λ x. Keeps account registry x (record consumer { lines = n; known = known }) in
          subst P (sym same) (keeps_counted (set_up account registry life) n s.keeps);
      counted = counts;
    }

    -- a line that changes it
    pub stands_changed : (line : Result Ask Refusal) (next : Consumer) (t : SetUp)
        → set_up account registry (asked line ∷ life) ≡ t
        → next.lines ≡ suc (lines life) → Keeps account registry t next
        → StandsFor account registry next (asked line ∷ life)
    stands_changed line next t is counts k = record {
      keeps = let P : SetUp → Type 0 = λ x. Keeps account registry x next in subst P (sym is) k;
      counted = counts;
    }

  -- other options
  pub keeps_set : (s : SetUp) (n : ℕ) (options : Options) → phase_of s ≡ Inactive
      → Keeps account registry s consumer
      → {known : known-type consumer.tracing consumer.account consumer.programs options consumer.closed n}
      → Keeps account registry (with_options s (form_of_options options))
      (record consumer { options = options; lines = n; known = known })
  keeps_set s n options off k = record {
    same_account = k.same_account;
    options = refl;
    clauses = k.clauses;
    ecbs = k.ecbs;
    shapes = k.shapes;
    tracing = still_idle consumer.tracing (phase_of s) (IsUntraced account registry s consumer.closed) _
        (IsTracing account registry s) _ off (λ t is. is.standing)
        (λ u. record { quiet = u.quiet; standing = u.standing }) k.tracing;
  }

  -- an accepted program
  module _ (s : SetUp) (k : Keeps account registry s consumer) (clauses : List Clause) (ecbs : List Ecb)
      (off : phase_of s ≡ Inactive)
      (holds : is_enabled account registry (shapes_in s) (next_epid account registry s) (map form_of_clause clauses)
      ≡ true)
      (are : AreEcbs (s.clauses ++ map form_of_clause clauses)
      (added account registry (next_epid account registry s) (map form_of_clause clauses)) ecbs) where
    abbrev forms : List ClauseForm
    forms = map form_of_clause clauses

    new_count : length ecbs ≡ length (added account registry (next_epid account registry s) forms)
    new_count = sym (length-map ecbs (form_of_ecb (s.clauses ++ forms))) ∙ ap length are.forms

    old_count : length consumer.programs.ecbs.items ≡ length (ecbs_in account registry s)
    old_count =
        sym (length-map consumer.programs.ecbs.items (form_of_ecb s.clauses)) ∙ ap length k.ecbs.forms

    -- there is room
    pub each_effective : length clauses ≤ length ecbs
    each_effective =
        omega (
          arith,
          new_count,
          many_ecbs account registry (shapes_in s) (next_epid account registry s) forms holds,
          length-map clauses form_of_clause,
        )

    pub ecbs_fit : length consumer.programs.ecbs.items + length ecbs ≤ ECBS_MAX
    ecbs_fit =
        omega (
          arith,
          new_count,
          old_count,
          few_ecbs account registry (shapes_in s) (next_epid account registry s) forms holds,
        )

    pub keeps_program : ((before more : List ClauseForm) → ecbs_of account registry (before ++ more)
        ≡ ecbs_of account registry before
        ++ added account registry (length (ecbs_of account registry before) + 1) more)
        → ((a b : List ClauseForm) → uses_of (a ++ b) ≡ uses_of a ++ uses_of b) → (n : ℕ) (programs : Programs)
        → programs.clauses.items ≡ consumer.programs.clauses.items ++ clauses
        → programs.ecbs.items ≡ consumer.programs.ecbs.items ++ ecbs
        → shapes_of programs.shapes ≡ (shapes_in s) ++ uses_of forms
        → {known : known-type consumer.tracing consumer.account programs consumer.options consumer.closed n}
        → Keeps account registry (with_program s forms) (record consumer { programs = programs; lines = n; known = known })
    keeps_program go_on uses_both n programs grown grown_ecbs shaped = record {
      same_account = k.same_account;
      options = k.options;
      clauses =
          ap (map form_of_clause) grown
          ∙ map-append form_of_clause consumer.programs.clauses.items clauses
          ∙ ap (λ cs. cs ++ forms) k.clauses;
      ecbs =
          let both = are_both s.clauses forms _ _ consumer.programs.ecbs.items ecbs k.ecbs are in
          let P : List EcbForm → Type 0 = λ es. AreEcbs (s.clauses ++ forms) es programs.ecbs.items in
          let Q : List Ecb → Type 0 = λ xs. AreEcbs (s.clauses ++ forms)
          (ecbs_of account registry s.clauses
          ++ added account registry (length (ecbs_of account registry s.clauses) + 1) forms) xs in
          subst P (sym (go_on s.clauses forms)) (subst Q (sym grown_ecbs) both);
      shapes = shaped ∙ sym (uses_both s.clauses forms);
      tracing = still_idle consumer.tracing (phase_of s) (IsUntraced account registry s consumer.closed) _
          (IsTracing account registry s) _ off (λ t is. is.standing)
          (λ u. record { quiet = u.quiet; standing = u.standing }) k.tracing;
    }

  -- an accepted `go`, and what happens later: what there is from then on, and the set-up by an event
  pub keeps_traced : (s next : SetUp) (n : ℕ) (tracing : Tracing) → Keeps account registry s consumer
      → next.options ≡ s.options → next.clauses ≡ s.clauses
      → IsTracing account registry next tracing
      → {now : Option Tracing} {closed : Bool} → now ≡ Some tracing
      → {known : known-type now consumer.account consumer.programs consumer.options closed n}
      → Keeps account registry next (record consumer { tracing = now; closed = closed; lines = n; known = known })
  keeps_traced s next n tracing k options clauses t {now} {closed} is = record {
    same_account = k.same_account;
    options = k.options ∙ sym options;
    clauses = k.clauses ∙ sym clauses;
    ecbs =
        let P : List ClauseForm → Type 0 = λ cs.
        AreEcbs cs (ecbs_of account registry cs) consumer.programs.ecbs.items in
        subst P (sym clauses) k.ecbs;
    shapes = k.shapes ∙ sym (ap uses_of clauses);
    tracing =
        let P : Option Tracing → Type 0 = λ o. MatchOption o (IsUntraced account registry next closed)
        (IsTracing account registry next) in
        subst P (sym is) t;
  }

-- whether a consumer traces
module _ (account : Account) (registry : Registry) (s : SetUp) (consumer : Consumer)
    (k : Keeps account registry s consumer)
  where
    pub traced : (t : Tracing) → consumer.tracing ≡ Some t → IsTracing account registry s t
    traced t e =
        let P : Option Tracing → Type 0 = λ o.
        MatchOption o (IsUntraced account registry s consumer.closed) (IsTracing account registry s) in
        subst P e k.tracing

    pub untraced : consumer.tracing ≡ None → IsUntraced account registry s consumer.closed
    untraced e =
        let P : Option Tracing → Type 0 = λ o.
        MatchOption o (IsUntraced account registry s consumer.closed) (IsTracing account registry s) in
        subst P e k.tracing

    -- an event by which nothing is taken, where it never traced
    pub keeps_quiet : (event : TracingEvent) (is_closed : Bool) (n : ℕ)
        → is_quiet (event ∷ s.since) ≡ true → phase_of (with_event s event) ≡ phase_untraced is_closed
        → {now : Option Tracing} {closed : Bool} → now ≡ None → closed ≡ is_closed
        → {known : known-type now consumer.account consumer.programs consumer.options closed n}
        → Keeps account registry (with_event s event)
        (record consumer { tracing = now; closed = closed; lines = n; known = known })
    keeps_quiet event is_closed n quiet standing {now} {closed} none same = record {
      same_account = k.same_account;
      options = k.options;
      clauses = k.clauses;
      ecbs = k.ecbs;
      shapes = k.shapes;
      tracing =
          let P : Option Tracing → Type 0 = λ o. MatchOption o
          (IsUntraced account registry (with_event s event) closed)
          (IsTracing account registry (with_event s event)) in
          subst P (sym none) (record { quiet = quiet; standing = standing ∙ sym (ap phase_untraced same) });
    }

-- the same set-up, written in another way
pub keeps_same : (account : Account) (registry : Registry) (s s' : SetUp) (consumer : Consumer) → s' ≡ s
    → Keeps account registry s consumer → Keeps account registry s' consumer
keeps_same account registry s s' consumer e k = subst (λ x. Keeps account registry x consumer) (sym e) k
