-- A runner, as more happens.
use Rattle.std.proofs.Common.{◌≡◌, ℕ, ℤ, ◌==◌, ◌||◌, ◌&&◌, Bool, true, false, not, cond, List, [], ◌∷◌, ◌++◌}
use Rattle.std.proofs.Common.{filter, map, Option, Some, None, refl, sym, ap, ◌∙◌, subst, arith}
use Rattle.std.specs.Prelude.{count_by, zip}
use Rattle.std.specs.List.{flat_map, list_any}
use Rattle.std.specs.Option.{MatchOption, is_some, option_map, option_or, option_to_list}
use Rattle.std.proofs.lemmas.List.{append-nil}
use Rattle.dt_aggstore.specs.History as store
use Rattle.dt_aggstore.specs.declared.key.Aggregation.{Aggregation}
use Rattle.dt_cred.specs.declared.account.Account.{Account}
use Rattle.dt_machine.specs.Registry.{Registry}
use Rattle.dt_lang.specs.Program.{form_of_clause}
use Rattle.dt_ecb.specs.Ecbs.{EcbForm, of_probe}
use Rattle.dt_ecb.specs.Forms.{form_of_ecb, shapes_of}
use Rattle.dt_ecb.specs.Shapes.{ShapeForm}
use Rattle.dt_ecb.specs.declared.parts.Ecb.{Ecb}
use Rattle.dt_life.specs.Forms.{form_of_options}
use Rattle.dt_locals.specs.Chosen.{locals_choice}
use Rattle.dt_locals.specs.History.{Assignment}
use Rattle.dt_record.specs.TracingAt.{TracingAt}
use Rattle.dt_speculation.specs.Answers.{failed_draws}
use Rattle.dt_speculation.specs.History.{SpecPast}
use Rattle.dt_speculation.specs.Parts.{spec_drops}
use Rattle.dt_alone.specs.Happened.{Brings, told_both, told_by}
use Rattle.dt_alone.specs.Kept.{IsKeptAt}
use Rattle.dt_alone.specs.Runs.{Has, HasIn, KeepsAfter}
use Rattle.dt_alone.specs.Runs as runs
use Rattle.dt_alone.specs.declared.happened.Happened.{Happened}
use Rattle.dt_alone.specs.declared.happened.Happened.TheVariants.{Snapped, Truncated}
use Rattle.dt_alone.specs.declared.kept.KeptState.{KeptState}
use Rattle.dt_alone.specs.declared.programs.Programs.{Programs}
use Rattle.dt_alone.specs.declared.runner.Runner.{Runner}
use Rattle.dt_alone.proofs.Bringing.{same_told, told_more, told_of, told_one}
use Rattle.dt_machine.specs.Context.{ContextForm}
use Rattle.dt_life.specs.Aggregations.{aggregation_of}
use Rattle.dt_life.specs.Buffers.{comes_by}
use Rattle.dt_life.specs.Options.{OptionsForm}
use Rattle.dt_life.specs.Placed.{AreEcbs}
use Rattle.dt_life.specs.Life.{SetUp, ecbs_in, end_by, happens, is_inactive, phase_of, seen_count, shapes_in}
use Rattle.dt_life.specs.Life.{since_then, tracing_steps, with_event}
use Rattle.dt_life.specs.Stores.{given_on}
use Rattle.dt_life.specs.Takings.{TracingEvent, began, seen, snapped, truncated, ended, closed, faults}
use Rattle.dt_life.specs.Takings.{first_exit, is_end, context_at}
use Rattle.dt_life.specs.TracingSteps.{TracingStep, assigned_in, reads, specs_of, speculated_in, steps_and, taken_at, taken_by, taken_on, truncates}
use Rattle.dt_life.specs.declared.phase.End.{End}
use Rattle.dt_life.specs.declared.phase.End.TheVariants.{Exit, History}
use Rattle.dt_life.specs.declared.phase.Phase.{Phase}
use Rattle.dt_life.specs.declared.phase.Phase.TheVariants.{Active, Inactive}
use Rattle.dt_life.specs.laws.Buffers.{errors_more}
use Rattle.dt_life.specs.laws.Lists.{filter-map}
use Rattle.dt_life.specs.laws.Pasts.{past_same}
use Rattle.dt_life.specs.laws.TracingSteps.{one_more}
use Rattle.dt_life.specs.laws.Tracings.{IsFiring, by_is, end_is, happens_last, happens_on, steps_close, steps_more}

-- what is told where something neither assigns nor speculates
module _ (options : OptionsForm) (shapes : List ShapeForm) (steps : List TracingStep) (step : TracingStep) (cpu : ℕ)
    (no_assignment : assigned_in step ≡ []) (no_event : speculated_in step ≡ []) where
  abbrev drops_of : List (ℕ × Assignment) → ℕ
  drops_of placed = count_by (λ (one : (ℕ × Assignment) × Bool). one.0.0 == cpu && not one.1)
      (zip placed (locals_choice (record {
        dynvarsize = options.dynvarsize;
        assignments = map (λ (one : ℕ × Assignment). one.1) placed;
      })))

  same_specs : specs_of options (steps ++ step ∷ []) ≡ specs_of options steps
  same_specs = ap (λ past. past.specs) (past_same options steps step no_assignment no_event)

  pub quiet_tells : told_by shapes options (steps ++ step ∷ []) cpu ≡ told_both (told_by shapes options steps cpu)
      (told_of (comes_by cpu step) (faults (taken_on cpu step)) (given_on shapes cpu step) 0 0 0)
  quiet_tells =
      same_told (told_by shapes options (steps ++ step ∷ []) cpu)
      (told_both (told_by shapes options steps cpu)
      (told_of (comes_by cpu step) (faults (taken_on cpu step)) (given_on shapes cpu step) 0 0 0))
      (one_more (comes_by cpu) steps step) (errors_more steps cpu step) (one_more (given_on shapes cpu) steps step)
      (ap drops_of (one_more assigned_in steps step ∙ ap (λ xs. flat_map assigned_in steps ++ xs) no_assignment
      ∙ append-nil (flat_map assigned_in steps)) ∙ omega arith)
      (ap (λ past. spec_drops past cpu) same_specs ∙ omega arith)
      (ap (λ (past : SpecPast). failed_draws past.events) same_specs ∙ omega arith)

-- a match, by what it says of each case
pub match_map : {X : Type 0} (o : Option X) (A B : Type 0) (P Q : X → Type 0) → (A → B) → ((x : X) → P x → Q x)
    → MatchOption o A P → MatchOption o B Q
match_map None A B P Q f g m = f m
match_map (Some x) A B P Q f g m = g x m

module _ (account : Account) (registry : Registry) where
  -- What happened is what a set-up says.
  abbrev pub Brought : SetUp → List Happened → Type 0
  Brought s happened = Brings registry.cpus (shapes_in s) s.options happened (tracing_steps account registry s)

  -- what is kept while tracing goes on
  abbrev pub KeptBy : SetUp → Option KeptState → Type 0
  KeptBy s kept = MatchOption kept (phase_of s ≡ Active → ⊥) (λ own. (phase_of s ≡ Active) × KeepsAfter account registry s own)

  -- before tracing begins nothing is kept
  pub none_kept : (s t : SetUp) (kept : Option KeptState) → phase_of s ≡ Inactive → phase_of t ≡ Inactive → KeptBy s kept → KeptBy t kept
  none_kept s t None e f h = λ on. let no : Inactive ≡ Active = sym f ∙ on in cc
  none_kept s t (Some own) e f h = let no : Inactive ≡ Active = sym e ∙ h.0 in cc

  -- what is kept is after the steps
  pub kept_found : (s : SetUp) (kept : Option KeptState) (own : KeptState) → kept ≡ Some own → KeptBy s kept → KeepsAfter account registry s own
  kept_found s kept own e h = (subst (KeptBy s) e h).1

  module _ (s : SetUp) where
    -- ECBs were taken
    abbrev pub steps_with : Bool → ContextForm → List TracingStep
    steps_with in_end m = steps_and (tracing_steps account registry s)
        (taken_at s.options (tracing_steps account registry s) in_end m (ecbs_in account registry s))

    module _ (event : TracingEvent) (m : ContextForm) (fires : IsFiring event)
        (at : context_at account registry event ≡ Some m) where
      pub brought_firing : (new : List Happened)
          → Brings registry.cpus (shapes_in s) s.options new (steps_with (is_end event) m)
          → Brought (with_event s event) new
      brought_firing new told =
          subst (Brings registry.cpus (shapes_in s) s.options new) (sym (steps_more account registry s event m at fires)) told

      pub kept_firing : (kept : KeptState) → kept.cpus ≡ registry.cpus → IsKeptAt s.options (steps_with (is_end event) m) kept
          → KeepsAfter account registry (with_event s event) kept
      kept_firing kept all is = (
        all,
        subst (λ steps. IsKeptAt s.options steps kept) (sym (steps_more account registry s event m at fires)) is,
      )

    -- the session was closed
    pub brought_closed : (old : List Happened) → Brought s old → Brought (with_event s closed) old
    brought_closed old told =
        subst (Brings registry.cpus (shapes_in s) s.options old) (sym (steps_close account registry s)) told

    -- a step that neither assigns nor speculates
    module _ (step : TracingStep) (x : Happened) (no_assignment : assigned_in step ≡ []) (no_event : speculated_in step ≡ [])
        (tells : (cpu : ℕ) → told_of (comes_by cpu step) (faults (taken_on cpu step)) (given_on (shapes_in s) cpu step) 0 0 0
        ≡ told_one cpu x) where
      pub brought_quiet : (old : List Happened) → Brought s old
          → Brings registry.cpus (shapes_in s) s.options (old ++ x ∷ []) (tracing_steps account registry s ++ step ∷ [])
      brought_quiet old told = λ cpu inside.
          told_more cpu old x ∙ ap (λ t. told_both t (told_one cpu x)) (told cpu inside)
          ∙ ap (told_both (told_by (shapes_in s) s.options (tracing_steps account registry s) cpu)) (sym (tells cpu))
          ∙ sym (quiet_tells s.options (shapes_in s) (tracing_steps account registry s) step cpu no_assignment no_event)

    still_kept : (step : TracingStep) → assigned_in step ≡ [] → speculated_in step ≡ [] → (kept : KeptState)
        → KeepsAfter account registry s kept
        → (kept.cpus ≡ registry.cpus) × IsKeptAt s.options (tracing_steps account registry s ++ step ∷ []) kept
    still_kept step no_assignment no_event kept h = (
      h.0,
      subst (λ past. TracingAt past kept.locals kept.specs)
          (sym (past_same s.options (tracing_steps account registry s) step no_assignment no_event)) h.1,
    )

    -- a buffer was read
    pub brought_snapped : (n : ℕ) (old : List Happened) → Brought s old
        → Brought (with_event s (snapped n)) (old ++ Snapped n ∷ [])
    brought_snapped n old told = brought_quiet (reads n) (Snapped n) refl refl (λ cpu. refl) old told

    pub kept_snapped : (n : ℕ) (kept : Option KeptState) → KeptBy s kept → KeptBy (with_event s (snapped n)) kept
    kept_snapped n kept h =
        match_map kept _ _ _ _ (λ none. none) (λ own at. (at.0, still_kept (reads n) refl refl own at.1)) h

    -- an aggregation was truncated
    pub brought_truncated : (name : List ℕ) (a : Aggregation) (old : List Happened)
        → aggregation_of (shapes_in s) name ≡ Some a → Brought s old
        → Brought (with_event s (truncated name)) (old ++ Truncated a ∷ [])
    brought_truncated name a old is told = brought_quiet (truncates name) (Truncated a) refl refl
        (λ cpu. ap (λ o. told_of [] 0 (option_to_list (option_map store.truncated o)) 0 0 0) is) old told

    pub kept_truncated : (name : List ℕ) (kept : Option KeptState) → KeptBy s kept → KeptBy (with_event s (truncated name)) kept
    kept_truncated name kept h =
        match_map kept _ _ _ _ (λ none. none) (λ own at. (at.0, still_kept (truncates name) refl refl own at.1)) h

  -- the ECBs of a runner are those of its set-up
  module _ (s : SetUp) (phase : Phase) (r : Runner) (h : HasIn account registry s phase r) where
    pub own_ecbs : map (form_of_ecb (map form_of_clause r.programs.clauses.items)) r.programs.ecbs.items
        ≡ ecbs_in account registry s
    own_ecbs = ap (λ cs. map (form_of_ecb cs) r.programs.ecbs.items) h.clauses ∙ h.ecbs.forms

    -- what a runner took is what is taken by its set-up
    abbrev own_steps : Bool → ContextForm → List TracingStep
    own_steps in_end m = steps_and (tracing_steps account registry s) (taken_at s.options (tracing_steps account registry s) in_end m
        (map (form_of_ecb (map form_of_clause r.programs.clauses.items)) r.programs.ecbs.items))

    pub own_steps_are : (in_end : Bool) (m : ContextForm) → steps_and (tracing_steps account registry s)
        (taken_at s.options (tracing_steps account registry s) in_end m
        (map (form_of_ecb (map form_of_clause r.programs.clauses.items)) r.programs.ecbs.items))
        ≡ steps_with s in_end m
    own_steps_are in_end m = ap (λ es. steps_and (tracing_steps account registry s)
        (taken_at s.options (tracing_steps account registry s) in_end m es)) own_ecbs

    pub own_brought : (cpus : ℕ) → cpus ≡ registry.cpus
        → Brings cpus (shapes_of r.programs.shapes) s.options r.since.items (tracing_steps account registry s)
    own_brought cpus all =
        subst (λ n. Brings n (shapes_of r.programs.shapes) s.options r.since.items (tracing_steps account registry s)) (sym all)
        (subst (λ shapes. Brings registry.cpus shapes s.options r.since.items (tracing_steps account registry s)) (sym h.shapes)
        h.brings)

    module _ (event : TracingEvent) (m : ContextForm) (fires : IsFiring event)
        (at : context_at account registry event ≡ Some m) (in_end : Bool) (which : is_end event ≡ in_end) (cpus : ℕ)
        (all : cpus ≡ registry.cpus) where
      pub took_brought : (new : List Happened)
          → Brings cpus (shapes_of r.programs.shapes) s.options new (steps_and (tracing_steps account registry s)
          (taken_at s.options (tracing_steps account registry s) in_end m
          (map (form_of_ecb (map form_of_clause r.programs.clauses.items)) r.programs.ecbs.items)))
          → Brought (with_event s event) new
      took_brought new told =
          brought_firing s event m fires at new
          (subst (λ b. Brings registry.cpus (shapes_in s) s.options new (steps_with s b m)) (sym which)
          (subst (Brings registry.cpus (shapes_in s) s.options new) (own_steps_are in_end m)
          (subst (λ n. Brings n (shapes_in s) s.options new (own_steps in_end m)) all
          (subst (λ shapes. Brings cpus shapes s.options new (own_steps in_end m)) h.shapes told))))

      pub took_kept : (kept : KeptState) → kept.cpus ≡ registry.cpus
          → IsKeptAt s.options (steps_and (tracing_steps account registry s)
          (taken_at s.options (tracing_steps account registry s) in_end m
          (map (form_of_ecb (map form_of_clause r.programs.clauses.items)) r.programs.ecbs.items))) kept
          → KeepsAfter account registry (with_event s event) kept
      took_kept kept every is =
          kept_firing s event m fires at kept every
          (subst (λ b. IsKeptAt s.options (steps_with s b m) kept) (sym which)
          (subst (λ steps. IsKeptAt s.options steps kept) (own_steps_are in_end m) is))

  pub not_idle : (phase : Phase) → is_inactive phase ≡ false → phase ≡ Inactive → ⊥
  not_idle phase begun e = let no : true ≡ false = sym (ap is_inactive e) ∙ begun in cc

  -- a runner of the same options and programs, where further events came
  pub has_since : (s : SetUp) (events : List TracingEvent) (phase phase' : Phase) (old new : Runner)
      → HasIn account registry s phase old → new.account ≡ old.account → new.options ≡ old.options
      → new.programs ≡ old.programs → new.phase ≡ phase' → is_inactive phase' ≡ false → new.seen ≡ seen_count events
      → Brought (since_then s events) new.since.items → HasIn account registry (since_then s events) phase' new
  has_since s events phase phase' old new h same_account same_options same_programs standing begun counts told =
      record {
        same_account = same_account ∙ h.same_account;
        options = ap form_of_options same_options ∙ h.options;
        clauses = ap (λ (p : Programs). map form_of_clause p.clauses.items) same_programs ∙ h.clauses;
        ecbs = subst (λ (p : Programs). AreEcbs s.clauses (ecbs_in account registry s) p.ecbs.items)
            (sym same_programs) h.ecbs;
        shapes = ap (λ (p : Programs). shapes_of p.shapes) same_programs ∙ h.shapes;
        standing = standing;
        idle = λ e. absurd (not_idle phase' begun e);
        seen = counts;
        brings = told;
      }

  -- tracing began, or a firing was seen
  module _ (s : SetUp) (event : TracingEvent) (exit : Option ℤ) (end : Option End) (history count : ℕ)
      (exits : first_exit (taken_by account registry s.options (ecbs_in account registry s) (tracing_steps account registry s) event)
      ≡ exit)
      (is : end ≡ option_or (option_map Exit exit) (cond (count == history) (Some History) None))
      (all : history ≡ s.options.histsize) (counts : count ≡ seen_count (event ∷ s.since)) where
    pub ends_so : end_by account registry s event ≡ end
    ends_so =
        end_is account registry s event exit (count == history) exits
        (ap (λ n. n == s.options.histsize) (sym counts) ∙ ap (λ n. count == n) (sym all))
        ∙ sym is

    pub goes_on : (phase : Phase) (r : Runner) → end ≡ None
        → HasIn account registry (with_event s event) phase r → phase ≡ phase_of (with_event s event)
        → KeptBy (with_event s event) r.kept
        → Has account registry (happens account registry s event) r
    goes_on phase r none h stands kept =
        subst (λ x. Has account registry x r) (sym (happens_on account registry s event (ends_so ∙ none)))
        (record { within = subst (λ p. HasIn account registry (with_event s event) p r) stands h; kept = kept })

    pub ends_at : (e : End) (r : Runner) → end ≡ Some e
        → Has account registry (with_event (with_event s event) (ended e)) r
        → Has account registry (happens account registry s event) r
    ends_at e r some h =
        subst (λ x. Has account registry x r) (sym (happens_last account registry s event e (ends_so ∙ some))) h

-- tracing began, or a firing was seen
pub firing_is : (event : TracingEvent) → runs.IsFiring event → IsFiring event × (is_end event ≡ false)
firing_is began is = (tt, refl)
firing_is (seen firing) is = (tt, refl)
firing_is (snapped n) is = absurd is
firing_is (truncated name) is = absurd is
firing_is (ended end) is = absurd is
firing_is closed is = absurd is

module _ (account : Account) (registry : Registry) (s : SetUp) (event : TracingEvent) (m : ContextForm) (old : Runner)
    (h : HasIn account registry s (phase_of s) old) (fires : runs.IsFiring event)
    (at : context_at account registry event ≡ Some m) where
  pub took_exit : (exit : Option ℤ)
      → exit ≡ first_exit (taken_at s.options (tracing_steps account registry s) false m
      (map (form_of_ecb (map form_of_clause old.programs.clauses.items)) old.programs.ecbs.items))
      → first_exit (taken_by account registry s.options (ecbs_in account registry s) (tracing_steps account registry s) event) ≡ exit
  took_exit exit e =
      ap first_exit (by_is account registry s event m at
      ∙ ap (λ b. taken_at s.options (tracing_steps account registry s) b m (ecbs_in account registry s)) (firing_is event fires).1
      ∙ ap (taken_at s.options (tracing_steps account registry s) false m)
      (sym (own_ecbs account registry s (phase_of s) old h)))
      ∙ sym e

-- what is none is not there
pub never_some : {X : Type 0} (o : Option X) (b : Bool) → b ≡ is_some o → b ≡ true → o ≡ None → ⊥
never_some None true e f g = cc
never_some None false e f g = cc
never_some (Some x) b e f g = cc

pub never_none : {X : Type 0} (o : Option X) (b : Bool) (x : X) → b ≡ is_some o → b ≡ false → o ≡ Some x → ⊥
never_none None b x e f g = cc
never_none (Some y) true x e f g = cc
never_none (Some y) false x e f g = cc

-- the ECBs of a probe, where none or some name it
none_named : (probe : ℕ) (ecbs : List Ecb) → list_any (λ (e : Ecb). e.probe == probe) ecbs ≡ false
    → filter (λ (e : Ecb). e.probe == probe) ecbs ≡ []
none_named probe [] e = refl
none_named probe (ecb ∷ ecbs) e = one (ecb.probe == probe) (none_named probe ecbs) e
  where
    one : (b : Bool) → (list_any (λ (e : Ecb). e.probe == probe) ecbs ≡ false
        → filter (λ (e : Ecb). e.probe == probe) ecbs ≡ [])
        → (b || list_any (λ (e : Ecb). e.probe == probe) ecbs) ≡ false
        → cond b (ecb ∷ filter (λ (e : Ecb). e.probe == probe) ecbs) (filter (λ (e : Ecb). e.probe == probe) ecbs) ≡ []
    one true f e = cc
    one false f e = f e

some_named : (probe : ℕ) (ecbs : List Ecb) → list_any (λ (e : Ecb). e.probe == probe) ecbs ≡ true
    → filter (λ (e : Ecb). e.probe == probe) ecbs ≡ [] → ⊥
some_named probe [] e f = cc
some_named probe (ecb ∷ ecbs) e f = one (ecb.probe == probe) (some_named probe ecbs) e f
  where
    one : (b : Bool) → (list_any (λ (e : Ecb). e.probe == probe) ecbs ≡ true
        → filter (λ (e : Ecb). e.probe == probe) ecbs ≡ [] → ⊥)
        → (b || list_any (λ (e : Ecb). e.probe == probe) ecbs) ≡ true
        → cond b (ecb ∷ filter (λ (e : Ecb). e.probe == probe) ecbs) (filter (λ (e : Ecb). e.probe == probe) ecbs) ≡ []
        → ⊥
    one true f e g = cc
    one false f e g = f e g

map_none : {X Y : Type 0} (f : X → Y) (xs : List X) → map f xs ≡ [] → xs ≡ []
map_none f [] e = refl
map_none f (x ∷ xs) e = cc

module _ (account : Account) (registry : Registry) (s : SetUp) (phase : Phase) (r : Runner)
    (h : HasIn account registry s phase r) (probe : ℕ) where
  named_by : of_probe probe (ecbs_in account registry s)
      ≡ map (form_of_ecb s.clauses) (filter (λ (e : Ecb). e.probe == probe) r.programs.ecbs.items)
  named_by =
      ap (of_probe probe) (sym h.ecbs.forms)
      ∙ filter-map (form_of_ecb s.clauses) (λ (e : EcbForm). e.probe == probe) r.programs.ecbs.items

  pub unnamed : list_any (λ (e : Ecb). e.probe == probe) r.programs.ecbs.items ≡ false
      → of_probe probe (ecbs_in account registry s) ≡ []
  unnamed e = named_by ∙ ap (map (form_of_ecb s.clauses)) (none_named probe r.programs.ecbs.items e)

  pub named : list_any (λ (e : Ecb). e.probe == probe) r.programs.ecbs.items ≡ true
      → of_probe probe (ecbs_in account registry s) ≡ [] → ⊥
  named e f =
      some_named probe r.programs.ecbs.items e
      (map_none (form_of_ecb s.clauses) (filter (λ (e : Ecb). e.probe == probe) r.programs.ecbs.items)
      (sym named_by ∙ f))
