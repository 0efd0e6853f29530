-- What a life's takings leave fits the layouts of their clauses.
use Rattle.std.proofs.Common.{◌≡◌, ℕ, ◌+◌, ◌-◌, ◌≤◌, ◌==◌, ◌&&◌, ◌||◌, Bool, true, false, cond, not}
use Rattle.std.proofs.Common.{List, [], ◌∷◌, ◌++◌, Option, Some, None, Ok, Err, IfSome, is_none, length, map}
use Rattle.std.proofs.Common.{filter, nat_lt, refl, sym, ap, subst, ◌∙◌, arith, ltb-false, append_assoc, length-append}
use Rattle.std.proofs.lemmas.Bool.{and_parts}
use Rattle.std.specs.List.{AllByRecursion, flat_map, enumerate_from, slice_get, list_any}
use Rattle.std.specs.Option.{option_map, option_map_or, option_and_then, option_to_list}
use Rattle.dt_cred.specs.declared.account.Account.{Account}
use Rattle.dt_cred.specs.declared.probe.Probe.{Probe}
use Rattle.dt_ecb.specs.Ecbs.{EcbForm, added, ecbs_of, numbered, of_probe, pairs_of, pairs_of_clause}
use Rattle.dt_ecb.specs.Enable.{is_enabled, is_too_much, is_unmatched, may_do_all}
use Rattle.dt_ecb.specs.Limits.{aggregations_max, ecbs_max}
use Rattle.dt_ecb.specs.Matching.{matched}
use Rattle.dt_ecb.specs.Shapes.{any_clash, names_count, uses_of}
use Rattle.dt_lang.specs.Reads.{program, fault, destructive}
use Rattle.dt_machine.specs.Registry.{Registry}
use Rattle.dt_program.specs.Program.{ClauseForm}
use Rattle.dt_program.specs.Written.{IsWrittenClause}
use Rattle.dt_record.specs.Layout.{layout_of}
use Rattle.dt_expr.specs.Scene.{SceneForm}
use Rattle.dt_record.specs.Pasts.{TracingPast, past_then}
use Rattle.dt_record.specs.Showing.{CanBeTaken, FitLayout, IsLeftBy}
use Rattle.dt_record.specs.Taking.{ClauseTaken, Outcome, SpecEndForm, TakenForm, abandoned, passed_over, leaves, left_in}
use Rattle.dt_record.specs.Taking.{taking}
use Rattle.dt_record.specs.laws.Bounds.{AllFit, all_fit-append, bounds_of, taking_fit}
use Rattle.dt_record.specs.laws.Fitting.{records-fit}
use Rattle.dt_speculation.specs.History.{SpecEvent, draw, put_under, free}
use Rattle.dt_speculation.specs.Limits.{nspec_max}
use Rattle.dt_speculation.specs.laws.Pieces.{PutIs}
use Rattle.dt_life.specs.Aggregations.{aggregation_of}
use Rattle.dt_life.specs.Ask.{option, enable, go, stop, snap, agg, trunc, status, list, describe, close}
use Rattle.dt_life.specs.Life.{Item, asked, fired, SetUp, accepts, after_item, ecbs, ecbs_in, end_by, happens, has_room}
use Rattle.dt_life.specs.Life.{is_active, is_inactive, is_readable, is_stopped, next_epid, phase_of, set_up, shapes_in}
use Rattle.dt_life.specs.Life.{since_then, with_event, with_options, with_program}
use Rattle.dt_life.specs.Life.{tracing_steps}
use Rattle.dt_life.specs.Options.{OptionsForm, Setting, size, policy, entries, history, variables, speculations, parts}
use Rattle.dt_life.specs.Options.{with_setting}
use Rattle.dt_life.specs.Scenes.{IsItemInBounds, IsLifeInBounds, IsOfLayout, IsSettingInBounds}
use Rattle.dt_life.specs.Variables.{locals}
use Rattle.dt_life.specs.Takings.{TracingEvent, began, seen, snapped, truncated, ended, closed, is_end, Taking}
use Rattle.dt_life.specs.Takings.{assignments_of, context_at, cpu_of, draws_of, ends_of, freed_by, left_by, puts_of, scene_at}
use Rattle.dt_life.specs.Takings.{spec_events_of, taking_of}
use Rattle.dt_life.specs.TracingSteps.{TracingStep, takes, reads, truncates, assigned_in, past_of_steps, speculated_in}
use Rattle.dt_life.specs.TracingSteps.{steps_and, steps_since, steps_then, taken_at, taken_by, taken_on}
use Rattle.dt_machine.specs.Context.{ContextForm}
use Rattle.dt_life.specs.declared.phase.End.{End}
use Rattle.dt_life.specs.declared.phase.End.TheVariants.{Stop}
use Rattle.dt_life.specs.laws.Lists.{unheld}
use Rattle.dt_life.specs.laws.Pasts.{IsNoPut, drawn_quiet, freed_quiet, past_more, past_same}
use Rattle.dt_life.specs.laws.Scenes.{IsEventInBounds, IsContextInBounds, all_mapped, can_be_taken, context_in_bounds}
use Rattle.dt_life.specs.laws.TracingSteps.{along, steps_none}

-- lists
pub all_joined : {A : Type 0} (P : A → Type 0) (xs ys : List A) → AllByRecursion P xs → AllByRecursion P ys
    → AllByRecursion P (xs ++ ys)
all_joined P [] ys h k = k
all_joined P (x ∷ xs) ys h k = (h.0, all_joined P xs ys h.1 k)

all_picked : {A : Type 0} (P : A → Type 0) (b : Bool) (x : A) (xs : List A) → P x → AllByRecursion P xs
    → AllByRecursion P (cond b (x ∷ xs) xs)
all_picked P true x xs h k = (h, k)
all_picked P false x xs h k = k

pub all_filtered : {A : Type 0} (P : A → Type 0) (test : A → Bool) (xs : List A) → AllByRecursion P xs
    → AllByRecursion P (filter test xs)
all_filtered P test [] h = tt
all_filtered P test (x ∷ xs) h = all_picked P (test x) x (filter test xs) h.0 (all_filtered P test xs h.1)

pub all_flat : {A B : Type 0} (P : A → Type 0) (Q : B → Type 0) (f : A → List B) → ((x : A) → P x → AllByRecursion Q (f x))
    → (xs : List A) → AllByRecursion P xs → AllByRecursion Q (flat_map f xs)
all_flat P Q f g [] h = tt
all_flat P Q f g (x ∷ xs) h = all_joined Q (f x) (flat_map f xs) (g x h.0) (all_flat P Q f g xs h.1)

pub all_where : {A : Type 0} (P : A → Type 0) (b : Bool) (xs : List A) → AllByRecursion P xs
    → AllByRecursion P (cond b xs [])
all_where P true xs h = h
all_where P false xs h = tt

all_so : {A : Type 0} (P : A → Type 0) → ((x : A) → P x) → (xs : List A) → AllByRecursion P xs
all_so P h [] = tt
all_so P h (x ∷ xs) = (h x, all_so P h xs)

stands_behind : {A : Type 0} (xs : List A) (x : A) (ys : List A) → slice_get (xs ++ (x ∷ ys)) (length xs) ≡ Some x
stands_behind [] x ys = refl
stands_behind (y ∷ xs) x ys = stands_behind xs x ys

-- ECBs
abbrev pub clause_of : EcbForm → ClauseForm
clause_of ecb = ecb.clause

-- the clause of an ECB stands at the place that its EPID names, and can be written
pub record IsEcbOf (clauses : List ClauseForm) (ecb : EcbForm) : Type 0 where
  pub place : ℕ
  pub counted : ecb.epid ≡ place + 1
  pub named : slice_get clauses place ≡ Some ecb.clause
  pub few : ecb.epid ≤ ecbs_max
  pub written : IsWrittenClause ecb.clause

abbrev IsWrittenPair : ℕ × ClauseForm → Type 0
IsWrittenPair pair = IsWrittenClause pair.1

abbrev ecbs_from : ℕ → List (ℕ × ClauseForm) → List EcbForm
ecbs_from n pairs = map numbered (enumerate_from n pairs)

ecbs_behind : (before : List ClauseForm) (n : ℕ) (pairs : List (ℕ × ClauseForm)) → n ≡ length before + 1
    → length before + length (ecbs_from n pairs) ≤ ecbs_max → AllByRecursion IsWrittenPair pairs
    → AllByRecursion (IsEcbOf (before ++ map clause_of (ecbs_from n pairs))) (ecbs_from n pairs)
ecbs_behind before n [] counted few h = tt
ecbs_behind before n (pair ∷ pairs) counted few h = (
  record {
    place = length before;
    counted = counted;
    named = stands_behind before pair.1 (map clause_of (ecbs_from (n + 1) pairs));
    few = omega arith;
    written = h.0;
  },
  subst (λ all. AllByRecursion (IsEcbOf all) (ecbs_from (n + 1) pairs))
      (append_assoc before (pair.1 ∷ []) (map clause_of (ecbs_from (n + 1) pairs)))
      (ecbs_behind (before ++ (pair.1 ∷ [])) (n + 1) pairs (omega (arith, longer)) (omega (arith, longer)) h.1),
)
  where
    longer : length (before ++ (pair.1 ∷ [])) ≡ length before + 1
    longer = length-append before (pair.1 ∷ [])

fourth : (a b c d : Bool) → (a && (b && (c && d))) ≡ true → d ≡ true
fourth a b c d e = (and_parts c d (and_parts b (c && d) (and_parts a (b && (c && d)) e).1).1).1

left_false : (a b : Bool) → (a || b) ≡ false → a ≡ false
left_false true b e = e
left_false false b e = refl

module _ (account : Account) (registry : Registry) where
  pairs_written : (clause : ClauseForm) → IsWrittenClause clause
      → AllByRecursion IsWrittenPair (pairs_of_clause account registry clause)
  pairs_written clause h =
      all_mapped (λ (probe : Probe). IsWrittenClause clause) IsWrittenPair (λ probe. (probe.id, clause)) (λ probe is. is)
      (matched account registry clause) (all_so (λ (probe : Probe). IsWrittenClause clause) (λ probe. h) _)

  ecbs_are : (clauses : List ClauseForm) → AllByRecursion IsWrittenClause clauses
      → length (ecbs_of account registry clauses) ≤ ecbs_max
      → AllByRecursion (IsEcbOf (map clause_of (ecbs_of account registry clauses))) (ecbs_of account registry clauses)
  ecbs_are clauses h few =
      ecbs_behind [] 1 (pairs_of account registry clauses) refl (omega (arith, few))
      (all_flat IsWrittenClause IsWrittenPair (pairs_of_clause account registry) pairs_written clauses h)

  -- set-ups
  pub record IsSetUpInBounds (s : SetUp) : Type 0 where
    pub written : AllByRecursion IsWrittenClause s.clauses
    pub few : length (ecbs_in account registry s) ≤ ecbs_max
    pub few_speculations : s.options.nspec ≤ nspec_max
    pub seen_in : AllByRecursion IsEventInBounds s.since

  either : (s t : SetUp) (b : Bool) → (b ≡ true → IsSetUpInBounds t) → IsSetUpInBounds s → IsSetUpInBounds (cond b t s)
  either s t true h k = h refl
  either s t false h k = k

  either_not : (s t : SetUp) (b : Bool) → IsSetUpInBounds t → IsSetUpInBounds s → IsSetUpInBounds (cond b s t)
  either_not s t true h k = k
  either_not s t false h k = h

  event_in : (s : SetUp) (event : TracingEvent) → IsEventInBounds event → IsSetUpInBounds s
      → IsSetUpInBounds (with_event s event)
  event_in s event is h = record {
    written = h.written;
    few = h.few;
    few_speculations = h.few_speculations;
    seen_in = (is, h.seen_in);
  }

  ends_in : (s : SetUp) (end : Option End) → IsSetUpInBounds s
      → IsSetUpInBounds (option_map_or (λ end. with_event s (ended end)) end s)
  ends_in s None h = h
  ends_in s (Some end) h = event_in s (ended end) tt h

  happens_in : (s : SetUp) (event : TracingEvent) → IsEventInBounds event → IsSetUpInBounds s
      → IsSetUpInBounds (happens account registry s event)
  happens_in s event is h =
      ends_in (with_event s event) (end_by account registry s event) (event_in s event is h)

  setting_few : (options : OptionsForm) (setting : Setting) → IsSettingInBounds setting → options.nspec ≤ nspec_max
      → (with_setting options setting).nspec ≤ nspec_max
  setting_few options (size n) is few = few
  setting_few options (policy p) is few = few
  setting_few options (entries n) is few = few
  setting_few options (history n) is few = few
  setting_few options (variables n) is few = few
  setting_few options (speculations n) is few = is
  setting_few options (parts n) is few = few

  module _ (go_on : (before clauses : List ClauseForm) → ecbs_of account registry (before ++ clauses)
      ≡ ecbs_of account registry before ++ added account registry (length (ecbs_of account registry before) + 1) clauses)
    where
      few_more : (s : SetUp) (clauses : List ClauseForm) → accepts account registry s clauses ≡ true
          → length (ecbs_in account registry (with_program s clauses)) ≤ ecbs_max
      few_more s clauses is =
          let epid = next_epid account registry s in
          let new = added account registry epid clauses in
          let too_much = is_too_much account registry (shapes_in s) epid clauses in
          let enabled = (and_parts (is_inactive (phase_of s)) (is_enabled account registry (shapes_in s) epid clauses) is).1 in
          let few = fourth (may_do_all account registry (shapes_in s) epid clauses)
          (not (any_clash (shapes_in s) (uses_of clauses))) (not (list_any (is_unmatched account registry) clauses))
          (not too_much) enabled in
          let room = ltb-false ecbs_max (epid - 1 + length new)
          (left_false (nat_lt ecbs_max (epid - 1 + length new))
          (nat_lt aggregations_max (names_count (shapes_in s ++ uses_of clauses))) (unheld too_much few)) in
          let whole = ap length (go_on s.clauses clauses) ∙ length-append (ecbs_in account registry s) new in
          omega (arith, room, whole)

      item_leaves : (s : SetUp) (item : Item) → IsItemInBounds item → IsSetUpInBounds s
          → IsSetUpInBounds (after_item account registry s item)
      item_leaves s (asked (Err why)) is h = h
      item_leaves s (asked (Ok (option None))) is h = h
      item_leaves s (asked (Ok (option (Some setting)))) is h =
          either s (with_options s (with_setting s.options setting)) (is_inactive (phase_of s))
          (λ quiet. record {
            written = h.written;
            few = h.few;
            few_speculations = setting_few s.options setting is h.few_speculations;
            seen_in = h.seen_in;
          }) h
      item_leaves s (asked (Ok (enable (program clauses)))) is h =
          either s (with_program s clauses) (accepts account registry s clauses) (λ accepted. record {
            written = all_joined IsWrittenClause s.clauses clauses h.written is.each;
            few = few_more s clauses accepted;
            few_speculations = h.few_speculations;
            seen_in = h.seen_in;
          }) h
      item_leaves s (asked (Ok (enable (fault at why)))) is h = h
      item_leaves s (asked (Ok (enable (destructive at what)))) is h = h
      item_leaves s (asked (Ok go)) is h =
          either s (happens account registry (since_then s []) began) (is_inactive (phase_of s) && has_room account registry s)
          (λ may. happens_in (since_then s []) began tt (record {
            written = h.written;
            few = h.few;
            few_speculations = h.few_speculations;
            seen_in = tt;
          })) h
      item_leaves s (asked (Ok stop)) is h =
          either s (with_event s (ended Stop)) (is_active (phase_of s)) (λ on. event_in s (ended Stop) tt h) h
      item_leaves s (asked (Ok (snap cpu))) is h =
          either s (with_event s (snapped cpu)) (nat_lt cpu registry.cpus && is_readable s (phase_of s))
          (λ may. event_in s (snapped cpu) tt h) h
      item_leaves s (asked (Ok (agg name))) is h = h
      item_leaves s (asked (Ok (trunc name))) is h =
          either_not s (with_event s (truncated name))
          (is_inactive (phase_of s) || is_none (aggregation_of (shapes_in s) name)) (event_in s (truncated name) tt h) h
      item_leaves s (asked (Ok status)) is h = h
      item_leaves s (asked (Ok (list desc))) is h = h
      item_leaves s (asked (Ok (describe epid))) is h = h
      item_leaves s (asked (Ok close)) is h =
          either_not s (with_event s closed) (is_stopped (phase_of s)) (event_in s closed tt h) h
      item_leaves s (fired firing) is h =
          either s (happens account registry s (seen firing)) (is_active (phase_of s))
          (λ on. happens_in s (seen firing) is h) h

      pub set_up_in : (life : List Item) → AllByRecursion IsItemInBounds life
          → IsSetUpInBounds (set_up account registry life)
      set_up_in [] h = record { written = tt; few = omega arith; few_speculations = omega arith; seen_in = tt }
      set_up_in (item ∷ life) h = item_leaves (set_up account registry life) item h.0 (set_up_in life h.1)

-- what is put under identifiers is a record that a clause left
abbrev pub IsPutOf : List ClauseForm → SpecEvent → Type 0
IsPutOf clauses event = PutIs (IsLeftBy clauses) event

-- what came to variables and to speculations is within bounds
pub record IsPastOf (clauses : List ClauseForm) (past : TracingPast) : Type 0 where
  pub assigned_fit : AllFit past.locals.assignments
  pub few : past.specs.nspec ≤ nspec_max
  pub puts : AllByRecursion (IsPutOf clauses) past.specs.events

-- takings
pub record IsTakenOf (clauses : List ClauseForm) (t : Taking) : Type 0 where
  pub in_end : Bool
  pub past : TracingPast
  pub context : ContextForm
  pub ecb : EcbForm
  pub same : t ≡ taking_of in_end past context ecb
  pub past_is : IsPastOf clauses past
  pub context_is : IsContextInBounds context
  pub ecb_is : IsEcbOf clauses ecb

-- and so is a step
abbrev pub IsStepOf : List ClauseForm → TracingStep → Type 0
IsStepOf clauses (takes t) = IsTakenOf clauses t
IsStepOf clauses (reads cpu) = Unit {0}
IsStepOf clauses (truncates name) = Unit {0}

module _ (clauses : List ClauseForm) where
  -- those of one processor
  pub taken_on_in : (cpu : ℕ) (step : TracingStep) → IsStepOf clauses step
      → AllByRecursion (IsTakenOf clauses) (taken_on cpu step)
  taken_on_in cpu (takes t) is = all_where (IsTakenOf clauses) (cpu_of t == cpu) (t ∷ []) (is, tt)
  taken_on_in cpu (reads n) is = tt
  taken_on_in cpu (truncates name) is = tt

  module _ (t : Taking) (is : IsTakenOf clauses t) where
    abbrev scene : SceneForm
    scene = scene_at is.context is.ecb.epid

    abbrev taken : ClauseTaken
    taken = taking is.ecb.epid scene is.past is.ecb.clause

    -- each can be taken
    can_take : CanBeTaken scene is.past is.ecb.clause
    can_take =
        let few = is.ecb_is.few in
        can_be_taken is.context is.ecb.epid is.past is.ecb.clause is.context_is (omega arith)
        (bounds_of is.past.locals is.past_is.assigned_fit) is.past_is.few is.ecb_is.written

    outcome_of_layout : (outcome : Outcome) → taken.outcome ≡ outcome
        → IfSome (left_in outcome)
        (λ left. FitLayout is.ecb.epid scene is.past is.ecb.clause (layout_of is.ecb.clause) left.record_bytes)
    outcome_of_layout abandoned e = tt
    outcome_of_layout passed_over e = tt
    outcome_of_layout (leaves left) e = records-fit is.ecb.epid scene is.past is.ecb.clause left can_take e

    -- what it left fits the layout
    pub taken_of_layout : IsOfLayout t
    taken_of_layout = subst IsOfLayout (sym is.same) (outcome_of_layout taken.outcome refl)

    outcome_left : (outcome : Outcome) (left : TakenForm) (bytes : List ℕ) → taken.outcome ≡ outcome
        → left_in outcome ≡ Some left → left.record_bytes ≡ Some bytes → IsLeftBy clauses bytes
    outcome_left abandoned left bytes e is_left these = cc
    outcome_left passed_over left bytes e is_left these = cc
    outcome_left (leaves form) left bytes e is_left these =
        let few = is.ecb_is.few in
        let counted = is.ecb_is.counted in
        let one : form ≡ left = cc in
        record {
          place = is.ecb_is.place;
          small = omega arith;
          clause = is.ecb.clause;
          there = is.ecb_is.named;
          scene = scene;
          past = is.past;
          can = can_take;
          left = left;
          taken = subst (λ n. (taking n scene is.past is.ecb.clause).outcome ≡ leaves left) counted (e ∙ ap leaves one);
          these = these;
        }

    -- and its record is one that a clause left
    pub taken_left : (left : TakenForm) (bytes : List ℕ) → left_by t ≡ Some left → left.record_bytes ≡ Some bytes
        → IsLeftBy clauses bytes
    taken_left left bytes is_left these =
        outcome_left taken.outcome left bytes refl (subst (λ x. left_by x ≡ Some left) is.same is_left) these

    -- also where it is put under an identifier
    put_where : (id : Option ℕ) (left : TakenForm) (o : Option (List ℕ)) → left_by t ≡ Some left → left.record_bytes ≡ o
        → AllByRecursion (IsPutOf clauses)
        (option_to_list (option_and_then (λ id. option_map (put_under id (cpu_of t)) o) id))
    put_where None left o is_left e = tt
    put_where (Some id) left None is_left e = tt
    put_where (Some id) left (Some bytes) is_left e = (taken_left left bytes is_left e, tt)

    put_by : (o : Option TakenForm) → left_by t ≡ o → AllByRecursion (IsPutOf clauses) (option_to_list (option_and_then
        (λ (form : TakenForm). option_and_then (λ id. option_map (put_under id (cpu_of t)) form.record_bytes) form.spec) o))
    put_by None e = tt
    put_by (Some left) e = put_where left.spec left left.record_bytes e refl

    no_put : (events : List SpecEvent) → AllByRecursion IsNoPut events → AllByRecursion (IsPutOf clauses) events
    no_put [] h = tt
    no_put (draw answer ∷ later) h = (tt, no_put later h.1)
    no_put (put_under id cpu bytes ∷ later) h = absurd h.0
    no_put (free id ∷ later) h = (tt, no_put later h.1)

    -- what comes to speculations before its ends, and by these
    pub drawn_and_put_in : AllByRecursion (IsPutOf clauses) (draws_of t ++ puts_of t)
    drawn_and_put_in =
        all_joined (IsPutOf clauses) (draws_of t) (puts_of t) (no_put (draws_of t) (drawn_quiet t.taken.effects))
        (put_by (left_by t) refl)

    pub freed_in : (ends : List SpecEndForm) → AllByRecursion (IsPutOf clauses) (freed_by ends)
    freed_in ends = no_put (freed_by ends) (freed_quiet ends)

    -- and so the past after it is within bounds
    after_taken : IsPastOf clauses t.past → IsPastOf clauses (past_then t.past (assignments_of t) (spec_events_of t))
    after_taken h = record {
      assigned_fit = all_fit-append t.past.locals.assignments (assignments_of t) h.assigned_fit
          (subst (λ (x : Taking). AllFit (assignments_of x)) (sym is.same)
          (taking_fit is.ecb.epid scene is.past is.ecb.clause can_take));
      few = h.few;
      puts = all_joined (IsPutOf clauses) t.past.specs.events (spec_events_of t) h.puts
          (all_joined (IsPutOf clauses) (draws_of t ++ puts_of t) (freed_by (ends_of t)) drawn_and_put_in
          (freed_in (ends_of t)));
    }

  module _ (options : OptionsForm) where
    -- steps that are so, and what came by them
    pub record AreStepsOf (steps : List TracingStep) : Type 0 where
      pub each : AllByRecursion (IsStepOf clauses) steps
      pub past_is : IsPastOf clauses (past_of_steps options steps)

    steps_quiet : (steps : List TracingStep) (step : TracingStep) → IsStepOf clauses step → assigned_in step ≡ []
        → speculated_in step ≡ [] → AreStepsOf steps → AreStepsOf (steps ++ step ∷ [])
    steps_quiet steps step is no_assignment no_event h = record {
      each = all_joined (IsStepOf clauses) steps (step ∷ []) h.each (is, tt);
      past_is = subst (IsPastOf clauses) (sym (past_same options steps step no_assignment no_event)) h.past_is;
    }

    module _ (ecbs : List EcbForm) (are : AllByRecursion (IsEcbOf clauses) ecbs) where
      one_taken : (in_end : Bool) (m : ContextForm) → IsContextInBounds m → (steps : List TracingStep) (ecb : EcbForm)
          → AreStepsOf steps → IsEcbOf clauses ecb
          → AreStepsOf (steps ++ takes (taking_of in_end (past_of_steps options steps) m ecb) ∷ [])
      one_taken in_end m is steps ecb h one =
          let t = taking_of in_end (past_of_steps options steps) m ecb in
          let taken_is : IsTakenOf clauses t = record {
            in_end = in_end;
            past = past_of_steps options steps;
            context = m;
            ecb = ecb;
            same = refl;
            past_is = h.past_is;
            context_is = is;
            ecb_is = one;
          } in
          record {
            each = all_joined (IsStepOf clauses) steps (takes t ∷ []) h.each (taken_is, tt);
            past_is = subst (IsPastOf clauses) (sym (past_more options steps t)) (after_taken t taken_is h.past_is);
          }

      taken_at_in : (in_end : Bool) (m : ContextForm) → IsContextInBounds m → (steps : List TracingStep) → AreStepsOf steps
          → AreStepsOf (steps_and steps (taken_at options steps in_end m ecbs))
      taken_at_in in_end m is steps h =
          along options in_end m AreStepsOf (IsEcbOf clauses) (one_taken in_end m is)
          (of_probe m.firing.probe ecbs) (all_filtered (IsEcbOf clauses) (λ ecb. ecb.probe == m.firing.probe) ecbs are)
          steps h

      module _ (account : Account) (registry : Registry)
          (contexts : (event : TracingEvent) → IsEventInBounds event
          → IfSome (context_at account registry event) IsContextInBounds) where
        taken_by_in : (event : TracingEvent) → IsEventInBounds event → (steps : List TracingStep) → AreStepsOf steps
            → AreStepsOf (steps_and steps (taken_by account registry options ecbs steps event))
        taken_by_in event is steps h = at (context_at account registry event) (contexts event is)
          where
            at : (o : Option ContextForm) → IfSome o IsContextInBounds
                → AreStepsOf (steps_and steps (option_map_or
                (λ (context : ContextForm). taken_at options steps (is_end event) context ecbs) o []))
            at None k = subst AreStepsOf (sym (steps_none steps)) h
            at (Some m) k = taken_at_in (is_end event) m k steps h

        steps_then_in : (event : TracingEvent) → IsEventInBounds event → (steps : List TracingStep) → AreStepsOf steps
            → AreStepsOf (steps_then account registry options ecbs steps event)
        steps_then_in began is steps h = taken_by_in began is steps h
        steps_then_in (seen firing) is steps h = taken_by_in (seen firing) is steps h
        steps_then_in (snapped cpu) is steps h = steps_quiet steps (reads cpu) tt refl refl h
        steps_then_in (truncated name) is steps h = steps_quiet steps (truncates name) tt refl refl h
        steps_then_in (ended end) is steps h = taken_by_in (ended end) is steps h
        steps_then_in closed is steps h = taken_by_in closed is steps h

        pub steps_since_in : options.nspec ≤ nspec_max → (events : List TracingEvent)
            → AllByRecursion IsEventInBounds events → AreStepsOf (steps_since account registry options ecbs events)
        steps_since_in few [] h = record {
          each = tt;
          past_is = record { assigned_fit = tt; few = few; puts = tt };
        }
        steps_since_in few (event ∷ events) h =
            steps_then_in event h.0 (steps_since account registry options ecbs events) (steps_since_in few events h.1)

-- a whole life
module _ (account : Account) (registry : Registry)
    (go_on : (before clauses : List ClauseForm) → ecbs_of account registry (before ++ clauses)
    ≡ ecbs_of account registry before ++ added account registry (length (ecbs_of account registry before) + 1) clauses)
    (life : List Item) (is : IsLifeInBounds account registry life) where
  abbrev own_clauses : List ClauseForm
  own_clauses = map clause_of (ecbs account registry life)

  own : IsSetUpInBounds account registry (set_up account registry life)
  own = set_up_in account registry go_on life is.items

  own_ecbs : AllByRecursion (IsEcbOf own_clauses) (ecbs account registry life)
  own_ecbs = ecbs_are account registry (set_up account registry life).clauses own.written own.few

  -- The steps of a life within bounds, and the variables after them.
  pub life_steps : AreStepsOf own_clauses (set_up account registry life).options
      (tracing_steps account registry (set_up account registry life))
  life_steps =
      steps_since_in own_clauses (set_up account registry life).options (ecbs account registry life) own_ecbs account registry
      (context_in_bounds account registry is.uid is.processes is.probes) own.few_speculations
      (set_up account registry life).since own.seen_in

  pub life_taken : (cpu : ℕ) → AllByRecursion (IsTakenOf own_clauses)
      (flat_map (taken_on cpu) (tracing_steps account registry (set_up account registry life)))
  life_taken cpu =
      all_flat (IsStepOf own_clauses) (IsTakenOf own_clauses) (taken_on cpu) (taken_on_in own_clauses cpu)
      (tracing_steps account registry (set_up account registry life)) life_steps.each

  -- What is assigned to variables has 64 bits with a sign.
  pub life_assigned : AllFit (locals account registry life).assignments
  life_assigned = life_steps.past_is.assigned_fit
