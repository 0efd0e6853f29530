-- An account is its uid and its privileges: under another name it has the same life, and is answered the same.
use Rattle.std.proofs.Common.{◌≡◌, ℕ, ◌+◌, ◌==◌, ◌&&◌, ◌||◌, Bool, true, false, cond, not, List, [], ◌∷◌, ◌++◌, Option, Some, None}
use Rattle.std.proofs.Common.{Result, Ok, Err, map, sum, length, MatchBool, MatchOption, refl, ap, subst, ◌∙◌}
use Rattle.std.proofs.Math.Path.{fun_ext}
use Rattle.std.specs.Bool.{nat_le}
use Rattle.std.specs.List.{find, range_with_len}
use Rattle.std.specs.Option.{is_none, option_and_then, option_map, option_map_or, option_or}
use Rattle.dt_aggstore.specs.Chosen.{drops}
use Rattle.dt_aggstore.specs.History as store
use Rattle.dt_aggstore.specs.TableOf.{table_of}
use Rattle.dt_buffer.specs.History as buffer
use Rattle.dt_buffer.specs.Shows.{Shows}
use Rattle.dt_cred.specs.declared.account.Account.{Account}
use Rattle.dt_cred.specs.declared.firing.Firing.{Firing}
use Rattle.dt_cred.specs.declared.probe.Probe.{Probe as AProbe}
use Rattle.dt_cred.specs.laws.Accounts.{renamed}
use Rattle.dt_ecb.specs.Ecbs.{EcbForm, added, of_probe}
use Rattle.dt_ecb.specs.Enable.{EnableVerdict, IsVerdict, is_enabled}
use Rattle.dt_ecb.specs.Interest.{is_wanted}
use Rattle.dt_ecb.specs.laws.Accounts.{ecbs_alike, added_alike, listed_alike, enabled_alike, verdict_renamed}
use Rattle.dt_lang.specs.Program.{ClauseForm}
use Rattle.dt_lang.specs.Reads.{program, fault, destructive}
use Rattle.dt_machine.specs.Registry.{Registry, probe_of}
use Rattle.dt_machine.specs.Tests.{belongs, is_shown}
use Rattle.dt_machine.specs.laws.Accounts.{shown_alike}
use Rattle.dt_machine.specs.Context.{ContextForm}
use Rattle.dt_record.specs.Layout.{layout_of}
use Rattle.dt_speculation.specs.Answers.{failed_draws}
use Rattle.dt_speculation.specs.Parts.{spec_drops}
use Rattle.dt_life.specs.Aggregations.{aggregation_of}
use Rattle.dt_life.specs.Answer.{Answer, enabled, aggregated, described, refused, listed as listed_answer, status as status_answer}
use Rattle.dt_life.specs.Ask.{Ask, option, enable, go, stop, snap, agg, trunc, status, list, describe, close}
use Rattle.dt_life.specs.Buffers.{comes_by_steps, errors_after, reserve_on, past_in, errors_in}
use Rattle.dt_life.specs.Life.{Item, asked, fired, SetUp, is_active, is_inactive, is_over, is_readable, phase_of, shapes_in}
use Rattle.dt_life.specs.Life.{ecbs_in, next_epid, accepts, end_size, has_room, end_by, happens, after_item, set_up, phase, ecbs}
use Rattle.dt_life.specs.Life.{attempt_size, seen_count, since_then, tracing_steps, with_event, with_program}
use Rattle.dt_life.specs.Limits.{end_id}
use Rattle.dt_life.specs.Options.{OptionsForm, is_fill}
use Rattle.dt_life.specs.Reply.{IsVerdictOnCommand, Accepted, RepliesInQuota, Replies, all_errors, all_aggdrops, all_dyndrops}
use Rattle.dt_life.specs.Reply.{all_specdrops, ecb_of, refusal_of}
use Rattle.dt_life.specs.Stores.{given_after, given_in, aggdrops_in, stores_in}
use Rattle.dt_life.specs.Variables.{dyndrops_in, specdrops_in, specfails_in}
use Rattle.dt_life.specs.Takings.{TracingEvent, began, seen, snapped, truncated, ended, closed, is_end}
use Rattle.dt_life.specs.Takings.{context_at, first_exit, Taking}
use Rattle.dt_life.specs.TracingSteps.{TracingStep, takes, dynamic_drops, specs_of, steps_by, steps_since, taken_at, taken_by}
use Rattle.dt_life.specs.Tests.{is_seen}
use Rattle.dt_life.specs.declared.phase.End.{End}
use Rattle.dt_life.specs.declared.phase.End.TheVariants.{Exit, History}
use Rattle.dt_life.specs.declared.refusal.Refusal.{Refusal}
use Rattle.dt_life.specs.declared.refusal.Refusal.TheVariants as refusal

module _ (account : Account) (name : List ℕ) (registry : Registry) where
  abbrev other : Account
  other = renamed account name

  -- what is taken
  context_alike : (event : TracingEvent) → context_at other registry event ≡ context_at account registry event
  context_alike began = refl
  context_alike (seen firing) = refl
  context_alike (snapped cpu) = refl
  context_alike (truncated word) = refl
  context_alike (ended end) = refl
  context_alike closed = refl

  module _ (options : OptionsForm) (own : List EcbForm) where
    taken_by_alike : (steps : List TracingStep) (event : TracingEvent)
        → taken_by other registry options own steps event ≡ taken_by account registry options own steps event
    taken_by_alike steps event = ap (λ context. option_map_or
        (λ (m : ContextForm). taken_at options steps (is_end event) m own) context []) (context_alike event)

    steps_by_alike : (steps : List TracingStep) (event : TracingEvent)
        → steps_by other registry options own steps event ≡ steps_by account registry options own steps event
    steps_by_alike steps (snapped n) = refl
    steps_by_alike steps began = ap (map takes) (taken_by_alike steps began)
    steps_by_alike steps (seen firing) = ap (map takes) (taken_by_alike steps (seen firing))
    steps_by_alike steps (truncated word) = refl
    steps_by_alike steps (ended end) = ap (map takes) (taken_by_alike steps (ended end))
    steps_by_alike steps closed = refl

    steps_since_alike : (events : List TracingEvent)
        → steps_since other registry options own events ≡ steps_since account registry options own events
    steps_since_alike [] = refl
    steps_since_alike (event ∷ events) =
        ap (λ before. before ++ steps_by other registry options own before event) (steps_since_alike events)
        ∙ ap (λ now. steps_since account registry options own events ++ now)
        (steps_by_alike (steps_since account registry options own events) event)

  -- what a set-up comes to
  module _ (s : SetUp) where
    own_ecbs : ecbs_in other registry s ≡ ecbs_in account registry s
    own_ecbs = ap (λ numbering. numbering s.clauses) (ecbs_alike account name registry)

    epid_alike : next_epid other registry s ≡ next_epid account registry s
    epid_alike = ap (λ (own : List EcbForm). length own + 1) own_ecbs

    accepts_alike : (clauses : List ClauseForm) → accepts other registry s clauses ≡ accepts account registry s clauses
    accepts_alike clauses =
        ap (λ epid. is_inactive (phase_of s) && is_enabled other registry (shapes_in s) epid clauses) epid_alike
        ∙ ap (λ may. is_inactive (phase_of s) && may)
        (enabled_alike account name registry (shapes_in s) (next_epid account registry s) clauses)

    steps_alike : tracing_steps other registry s ≡ tracing_steps account registry s
    steps_alike =
        ap (λ own. steps_since other registry s.options own s.since) own_ecbs
        ∙ steps_since_alike s.options (ecbs_in account registry s) s.since

    end_alike : end_size other registry s ≡ end_size account registry s
    end_alike = ap (λ own. sum (map (λ (ecb : EcbForm). attempt_size ecb.clause) (of_probe end_id own))) own_ecbs

    room_alike : has_room other registry s ≡ has_room account registry s
    room_alike = ap (λ size. not (is_fill s.options.bufpolicy) || nat_le size s.options.bufsize) end_alike

    abbrev past_with : ℕ → List buffer.BufferEvent → buffer.BufferPast
    past_with reserve events = record {
      policy = s.options.bufpolicy;
      size = s.options.bufsize;
      reserve = reserve;
      events = events;
    }

    past_alike : (cpu : ℕ) → past_in other registry s cpu ≡ past_in account registry s cpu
    past_alike cpu =
        ap (λ size. past_with (cond (is_fill s.options.bufpolicy && cpu == 0) size 0)
        (comes_by_steps cpu (tracing_steps other registry s))) end_alike
        ∙ ap (λ steps. past_with (reserve_on account registry s cpu) (comes_by_steps cpu steps)) steps_alike

    errors_alike : (cpu : ℕ) → errors_in other registry s cpu ≡ errors_in account registry s cpu
    errors_alike cpu = ap (λ steps. errors_after steps cpu) steps_alike

    given_alike : (cpu : ℕ) → given_in other registry s cpu ≡ given_in account registry s cpu
    given_alike cpu = ap (λ steps. given_after s steps cpu) steps_alike

    dyndrops_alike : (cpu : ℕ) → dyndrops_in other registry s cpu ≡ dyndrops_in account registry s cpu
    dyndrops_alike cpu = ap (λ steps. dynamic_drops s.options steps cpu) steps_alike

    specdrops_alike : (cpu : ℕ) → specdrops_in other registry s cpu ≡ specdrops_in account registry s cpu
    specdrops_alike cpu = ap (λ steps. spec_drops (specs_of s.options steps) cpu) steps_alike

    specfails_alike : specfails_in other registry s ≡ specfails_in account registry s
    specfails_alike = ap (λ steps. failed_draws (specs_of s.options steps).events) steps_alike

    stores_alike : stores_in other registry s ≡ stores_in account registry s
    stores_alike = ap (λ (given : ℕ → store.Past). map given (range_with_len 0 registry.cpus)) (fun_ext given_alike)

    abbrev end_at : TracingEvent → List Taking → Option End
    end_at event taken = option_or (option_map Exit (first_exit taken))
        (cond (seen_count (event ∷ s.since) == s.options.histsize) (Some History) None)

    end_by_alike : (event : TracingEvent) → end_by other registry s event ≡ end_by account registry s event
    end_by_alike event =
        ap (λ own. end_at event (taken_by other registry s.options own (tracing_steps other registry s) event)) own_ecbs
        ∙ ap (λ steps. end_at event (taken_by other registry s.options (ecbs_in account registry s) steps event)) steps_alike
        ∙ ap (end_at event)
        (taken_by_alike s.options (ecbs_in account registry s) (tracing_steps account registry s) event)

  happens_alike : (s : SetUp) (event : TracingEvent) → happens other registry s event ≡ happens account registry s event
  happens_alike s event = ap
      (λ end. option_map_or (λ end. with_event (with_event s event) (ended end)) end (with_event s event))
      (end_by_alike s event)

  after_alike : (s : SetUp) (item : Item) → after_item other registry s item ≡ after_item account registry s item
  after_alike s (asked (Ok (option (Some setting)))) = refl
  after_alike s (asked (Ok (option None))) = refl
  after_alike s (asked (Ok (enable (program clauses)))) =
      ap (λ accepted. cond accepted (with_program s clauses) s) (accepts_alike s clauses)
  after_alike s (asked (Ok (enable (fault at why)))) = refl
  after_alike s (asked (Ok (enable (destructive at what)))) = refl
  after_alike s (asked (Ok go)) =
      ap (λ room. cond (is_inactive (phase_of s) && room) (happens other registry (since_then s []) began) s) (room_alike s)
      ∙ ap (λ begun. cond (is_inactive (phase_of s) && has_room account registry s) begun s)
      (happens_alike (since_then s []) began)
  after_alike s (asked (Ok stop)) = refl
  after_alike s (asked (Ok (snap cpu))) = refl
  after_alike s (asked (Ok (agg word))) = refl
  after_alike s (asked (Ok (trunc word))) = refl
  after_alike s (asked (Ok status)) = refl
  after_alike s (asked (Ok (list desc))) = refl
  after_alike s (asked (Ok (describe epid))) = refl
  after_alike s (asked (Ok close)) = refl
  after_alike s (asked (Err why)) = refl
  after_alike s (fired firing) =
      ap (λ further. cond (is_active (phase_of s)) further s) (happens_alike s (seen firing))

  -- A life makes the same of a consumer.
  pub set_up_alike : (life : List Item) → set_up other registry life ≡ set_up account registry life
  set_up_alike [] = refl
  set_up_alike (item ∷ life) =
      ap (λ s. after_item other registry s item) (set_up_alike life)
      ∙ after_alike (set_up account registry life) item

  module _ (life : List Item) where
    abbrev now : SetUp
    now = set_up account registry life

    pub phase_alike : phase other registry life ≡ phase account registry life
    phase_alike = ap phase_of (set_up_alike life)

    pub ecbs_of_life_alike : ecbs other registry life ≡ ecbs account registry life
    ecbs_of_life_alike = ap (ecbs_in other registry) (set_up_alike life) ∙ own_ecbs now

    -- The same firings are seen.
    pub seen_firing_alike : (firing : Firing) → is_seen other registry life firing ≡ is_seen account registry life firing
    unfolding is_seen
    seen_firing_alike firing =
        ap (λ p. is_active p && (belongs registry firing
        && (is_wanted (ecbs other registry life) firing.probe && is_shown other registry firing))) phase_alike
        ∙ ap (λ own. is_active (phase account registry life) && (belongs registry firing
        && (is_wanted own firing.probe && is_shown other registry firing))) ecbs_of_life_alike
        ∙ ap (λ shown. is_active (phase account registry life) && (belongs registry firing
        && (is_wanted (ecbs account registry life) firing.probe && shown))) (shown_alike account name registry firing)

    -- a fact of the set-up that the other account's lines and firings make, and what it is read with
    of_set_up : {X : Type 0} (f g : SetUp → X) → ((s : SetUp) → f s ≡ g s)
        → f (set_up other registry life) ≡ g now
    of_set_up f g each = ap f (set_up_alike life) ∙ each now

    found_alike : (epid : ℕ) → ecb_of other registry life epid ≡ ecb_of account registry life epid
    found_alike epid = ap
        (λ own. option_and_then (λ (ecb : EcbForm). option_map (λ probe. (probe, ecb)) (probe_of registry ecb.probe))
        (find (λ (ecb : EcbForm). ecb.epid == epid) own)) ecbs_of_life_alike

    -- a number of each processor
    each_alike : (f g : SetUp → ℕ → ℕ) → ((s : SetUp) (cpu : ℕ) → f s cpu ≡ g s cpu)
        → map (f (set_up other registry life)) (range_with_len 0 registry.cpus) ≡ map (g now) (range_with_len 0 registry.cpus)
    each_alike f g same = ap (λ (each : ℕ → ℕ). map each (range_with_len 0 registry.cpus))
        (fun_ext (λ cpu. of_set_up (λ s. f s cpu) (λ s. g s cpu) (λ s. same s cpu)))

    all_errors_alike : all_errors other registry life ≡ all_errors account registry life
    all_errors_alike = each_alike (errors_in other registry) (errors_in account registry) errors_alike

    all_aggdrops_alike : all_aggdrops other registry life ≡ all_aggdrops account registry life
    all_aggdrops_alike =
        each_alike (aggdrops_in other registry) (aggdrops_in account registry) (λ s cpu. ap drops (given_alike s cpu))

    all_dyndrops_alike : all_dyndrops other registry life ≡ all_dyndrops account registry life
    all_dyndrops_alike = each_alike (dyndrops_in other registry) (dyndrops_in account registry) dyndrops_alike

    all_specdrops_alike : all_specdrops other registry life ≡ all_specdrops account registry life
    all_specdrops_alike = each_alike (specdrops_in other registry) (specdrops_in account registry) specdrops_alike

    all_specfails_alike : specfails_in other registry (set_up other registry life) ≡ specfails_in account registry now
    all_specfails_alike = of_set_up (specfails_in other registry) (specfails_in account registry) specfails_alike

    enabled_too : (late : Bool) (clauses : List ClauseForm) (s : SetUp) (verdict : Option Refusal)
        → MatchOption (cond late (Some refusal.Busy) None) ((v : EnableVerdict)
        × IsVerdict other registry (shapes_in s) (next_epid other registry s) clauses v × (verdict ≡ refusal_of v))
        (λ why. verdict ≡ Some why)
        → MatchOption (cond late (Some refusal.Busy) None) ((v : EnableVerdict)
        × IsVerdict account registry (shapes_in s) (next_epid account registry s) clauses v × (verdict ≡ refusal_of v))
        (λ why. verdict ≡ Some why)
    enabled_too true clauses s verdict h = h
    enabled_too false clauses s verdict h = (
      h.0,
      verdict_renamed account name registry (shapes_in s) (next_epid account registry s) clauses h.0
          (subst (λ epid. IsVerdict other registry (shapes_in s) epid clauses h.0) (epid_alike s) h.1),
      h.2,
    )

    verdict_too : (ask : Ask) (verdict : Option Refusal) → IsVerdictOnCommand other registry life ask verdict
        → IsVerdictOnCommand account registry life ask verdict
    verdict_too (option setting) verdict h =
        subst (λ s. verdict ≡ cond (not (is_inactive (phase_of s))) (Some refusal.Busy)
        (cond (is_none setting) (Some refusal.Option) None)) (set_up_alike life) h
    verdict_too (enable (program clauses)) verdict h =
        enabled_too (not (is_inactive (phase_of now))) clauses now verdict
        (subst (λ s. MatchOption (cond (not (is_inactive (phase_of s))) (Some refusal.Busy) None) ((v : EnableVerdict)
        × IsVerdict other registry (shapes_in s) (next_epid other registry s) clauses v × (verdict ≡ refusal_of v))
        (λ why. verdict ≡ Some why)) (set_up_alike life) h)
    verdict_too (enable (fault at why)) verdict h =
        subst (λ s. verdict ≡ cond (not (is_inactive (phase_of s))) (Some refusal.Busy) (Some (refusal.Program at why)))
        (set_up_alike life) h
    verdict_too (enable (destructive at what)) verdict h =
        subst (λ s. verdict ≡ cond (not (is_inactive (phase_of s))) (Some refusal.Busy) (Some (refusal.Destructive at what)))
        (set_up_alike life) h
    verdict_too go verdict h = h ∙ of_set_up
        (λ s. cond (not (is_inactive (phase_of s))) (Some refusal.Busy)
        (cond (not (has_room other registry s)) (Some refusal.Limit) None))
        (λ s. cond (not (is_inactive (phase_of s))) (Some refusal.Busy)
        (cond (not (has_room account registry s)) (Some refusal.Limit) None))
        (λ s. ap (λ room. cond (not (is_inactive (phase_of s))) (Some refusal.Busy) (cond (not room) (Some refusal.Limit) None))
        (room_alike s))
    verdict_too stop verdict h =
        h ∙ ap (λ s. cond (not (is_active (phase_of s))) (Some refusal.Busy) None) (set_up_alike life)
    verdict_too (snap cpu) verdict h =
        h ∙ ap (λ s. cond (nat_le registry.cpus cpu) (Some refusal.NoCpu)
        (cond (not (is_readable s (phase_of s))) (Some refusal.Busy) None)) (set_up_alike life)
    verdict_too (agg word) verdict h =
        h ∙ ap (λ s. cond (is_none (aggregation_of (shapes_in s) word)) (Some refusal.NoAgg) None) (set_up_alike life)
    verdict_too (trunc word) verdict h =
        h ∙ ap (λ s. cond (is_none (aggregation_of (shapes_in s) word)) (Some refusal.NoAgg) None) (set_up_alike life)
    verdict_too status verdict h = h
    verdict_too (list (Err wrong)) verdict h = h
    verdict_too (list (Ok desc)) verdict h = h
    verdict_too (describe epid) verdict h =
        h ∙ ap (λ (found : Option (AProbe × EcbForm)). cond (is_none found) (Some refusal.NoEpid) None) (found_alike epid)
    verdict_too close verdict h = h

    abbrev told : List ℕ → List ℕ → List ℕ → List ℕ → ℕ → Answer
    told = status_answer (phase_of now) (seen_count now.since)

    accepted_too : (ask : Ask) (answer : Answer) → Accepted other registry life ask answer
        → Accepted account registry life ask answer
    accepted_too (option setting) answer h = h
    accepted_too (enable (program clauses)) answer h = h ∙ of_set_up
        (λ s. enabled (length (added other registry (next_epid other registry s) clauses)) (next_epid other registry s))
        (λ s. enabled (length (added account registry (next_epid account registry s) clauses)) (next_epid account registry s))
        (λ s. ap (λ epid. enabled (length (added other registry epid clauses)) epid) (epid_alike s)
        ∙ ap (λ (adding : ℕ → List ClauseForm → List EcbForm). enabled
        (length (adding (next_epid account registry s) clauses)) (next_epid account registry s))
        (added_alike account name registry))
    accepted_too (enable (fault at why)) answer h = h
    accepted_too (enable (destructive at what)) answer h = h
    accepted_too go answer h = h
    accepted_too stop answer h = h
    accepted_too (snap cpu) answer h = (
      h.0,
      h.1,
      h.2,
      subst (λ events. Shows events h.0 h.1 h.2)
          (of_set_up (λ s. past_in other registry s cpu) (λ s. past_in account registry s cpu) (λ s. past_alike s cpu)) h.3,
      h.4,
    )
    accepted_too (agg word) answer h =
        subst (λ (stores : List store.Past). MatchOption (aggregation_of (shapes_in now) word) ⊥
        (λ a. answer ≡ aggregated word a.function (table_of stores a))) (stores_alike now)
        (subst (λ s. MatchOption (aggregation_of (shapes_in s) word) ⊥
        (λ a. answer ≡ aggregated word a.function (table_of (stores_in other registry s) a))) (set_up_alike life) h)
    accepted_too (trunc word) answer h = h
    accepted_too status answer h =
        h ∙ ap (λ s. status_answer (phase_of s) (seen_count s.since) (all_errors other registry life)
        (all_aggdrops other registry life) (all_dyndrops other registry life) (all_specdrops other registry life)
        (specfails_in other registry (set_up other registry life))) (set_up_alike life)
        ∙ ap (λ each. told each (all_aggdrops other registry life) (all_dyndrops other registry life)
        (all_specdrops other registry life) (specfails_in other registry (set_up other registry life))) all_errors_alike
        ∙ ap (λ each. told (all_errors account registry life) each (all_dyndrops other registry life)
        (all_specdrops other registry life) (specfails_in other registry (set_up other registry life))) all_aggdrops_alike
        ∙ ap (λ each. told (all_errors account registry life) (all_aggdrops account registry life) each
        (all_specdrops other registry life) (specfails_in other registry (set_up other registry life))) all_dyndrops_alike
        ∙ ap (λ each. told (all_errors account registry life) (all_aggdrops account registry life)
        (all_dyndrops account registry life) each (specfails_in other registry (set_up other registry life)))
        all_specdrops_alike
        ∙ ap (told (all_errors account registry life) (all_aggdrops account registry life)
        (all_dyndrops account registry life) (all_specdrops account registry life)) all_specfails_alike
    accepted_too (list (Err wrong)) answer h = h
    accepted_too (list (Ok desc)) answer h =
        h ∙ ap (λ listing. listed_answer (listing desc)) (listed_alike account name registry)
    accepted_too (describe epid) answer h =
        subst (λ found. MatchOption found ⊥
        (λ (it : AProbe × EcbForm). answer ≡ described epid it.0 (layout_of it.1.clause))) (found_alike epid) h
    accepted_too close answer h = h

    replied_too : (ask : Ask) (verdict : Option Refusal) (answer : Answer)
        → MatchOption verdict (Accepted other registry life ask answer) (λ why. answer ≡ refused why)
        → MatchOption verdict (Accepted account registry life ask answer) (λ why. answer ≡ refused why)
    replied_too ask None answer h = accepted_too ask answer h
    replied_too ask (Some why) answer h = h

    in_quota_too : (line : Result Ask Refusal) (answer : Answer) → RepliesInQuota other registry life line answer
        → RepliesInQuota account registry life line answer
    in_quota_too (Err why) answer h = h
    in_quota_too (Ok ask) answer h = (h.0, verdict_too ask h.0 h.1, replied_too ask h.0 answer h.2)

    over_too : (over : Bool) (line : Result Ask Refusal) (answer : Answer)
        → MatchBool over (answer ≡ refused refusal.Quota) (RepliesInQuota other registry life line answer)
        → MatchBool over (answer ≡ refused refusal.Quota) (RepliesInQuota account registry life line answer)
    over_too true line answer h = h
    over_too false line answer h = in_quota_too line answer h

    -- What the account is answered under another name, it is answered under its own.
    pub reply_renamed : (line : Result Ask Refusal) (answer : Answer) → Replies other registry life line answer
        → Replies account registry life line answer
    reply_renamed line answer h = over_too (is_over life) line answer h
