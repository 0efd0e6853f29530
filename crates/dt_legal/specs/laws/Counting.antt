-- How long a legal row can be: it has the lines, which are within the quota, and the firings, which are within the history.
use Rattle.std.proofs.Common.{◌≡◌, ◌+◌, ◌<◌, ◌≤◌, ℕ, Bool, true, false, cond, List, [], ◌∷◌, ◌&&◌, ◌||◌, Option, Some, None, Result, Ok, Err, is_none, length, map, refl, sym, ◌∙◌, arith}
use Rattle.std.proofs.lemmas.List.{length-map, length-reverse}
use Rattle.std.specs.Bool.{nat_lt}
use Rattle.std.specs.Option.{option_map_or}
use Rattle.dt_cred.specs.declared.account.Account.{Account}
use Rattle.dt_cred.specs.declared.firing.Firing.{Firing}
use Rattle.dt_lang.specs.Reads.{program, fault, destructive}
use Rattle.dt_machine.specs.Registry.{Contents, Registry}
use Rattle.dt_life.specs.Aggregations.{aggregation_of}
use Rattle.dt_life.specs.Ask.{Ask, option, enable, go, stop, snap, agg, trunc, status, list, describe, close}
use Rattle.dt_life.specs.Life.{Item, asked, fired as fired_item, SetUp, accepts, after_item, end_by, happens, has_room, is_active}
use Rattle.dt_life.specs.Life.{is_inactive, is_over, is_readable, is_stopped, lines, phase_after, phase_of, seen_count, set_up, shapes_in}
use Rattle.dt_life.specs.Life.{since_then, with_event, with_options, with_program}
use Rattle.dt_life.specs.Options.{with_setting}
use Rattle.dt_life.specs.Takings.{TracingEvent, began, seen, snapped, truncated, ended, closed}
use Rattle.dt_life.specs.declared.phase.End.{End}
use Rattle.dt_life.specs.declared.phase.End.TheVariants.{Stop}
use Rattle.std.proofs.lemmas.Bool.Decides.{nat_tests}
use Rattle.dt_life.specs.Limits.{lines_max}
use Rattle.dt_life.specs.declared.refusal.Refusal.{Refusal}
use Rattle.dt_life.specs.laws.Counted.{counted}
use Rattle.dt_life.specs.laws.Seeing.{active_to}
use Rattle.dt_proto.specs.Legal.{IsLegal, life_of_trail}
use Rattle.dt_proto.specs.Line.{ask_in}
use Rattle.dt_proto.specs.Lines.{line_form, long_line}
use Rattle.dt_proto.specs.Trail.{WrittenItem, line_asked, long_asked, fired_at}
use Rattle.dt_trail.specs.Items.{TrailItem}
use Rattle.dt_legal.specs.Rows.{told_as, past_of, life_of_row, set_up_of, IsLegalRow}

-- before tracing nothing is seen
pub quiet : (events : List TracingEvent) → is_inactive (phase_after events) ≡ true → seen_count events ≡ 0
quiet [] h = refl
quiet (began ∷ events) h = cc
quiet (seen firing ∷ events) h = cc
quiet (snapped cpu ∷ events) h = quiet events h
quiet (truncated name ∷ events) h = quiet events h
quiet (ended end ∷ events) h = cc
quiet (closed ∷ events) h = cc

-- how many firings were seen
abbrev pub seen_in : SetUp → ℕ
seen_in s = seen_count s.since

either : (s t : SetUp) (b : Bool) (n : ℕ) → (b ≡ true → seen_in t ≡ n) → seen_in s ≡ n → seen_in (cond b t s) ≡ n
either s t true n h k = h refl
either s t false n h k = k

either_not : (s t : SetUp) (b : Bool) (n : ℕ) → seen_in t ≡ n → seen_in s ≡ n → seen_in (cond b s t) ≡ n
either_not s t true n h k = k
either_not s t false n h k = h

pub and_first : (a b : Bool) → a && b ≡ true → a ≡ true
and_first true b h = refl
and_first false b h = cc

ending : (s : SetUp) (end : Option End) → seen_in (option_map_or (λ end. with_event s (ended end)) end s) ≡ seen_in s
ending s None = refl
ending s (Some end) = refl

module _ (account : Account) (registry : Registry) where
  happening : (s : SetUp) (event : TracingEvent) → seen_in (happens account registry s event) ≡ seen_count (event ∷ s.since)
  happening s event = ending (with_event s event) (end_by account registry s event)

  -- a line sees nothing
  line_sees_nothing : (s : SetUp) (said : Result Ask Refusal) → seen_in (after_item account registry s (asked said)) ≡ seen_in s
  line_sees_nothing s (Err why) = refl
  line_sees_nothing s (Ok (option None)) = refl
  line_sees_nothing s (Ok (option (Some setting))) =
      either s (with_options s (with_setting s.options setting)) (is_inactive (phase_of s)) (seen_in s) (λ _. refl) refl
  line_sees_nothing s (Ok (enable (program clauses))) =
      either s (with_program s clauses) (accepts account registry s clauses) (seen_in s) (λ _. refl) refl
  line_sees_nothing s (Ok (enable (fault at why))) = refl
  line_sees_nothing s (Ok (enable (destructive at what))) = refl
  line_sees_nothing s (Ok go) =
      either s (happens account registry (since_then s []) began)
      (is_inactive (phase_of s) && has_room account registry s) (seen_in s)
      (λ is. happening (since_then s []) began
      ∙ sym (quiet s.since (and_first (is_inactive (phase_of s)) (has_room account registry s) is))) refl
  line_sees_nothing s (Ok stop) =
      either s (with_event s (ended Stop)) (is_active (phase_of s)) (seen_in s) (λ _. refl) refl
  line_sees_nothing s (Ok (snap cpu)) =
      either s (with_event s (snapped cpu)) (nat_lt cpu registry.cpus && is_readable s (phase_of s)) (seen_in s) (λ _. refl) refl
  line_sees_nothing s (Ok (agg name)) = refl
  line_sees_nothing s (Ok (trunc name)) =
      either_not s (with_event s (truncated name))
      (is_inactive (phase_of s) || is_none (aggregation_of (shapes_in s) name)) (seen_in s) refl refl
  line_sees_nothing s (Ok status) = refl
  line_sees_nothing s (Ok (list desc)) = refl
  line_sees_nothing s (Ok (describe epid)) = refl
  line_sees_nothing s (Ok close) =
      either_not s (with_event s closed) (is_stopped (phase_of s)) (seen_in s) refl refl

  -- a firing of an active consumer is one more
  firing_counts : (s : SetUp) (firing : Firing) → is_active (phase_of s) ≡ true
      → seen_in (after_item account registry s (fired_item firing)) ≡ seen_in s + 1
  firing_counts s firing on =
      rw on (happening s (seen firing))

pub not_over : (life : List Item) → is_over life ≡ false → lines life < lines_max
not_over life h = grind (arith, nat_tests, h)

module _ (account : Account) (contents : Contents) where
  abbrev pub lived : List WrittenItem → List Item
  lived past = life_of_trail account contents past

  abbrev pub made : List WrittenItem → SetUp
  made past = set_up account contents.registry (lived past)

  -- each item is a line or a firing that was seen
  items : (past : List WrittenItem) → IsLegal account contents past → length past ≡ lines (lived past) + seen_in (made past)
  items [] h = omega arith
  items (line_asked line reply ∷ past) h =
      let before = items past h.0 in
      let same = line_sees_nothing account contents.registry (made past) (ask_in (line_form line)) in
      omega (arith, before, same)
  items (long_asked reply ∷ past) h =
      let before = items past h.0 in
      let same = line_sees_nothing account contents.registry (made past) (ask_in long_line) in
      omega (arith, before, same)
  items (fired_at cpu place ∷ past) h =
      let before = items past h.0 in
      let firing = h.1.1 in
      let more = firing_counts account contents.registry (made past) firing.0 (active_to _ firing.2.active) in
      rw firing.1 (omega (arith, before, more))

  few_lines : (past : List WrittenItem) → IsLegal account contents past → lines (lived past) ≤ lines_max
  few_lines [] h = omega arith
  few_lines (line_asked line reply ∷ past) h = let few = not_over (lived past) h.1 in omega (arith, few)
  few_lines (long_asked reply ∷ past) h = let few = not_over (lived past) h.1 in omega (arith, few)
  few_lines (fired_at cpu place ∷ past) h =
      let before = few_lines past h.0 in
      let firing = h.1.1 in
      rw firing.1 (omega (arith, before))

  pub length_past : (row : List TrailItem) → length (past_of row) ≡ length row
  length_past row = length-reverse (map told_as row) ∙ length-map row told_as

  -- A row has its lines and its seen firings; its lines are within the quota, its firings within the history, of which one more is
  -- left while tracing goes on.
  pub record IsCountedRow (row : List TrailItem) : Type 0 where
    pub all : length row ≡ lines (life_of_row account contents row) + seen_in (set_up_of account contents row)
    pub lines_few : lines (life_of_row account contents row) ≤ lines_max
    pub seen_few : seen_in (set_up_of account contents row) ≤ (set_up_of account contents row).options.histsize
    pub further : is_active (phase_of (set_up_of account contents row)) ≡ true
        → seen_in (set_up_of account contents row) < (set_up_of account contents row).options.histsize

  pub counted_row : (row : List TrailItem) → IsLegalRow account contents row → IsCountedRow row
  counted_row row h =
      let count = counted account contents.registry (life_of_row account contents row) in
      record {
        all = sym (length_past row) ∙ items (past_of row) h;
        lines_few = few_lines (past_of row) h;
        seen_few = count.bound;
        further = count.further;
      }
