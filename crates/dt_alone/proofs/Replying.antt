-- A runner after a command.
use Rattle.std.proofs.Common.{◌≡◌, ℕ, ◌+◌, ◌-◌, ◌<◌, ◌==◌, ◌&&◌, ◌||◌, Bool, true, false, not, cond, List, [], ◌∷◌, ◌++◌}
use Rattle.std.proofs.Common.{length, map, Option, Some, None, Result, Ok, Err, refl, sym, ap, ◌∙◌, subst, ⊎_elim, arith}
use Rattle.std.specs.List.{All}
use Rattle.std.specs.Option.{IfSome, MatchOption, is_none, is_some, option_and_then, option_map}
use Rattle.std.proofs.lemmas.Bool.{cases_Bool, ne_eqb}
use Rattle.std.proofs.lemmas.List.{length-map, map-append}
use Rattle.dt_cred.specs.declared.account.Account.{Account}
use Rattle.dt_machine.specs.Registry.{Registry}
use Rattle.dt_lang.specs.Program.{ClauseForm, form_of_clause}
use Rattle.dt_lang.specs.Reads.{Reading, Reads, IsRefusedProgram, program, fault, destructive}
use Rattle.dt_lang.specs.declared.fault.LangFault.{LangFault}
use Rattle.dt_lang.specs.declared.fault.LangFault.TheVariants as faults
use Rattle.dt_lang.specs.declared.fault.Flaw.{Flaw}
use Rattle.dt_lang.specs.Fault.{why_of}
use Rattle.dt_lang.specs.Refused.{because, destroys}
use Rattle.dt_lang.specs.declared.word.Destructive.{Destructive}
use Rattle.dt_program.specs.declared.clause.Clause.{Clause}
use Rattle.dt_ecb.specs.Ecbs.{added, ecbs_of}
use Rattle.dt_ecb.specs.Enable.{EnableVerdict, IsVerdict, is_enabled}
use Rattle.dt_ecb.specs.Enable as enabling
use Rattle.dt_ecb.specs.Forms.{form_of_ecb, shapes_of}
use Rattle.dt_ecb.specs.Shapes.{ShapeForm, uses_of}
use Rattle.dt_ecb.specs.declared.parts.Ecb.{Ecb}
use Rattle.dt_life.specs.Forms.{form_of_options}
use Rattle.dt_alone.specs.Happened.{Brings, all_to, told_by}
use Rattle.dt_alone.specs.Runs.{Answers, Has, HasIn, HasAsked, Runs}
use Rattle.dt_aggstore.specs.declared.key.Aggregation.{Aggregation}
use Rattle.dt_buffer.specs.Shows.{Shows}
use Rattle.std.specs.Global.{Vec}
use Rattle.dt_alone.specs.declared.happened.Happened.{Happened}
use Rattle.dt_alone.specs.declared.happened.Happened.TheVariants.{Truncated}
use Rattle.dt_alone.specs.declared.happened.Happened.TheVariants as happened
use Rattle.dt_life.specs.declared.options.Options.{Options}
use Rattle.dt_alone.specs.declared.programs.Programs.{Programs}
use Rattle.dt_alone.specs.declared.runner.Runner.{Runner}
use Rattle.dt_life.specs.Acceptance.{after_line}
use Rattle.dt_life.specs.Answer.{answer_of, enabled}
use Rattle.dt_life.specs.Answer as answers
use Rattle.dt_life.specs.Ask.{Ask, close, enable, go, option, snap, stop, trunc, reading_of, is_read}
use Rattle.dt_life.specs.Buffers.{comes_by_steps, past, reserve_on}
use Rattle.dt_life.specs.Placed.{AreEcbs, placed_after}
use Rattle.dt_life.specs.Life.{Item, asked, SetUp, ecbs_in, end_size, happens, has_room, is_inactive, is_over, is_readable}
use Rattle.dt_life.specs.Life.{is_stopped, lines, next_epid, phase, phase_of, set_up, shapes_in, since_then, tracing_steps, with_event}
use Rattle.dt_life.specs.Life.{with_options, with_program}
use Rattle.dt_life.specs.Options.{OptionsForm, Setting, is_fill, with_setting}
use Rattle.dt_life.specs.Refusal.{refused_as}
use Rattle.dt_life.specs.Reply.{Accepted, Replies, known, IsVerdictOnCommand, refusal_of}
use Rattle.dt_life.specs.Takings.{began, ended, snapped, truncated, closed}
use Rattle.dt_life.specs.TracingSteps.{steps_since}
use Rattle.dt_life.specs.declared.phase.End.{End}
use Rattle.dt_life.specs.declared.phase.End.TheVariants as ends
use Rattle.dt_life.specs.declared.phase.Phase.{Phase}
use Rattle.dt_life.specs.declared.phase.Phase.TheVariants.{Inactive, Active, Stopped}
use Rattle.dt_life.specs.declared.refusal.Refusal.{Refusal}
use Rattle.dt_life.specs.declared.refusal.Refusal.TheVariants as refusals
use Rattle.dt_life.specs.declared.refusal.Refusal.TheVariants.{Program}
use Rattle.dt_life.specs.declared.reply.Reply.{Reply}
use Rattle.dt_life.specs.declared.reply.Reply.TheVariants.{Done, Enabled, Refused, Snapped}
use Rattle.dt_life.specs.laws.Verdicts.{begun_by_go, destructive_refused, fault_refused, go_taken, snapped_by}
use Rattle.dt_life.specs.laws.Placed.{are_both}
use Rattle.dt_life.specs.laws.Verdicts.{snap_taken, some_trunc, stop_taken, stopped_by, truncated_by, idle_program}
use Rattle.dt_life.specs.laws.Verdicts.{idle_unset, option_refused, option_taken, program_added, program_verdict}
use Rattle.dt_life.specs.laws.Verdicts.{closed_by, in_quota, set_by}
use Rattle.dt_life.specs.laws.Lines.{after_counted}
use Rattle.dt_life.specs.laws.Placed.{are_placed}
use Rattle.dt_alone.proofs.Running.{Brought, KeptBy, brought_closed, brought_snapped, brought_truncated, has_since, kept_snapped}
use Rattle.dt_alone.proofs.Running.{kept_truncated, none_kept}

pub idle_phase : (phase : Phase) → is_inactive phase ≡ true → phase ≡ Inactive
idle_phase Inactive e = refl
idle_phase Active e = cc
idle_phase (Stopped end) e = cc

readable_begun : (s : SetUp) (p : Phase) → is_readable s p ≡ true → is_inactive p ≡ false
readable_begun s Inactive e = cc
readable_begun s Active e = refl
readable_begun s (Stopped cause) e = refl

-- whether there is room for END's records
pub no_room : (o : Option ℕ) (x b : Bool) (P : ℕ → Type 0) → MatchOption o (x ≡ false) (λ n. (x ≡ true) × P n)
    → is_some o ≡ not b → b ≡ true → x ≡ false
no_room None x b P m e f = m
no_room (Some n) x true P m e f = cc
no_room (Some n) x false P m e f = cc

pub some_room : (o : Option ℕ) (x b : Bool) (P : ℕ → Type 0) → MatchOption o (x ≡ false) (λ n. (x ≡ true) × P n)
    → is_some o ≡ not b → b ≡ false → x ≡ true
some_room None x true P m e f = cc
some_room None x false P m e f = cc
some_room (Some n) x b P m e f = m.0

-- The second runner has the account, the counts and the list of the first.
pub record Alike (old new : Runner) : Type 0 where
  pub account : new.account ≡ old.account
  pub seen : new.seen ≡ old.seen
  pub since : new.since ≡ old.since

-- the same set-up, with options, programs and a phase that are given
pub has_alike : (account : Account) (registry : Registry) (s : SetUp) (p : Phase) (old new : Runner)
    → HasIn account registry s p old → Alike old new → new.options ≡ old.options → new.programs ≡ old.programs
    → (q : Phase) → new.phase ≡ q → (q ≡ Inactive → p ≡ Inactive) → HasIn account registry s q new
has_alike account registry s p old new h a options programs q standing idle = record {
  same_account = a.account ∙ h.same_account;
  options = ap form_of_options options ∙ h.options;
  clauses = ap (λ (x : Programs). map form_of_clause x.clauses.items) programs ∙ h.clauses;
  ecbs = subst (λ (x : Programs). AreEcbs s.clauses (ecbs_in account registry s) x.ecbs.items) (sym programs) h.ecbs;
  shapes = ap (λ (x : Programs). shapes_of x.shapes) programs ∙ h.shapes;
  standing = standing;
  idle = λ e. h.idle (idle e);
  seen = a.seen ∙ h.seen;
  brings = subst (λ (v : Vec Happened). Brought account registry s v.items) (sym a.since) h.brings;
}

-- a runner that keeps what another does
pub has_same : (account : Account) (registry : Registry) (s : SetUp) (old new : Runner) → Has account registry s old
    → Alike old new → new.options ≡ old.options → new.programs ≡ old.programs → new.phase ≡ old.phase → new.kept ≡ old.kept
    → Has account registry s new
has_same account registry s old new h a options programs standing kept = record {
  within = has_alike account registry s (phase_of s) old new h.within a options programs (phase_of s)
      (standing ∙ h.within.standing) (λ e. e);
  kept = subst (KeptBy account registry s) (sym kept) h.kept;
}

-- a line that is no command is refused, and is part of the life
pub no_command : (account : Account) (registry : Registry) (life : List Item) (old new : Runner)
    (line : Result Ask Refusal) (why : Refusal) → Runs account registry old life → is_over life ≡ false → line ≡ Err why
    → Alike old new → new.options ≡ old.options → new.programs ≡ old.programs → new.phase ≡ old.phase
    → new.kept ≡ old.kept → new.lines ≡ old.lines + 1
    → Replies account registry life line (answers.refused why) × Runs account registry new (after_line life line)
no_command account registry life old new line why runs fresh is same options programs standing kept counts =
    let s = set_up account registry life in
    let has = has_same account registry s old new runs.has same options programs standing kept in
    let now : Runs account registry new (asked (Err why) ∷ life) =
    record { has = has; counted = omega (arith, counts, runs.counted) } in
    subst
    (λ l. Replies account registry life l (answers.refused why) × Runs account registry new (after_line life l))
    (sym is) (
      in_quota account registry life (Err why) (answers.refused why) fresh refl,
      subst (Runs account registry new) (sym (after_counted life (Err why) fresh)) now,
    )

-- a phase that isn't stopped
pub goes_still : (phase : Phase) → ((cause : Option End) → phase ≡ Stopped cause → ⊥) → is_stopped phase ≡ false
goes_still Inactive none = refl
goes_still Active none = refl
goes_still (Stopped cause) none = absurd (none cause refl)

module _ (account : Account) (registry : Registry) (life : List Item) (r : Runner)
    (k : HasAsked account registry r life) where
  abbrev now : SetUp
  now = set_up account registry life

  -- how far the life has come
  pub stands : r.phase ≡ phase account registry life
  stands = k.has.within.standing

  pub begun : is_inactive r.phase ≡ false → is_inactive (phase account registry life) ≡ false
  begun e = sym (ap is_inactive stands) ∙ e

  -- a command that is refused
  pub refuses : (ask : Ask) (refusal : Refusal) → IsVerdictOnCommand account registry life ask (Some refusal)
      → set_up account registry (asked (Ok ask) ∷ life) ≡ set_up account registry life
      → Answers account registry life ask (Refused refusal) r
  refuses ask refusal verdict idle = (
    (Some refusal, verdict, refl),
    record { has = subst (λ s. Has account registry s r) (sym idle) k.has; counted = k.counted },
  )

  -- one that is accepted
  pub accepts_as : (ask : Ask) (reply : Reply) (new : Runner) (s : SetUp)
      → IsVerdictOnCommand account registry life ask None → Accepted account registry life ask (answer_of reply)
      → set_up account registry (asked (Ok ask) ∷ life) ≡ s → Has account registry s new → new.lines ≡ r.lines
      → Answers account registry life ask reply new
  accepts_as ask reply new s verdict accepted is has same = (
    (None, verdict, accepted),
    record { has = subst (λ x. Has account registry x new) (sym is) has; counted = same ∙ k.counted },
  )

  -- it was asked in time
  pub early : is_inactive r.phase ≡ true → phase account registry life ≡ Inactive
  early e = idle_phase (phase account registry life) (sym (ap is_inactive stands) ∙ e)

  -- nothing was taken before tracing begins, whatever is set and enabled
  brings_still : (t : SetUp) → t.since ≡ [] → phase account registry life ≡ Inactive
      → Brings registry.cpus (shapes_in t) t.options r.since.items (tracing_steps account registry t)
  brings_still t none off = λ cpu inside.
      k.has.within.brings cpu inside
      ∙ ap (λ events. told_by (shapes_in now) now.options
      (steps_since account registry now.options (ecbs_in account registry now) events) cpu) (k.has.within.idle off)
      ∙ sym (ap (λ events. told_by (shapes_in t) t.options
      (steps_since account registry t.options (ecbs_in account registry t) events) cpu) none)

  -- other options
  pub has_options : (options : Options) (new : Runner) → Alike r new → new.options ≡ options
      → new.programs ≡ r.programs → new.phase ≡ r.phase → new.kept ≡ r.kept → phase account registry life ≡ Inactive
      → Has account registry (with_options (set_up account registry life) (form_of_options options)) new
  has_options options new a set programs same kept off = record {
    within = record {
      same_account = a.account ∙ k.has.within.same_account;
      options = ap form_of_options set;
      clauses = ap (λ (x : Programs). map form_of_clause x.clauses.items) programs ∙ k.has.within.clauses;
      ecbs = subst (λ (x : Programs). AreEcbs now.clauses (ecbs_in account registry now) x.ecbs.items) (sym programs)
          k.has.within.ecbs;
      shapes = ap (λ (x : Programs). shapes_of x.shapes) programs ∙ k.has.within.shapes;
      standing = same ∙ k.has.within.standing;
      idle = k.has.within.idle;
      seen = a.seen ∙ k.has.within.seen;
      brings = subst (λ (v : Vec Happened). Brings registry.cpus (shapes_in now) (form_of_options options) v.items
          (tracing_steps account registry (with_options now (form_of_options options)))) (sym a.since)
          (brings_still (with_options now (form_of_options options)) (k.has.within.idle off) off);
    };
    kept = subst (KeptBy account registry (with_options now (form_of_options options))) (sym kept)
        (none_kept account registry now (with_options now (form_of_options options)) r.kept off off k.has.kept);
  }

  -- an option that is set, or is none
  pub option_set : (o : Option Setting) (options : Options) (new : Runner) → phase account registry life ≡ Inactive
      → Some (form_of_options options) ≡ option_map (with_setting (form_of_options r.options)) o
      → Alike r new → new.options ≡ options → new.programs ≡ r.programs → new.phase ≡ r.phase → new.kept ≡ r.kept
      → new.lines ≡ r.lines → Answers account registry life (option o) Done new
  option_set None options new off e a is programs same kept lines = cc
  option_set (Some one) options new off e a is programs same kept lines =
      let set : form_of_options options ≡ with_setting (form_of_options r.options) one = cc in
      accepts_as (option (Some one)) Done new _ (option_taken account registry life one off) refl
      (set_by account registry life one off
      ∙ ap (λ (o : OptionsForm). with_options now (with_setting o one)) (sym k.has.within.options)
      ∙ ap (with_options now) (sym set))
      (has_options options new a is programs same kept off) lines

  pub option_unset : (o : Option Setting) → phase account registry life ≡ Inactive
      → None ≡ option_map (with_setting (form_of_options r.options)) o
      → Answers account registry life (option o) (Refused refusals.Option) r
  option_unset (Some one) off e = cc
  option_unset None off e =
      refuses (option None) refusals.Option (option_refused account registry life None refl off)
      (idle_unset account registry life None refl)

  -- tracing began
  pub go_done : (new : Runner) → phase account registry life ≡ Inactive
      → has_room account registry (set_up account registry life) ≡ true
      → Has account registry (happens account registry (set_up account registry life) began) new
      → new.lines ≡ r.lines → Answers account registry life go Done new
  go_done new off room has same =
      accepts_as go Done new (happens account registry (since_then now []) began)
      (go_taken account registry life off room)
      refl (begun_by_go account registry life off room)
      (subst (λ (s : SetUp). Has account registry (happens account registry s began) new)
      (ap (since_then now) (k.has.within.idle off)) has)
      same

  -- it ended
  pub stop_done : (new : Runner) → phase account registry life ≡ Active
      → Has account registry (with_event (set_up account registry life) (ended ends.Stop)) new
      → new.lines ≡ r.lines → Answers account registry life stop Done new
  stop_done new on has same =
      accepts_as stop Done new _ (stop_taken account registry life on) refl
      (stopped_by account registry life on) has same

  -- the room for ordinary records
  room_by : (b : Bool) (cpu : ℕ) → (cpu == 0) ≡ b
      → reserve_on account registry (set_up account registry life) cpu
      ≡ cond (is_fill now.options.bufpolicy && b) (end_size account registry now) 0
  room_by b cpu e =
      ap (λ x. cond (is_fill now.options.bufpolicy && x) (end_size account registry now) 0) e

  own_size : r.options.bufsize ≡ now.options.bufsize
  own_size = ap (λ (o : OptionsForm). o.bufsize) k.has.within.options

  pub room_on : (cpu room : ℕ) → cpu ≡ 0
      → room ≡ (set_up account registry life).options.bufsize - reserve_on account registry
      (set_up account registry life) 0
      → room ≡ r.options.bufsize - reserve_on account registry (set_up account registry life) cpu
  room_on cpu room e is =
      is ∙ ap (λ n. n - reserve_on account registry now 0) (sym own_size)
      ∙ ap (λ n. r.options.bufsize - reserve_on account registry now n) (sym e)

  pub room_other : (cpu room : ℕ) → (cpu ≡ 0 → ⊥) → room ≡ r.options.bufsize
      → room ≡ r.options.bufsize - reserve_on account registry (set_up account registry life) cpu
  room_other cpu room ne is =
      is ∙ omega (arith, room_by false cpu (ne_eqb cpu 0 ne), neither (is_fill now.options.bufpolicy))
    where
      neither : (b : Bool) → cond (b && false) (end_size account registry now) 0 ≡ 0
      neither true = refl
      neither false = refl

  -- what is shown of all that happened is shown of the past
  pub shows_past : (cpu : ℕ) (bytes : List ℕ) (drops : ℕ) (filled : Bool) (hs : List Happened) → cpu < registry.cpus
      → hs ≡ r.since.items → Shows (record {
        policy = r.options.bufpolicy;
        size = r.options.bufsize;
        reserve = reserve_on account registry (set_up account registry life) cpu;
        events = all_to cpu hs;
      }) bytes drops filled → Shows (past account registry life cpu) bytes drops filled
  shows_past cpu bytes drops filled hs inside same h =
      subst (λ (o : OptionsForm). Shows (record {
        policy = o.bufpolicy;
        size = o.bufsize;
        reserve = reserve_on account registry (set_up account registry life) cpu;
        events = comes_by_steps cpu (tracing_steps account registry now);
      }) bytes drops filled) k.has.within.options
      (subst (λ es. Shows (record {
        policy = r.options.bufpolicy;
        size = r.options.bufsize;
        reserve = reserve_on account registry (set_up account registry life) cpu;
        events = es;
      }) bytes drops filled) (ap (all_to cpu) same ∙ ap (λ t. t.came) (k.has.within.brings cpu inside)) h)

  -- a buffer was read
  pub snap_done : (cpu drops : ℕ) (filled : Bool) (bytes : Vec ℕ) (new : Runner) → cpu < registry.cpus
      → is_readable (set_up account registry life) (phase account registry life) ≡ true
      → Shows (past account registry life cpu) bytes.items drops filled
      → new.account ≡ r.account → new.options ≡ r.options → new.programs ≡ r.programs → new.phase ≡ r.phase
      → new.seen ≡ r.seen → new.since.items ≡ r.since.items ++ happened.Snapped cpu ∷ [] → new.kept ≡ r.kept → new.lines ≡ r.lines
      → Answers account registry life (snap cpu) (Snapped cpu bytes drops filled) new
  snap_done cpu drops filled bytes new inside on shows same_account same_options same_programs same_phase same_seen
      grown kept same =
      accepts_as (snap cpu) (Snapped cpu bytes drops filled) new _ (snap_taken account registry life cpu inside on)
      (bytes.items, drops, filled, shows, refl) (snapped_by account registry life cpu inside on)
      (record {
        within = has_since account registry now (snapped cpu ∷ now.since) (phase_of now) (phase_of now) r new k.has.within
            same_account same_options same_programs (same_phase ∙ stands) (readable_begun now (phase account registry life) on)
            (same_seen ∙ k.has.within.seen)
            (subst (λ hs. Brought account registry (with_event now (snapped cpu)) hs) (sym grown)
            (brought_snapped account registry now cpu r.since.items k.has.within.brings));
        kept = subst (KeptBy account registry (with_event now (snapped cpu))) (sym kept)
            (kept_snapped account registry now cpu r.kept k.has.kept);
      })
      same

  -- an aggregation was truncated
  pub trunc_done : (name : List ℕ) (a : Aggregation) (new : Runner)
      → is_inactive (phase account registry life) ≡ false → known account registry life name ≡ Some a
      → new.account ≡ r.account → new.options ≡ r.options → new.programs ≡ r.programs → new.phase ≡ r.phase
      → new.seen ≡ r.seen → new.since.items ≡ r.since.items ++ Truncated a ∷ [] → new.kept ≡ r.kept → new.lines ≡ r.lines
      → Answers account registry life (trunc name) Done new
  trunc_done name a new on is same_account same_options same_programs same_phase same_seen grown kept same =
      accepts_as (trunc name) Done new _ (some_trunc account registry life name a is) refl
      (truncated_by account registry life name a on is)
      (record {
        within = has_since account registry now (truncated name ∷ now.since) (phase_of now)
            (phase_of now) r new k.has.within same_account
            same_options same_programs (same_phase ∙ stands) on (same_seen ∙ k.has.within.seen)
            (subst (λ hs. Brought account registry (with_event now (truncated name)) hs) (sym grown)
            (brought_truncated account registry now name a r.since.items is k.has.within.brings));
        kept = subst (KeptBy account registry (with_event now (truncated name))) (sym kept)
            (kept_truncated account registry now name r.kept k.has.kept);
      })
      same

  -- before tracing begins nothing is truncated
  pub trunc_idle : (name : List ℕ) (a : Aggregation) → is_inactive (phase account registry life) ≡ true
      → known account registry life name ≡ Some a → Answers account registry life (trunc name) Done r
  trunc_idle name a off is =
      accepts_as (trunc name) Done r now (some_trunc account registry life name a is) refl
      (ap (λ b. cond (b || is_none (known account registry life name)) now (with_event now (truncated name))) off)
      k.has refl

  -- the session was closed while tracing went on, or before it began
  pub close_done : (new : Runner) → is_stopped r.phase ≡ false → new.account ≡ r.account → new.options ≡ r.options
      → new.programs ≡ r.programs → new.phase ≡ Stopped None → new.seen ≡ r.seen → new.since ≡ r.since
      → new.kept ≡ None → new.lines ≡ r.lines → Answers account registry life close Done new
  close_done new going same_account same_options same_programs same_phase same_seen same_since kept same =
      accepts_as close Done new (with_event now closed) refl refl
      (closed_by account registry life false (sym (ap is_stopped stands) ∙ going))
      (record {
        within = has_since account registry now (closed ∷ now.since) (phase_of now) (Stopped None) r new k.has.within
            same_account same_options same_programs same_phase refl (same_seen ∙ k.has.within.seen)
            (subst (λ (v : Vec Happened). Brought account registry (with_event now closed) v.items) (sym same_since)
            (brought_closed account registry now r.since.items k.has.within.brings));
        kept = subst (KeptBy account registry (with_event now closed)) (sym kept) (λ e. cc);
      })
      same

  -- or after it had stopped
  pub close_idle : is_stopped r.phase ≡ true → Answers account registry life close Done r
  close_idle stopped =
      accepts_as close Done r now refl refl
      (closed_by account registry life true (sym (ap is_stopped stands) ∙ stopped)) k.has refl

  -- an accepted program
  module _ (clauses : List Clause) (ecbs : List Ecb) (off : phase account registry life ≡ Inactive) where
    abbrev forms : List ClauseForm
    forms = map form_of_clause clauses

    pub has_program : ((before more : List ClauseForm) → ecbs_of account registry (before ++ more)
        ≡ ecbs_of account registry before
        ++ added account registry (length (ecbs_of account registry before) + 1) more)
        → ((a b : List ClauseForm) → uses_of (a ++ b) ≡ uses_of a ++ uses_of b) → (programs : Programs)
        → (new : Runner) → map (form_of_ecb forms) ecbs ≡ added account registry (next_epid account registry now) forms
        → All (λ ecb. ecb.clause < length clauses) ecbs
        → programs.clauses.items ≡ r.programs.clauses.items ++ clauses
        → programs.ecbs.items ≡ r.programs.ecbs.items ++ map (placed_after (length r.programs.clauses.items)) ecbs
        → shapes_of programs.shapes ≡ shapes_of r.programs.shapes ++ uses_of forms
        → Alike r new → new.options ≡ r.options → new.programs ≡ programs → new.phase ≡ r.phase → new.kept ≡ r.kept
        → Has account registry (with_program (set_up account registry life) (map form_of_clause clauses)) new
    has_program go_on uses_both programs new are placed grown grown_ecbs shaped a same_options own same_phase same_kept =
        let s = set_up account registry life in
        let long : length clauses ≡ length forms = sym (length-map clauses form_of_clause) in
        let here : AreEcbs forms (added account registry (next_epid account registry now) forms) ecbs =
        record { forms = are; placed = subst (λ n. All (λ ecb. ecb.clause < n) ecbs) long placed } in
        let after : AreEcbs (now.clauses ++ forms) (added account registry (next_epid account registry now) forms)
        (map (placed_after (length r.programs.clauses.items)) ecbs) =
        are_placed now.clauses forms _ (length r.programs.clauses.items) ecbs _
        (sym (length-map r.programs.clauses.items form_of_clause) ∙ ap length k.has.within.clauses) here refl in
        let both = are_both now.clauses forms _ _ r.programs.ecbs.items _ k.has.within.ecbs after in
        record {
          within = record {
            same_account = a.account ∙ k.has.within.same_account;
            options = ap form_of_options same_options ∙ k.has.within.options;
            clauses =
                ap (λ (x : Programs). map form_of_clause x.clauses.items) own
                ∙ ap (map form_of_clause) grown ∙ map-append form_of_clause r.programs.clauses.items clauses
                ∙ ap (λ cs. cs ++ forms) k.has.within.clauses;
            ecbs =
                subst (λ (x : Programs). AreEcbs (now.clauses ++ forms)
                (ecbs_in account registry (with_program now forms)) x.ecbs.items) (sym own)
                (subst (λ es. AreEcbs (now.clauses ++ forms) es programs.ecbs.items) (sym (go_on now.clauses forms))
                (subst (λ xs. AreEcbs (now.clauses ++ forms)
                (ecbs_of account registry now.clauses
                ++ added account registry (length (ecbs_of account registry now.clauses) + 1) forms) xs)
                (sym grown_ecbs) both));
            shapes =
                ap (λ (x : Programs). shapes_of x.shapes) own ∙ shaped
                ∙ ap (λ shapes. shapes ++ uses_of forms) k.has.within.shapes ∙ sym (uses_both now.clauses forms);
            standing = same_phase ∙ k.has.within.standing;
            idle = k.has.within.idle;
            seen = a.seen ∙ k.has.within.seen;
            brings = subst (λ (v : Vec Happened). Brings registry.cpus (shapes_in (with_program now forms)) now.options v.items
                (tracing_steps account registry (with_program now forms))) (sym a.since)
                (brings_still (with_program now forms) (k.has.within.idle off) off);
          };
          kept = subst (KeptBy account registry (with_program now forms)) (sym same_kept)
              (none_kept account registry now (with_program now forms) r.kept off off k.has.kept);
        }

    -- how many ECBs a program added
    pub count_is : (n : ℕ) → n ≡ length ecbs
        → map (form_of_ecb forms) ecbs ≡ added account registry (next_epid account registry now) forms
        → n ≡ length (added account registry (next_epid account registry now) forms)
    count_is n e are = e ∙ sym (length-map ecbs (form_of_ecb forms)) ∙ ap length are

  pub next_is : (first : ℕ) → first ≡ length r.programs.ecbs.items + 1
      → first ≡ next_epid account registry (set_up account registry life)
  next_is first e = omega (
    arith,
    e,
    length-map r.programs.ecbs.items (form_of_ecb (set_up account registry life).clauses),
    ap length k.has.within.ecbs.forms,
  )

  -- what is said of a program by the runner's parts is said by its set-up
  pub program_asked : (clauses : List ClauseForm) (first : ℕ) (o : Option EnableVerdict)
      → first ≡ next_epid account registry (set_up account registry life)
      → IfSome o (IsVerdict r.account registry (shapes_of r.programs.shapes) first clauses)
      → IfSome o (IsVerdict account registry (shapes_in (set_up account registry life))
      (next_epid account registry (set_up account registry life)) clauses)
  program_asked clauses first o e is =
      subst
      (λ n. IfSome o (IsVerdict account registry (shapes_in (set_up account registry life)) n clauses)) e
      (subst (λ shapes. IfSome o (IsVerdict account registry shapes first clauses)) k.has.within.shapes
      (subst (λ a. IfSome o (IsVerdict a registry (shapes_of r.programs.shapes) first clauses)) k.has.within.same_account is))

  pub enabled_asked : (clauses : List ClauseForm) (first : ℕ) (ecbs : List Ecb)
      → first ≡ next_epid account registry (set_up account registry life)
      → IsVerdict r.account registry (shapes_of r.programs.shapes) first clauses enabling.enabled
      × (map (form_of_ecb clauses) ecbs ≡ added r.account registry first clauses)
      → IsVerdict account registry (shapes_in (set_up account registry life))
      (next_epid account registry (set_up account registry life)) clauses enabling.enabled
      × (map (form_of_ecb clauses) ecbs
      ≡ added account registry (next_epid account registry (set_up account registry life)) clauses)
  enabled_asked clauses first ecbs e is =
      subst
      (λ n. IsVerdict account registry (shapes_in (set_up account registry life)) n clauses enabling.enabled
      × (map (form_of_ecb clauses) ecbs ≡ added account registry n clauses)) e
      (subst
      (λ shapes. IsVerdict account registry shapes first clauses enabling.enabled
      × (map (form_of_ecb clauses) ecbs ≡ added account registry first clauses)) k.has.within.shapes
      (subst
      (λ a. IsVerdict a registry (shapes_of r.programs.shapes) first clauses enabling.enabled
      × (map (form_of_ecb clauses) ecbs ≡ added a registry first clauses)) k.has.within.same_account is))

  -- a program that is accepted
  pub program_done : ((before more : List ClauseForm) → ecbs_of account registry (before ++ more)
      ≡ ecbs_of account registry before
      ++ added account registry (length (ecbs_of account registry before) + 1) more)
      → ((a b : List ClauseForm) → uses_of (a ++ b) ≡ uses_of a ++ uses_of b)
      → (clauses : List Clause) (ecbs : List Ecb) (programs : Programs) (new : Runner) (count first : ℕ)
      → phase account registry life ≡ Inactive
      → first ≡ next_epid account registry (set_up account registry life)
      → IsVerdict r.account registry (shapes_of r.programs.shapes) first (map form_of_clause clauses) enabling.enabled
      × (map (form_of_ecb (map form_of_clause clauses)) ecbs
      ≡ added r.account registry first (map form_of_clause clauses))
      → All (λ ecb. ecb.clause < length clauses) ecbs → count ≡ length ecbs
      → programs.clauses.items ≡ r.programs.clauses.items ++ clauses
      → programs.ecbs.items ≡ r.programs.ecbs.items ++ map (placed_after (length r.programs.clauses.items)) ecbs
      → shapes_of programs.shapes ≡ shapes_of r.programs.shapes ++ uses_of (map form_of_clause clauses)
      → Alike r new → new.options ≡ r.options → new.programs ≡ programs → new.phase ≡ r.phase → new.kept ≡ r.kept
      → new.lines ≡ r.lines
      → Answers account registry life (enable (program (map form_of_clause clauses))) (Enabled count first) new
  program_done go_on uses_both clauses ecbs programs new count first off e is placed counts grown grown_ecbs shaped
      a same_options own same_phase same_kept same =
      let forms = map form_of_clause clauses in
      let both = enabled_asked forms first ecbs e is in
      accepts_as (enable (program forms)) (Enabled count first) new
      (with_program (set_up account registry life) (map form_of_clause clauses))
      (program_verdict account registry life forms enabling.enabled off both.0)
      (ap (λ n. enabled n first) (count_is clauses ecbs off count counts both.1)
      ∙ ap (enabled (length (added account registry (next_epid account registry now) forms))) e)
      (program_added account registry life forms off both.0)
      (has_program clauses ecbs off go_on uses_both programs new both.1 placed grown grown_ecbs shaped a
      same_options own
      same_phase same_kept)
      same

  -- a program that is refused
  pub program_refused : ((account : Account) (registry : Registry) (accepted : List ShapeForm) (epid : ℕ)
      (clauses : List ClauseForm) (a b : EnableVerdict) → IsVerdict account registry accepted epid clauses a
      → IsVerdict account registry accepted epid clauses b → a ≡ b)
      → (clauses : List ClauseForm) (o : Option EnableVerdict) (refusal : Refusal)
      → phase account registry life ≡ Inactive
      → IfSome o (IsVerdict account registry (shapes_in (set_up account registry life))
      (next_epid account registry (set_up account registry life)) clauses)
      → Some refusal ≡ option_and_then refusal_of o
      → Answers account registry life (enable (program clauses)) (Refused refusal) r
  program_refused one clauses None refusal off is e = cc
  program_refused one clauses (Some v) refusal off is e =
      refuses (enable (program clauses)) refusal
      (subst (λ o. IsVerdictOnCommand account registry life (enable (program clauses)) o) (sym e)
      (program_verdict account registry life clauses v off is))
      (idle_program account registry life clauses
      (⊎_elim
      (λ holds. absurd (never v (one account registry (shapes_in now) (next_epid account registry now) clauses v
      enabling.enabled is holds) e))
      (λ fails. fails)
      (cases_Bool (is_enabled account registry (shapes_in now) (next_epid account registry now) clauses))))
    where
      never : (v : EnableVerdict) → v ≡ enabling.enabled → Some refusal ≡ refusal_of v → ⊥
      never v same x = let no : Some refusal ≡ None = x ∙ ap refusal_of same in cc

  -- a text that is no program
  pub text_refused : (text : List ℕ) (f : LangFault) (refusal : Refusal)
      → ((text : List ℕ) (a b : Reading) → Reads text a → Reads text b → a ≡ b)
      → ((at end : ℕ) (flaw : Flaw) → f ≡ faults.Program at end flaw
      → IsRefusedProgram text at end (because flaw))
      → ((at end : ℕ) (what : Destructive) → f ≡ faults.Destructive at end what
      → IsRefusedProgram text at end (destroys what))
      → Some refusal ≡ refused_as f → phase account registry life ≡ Inactive
      → Answers account registry life (enable (reading_of text)) (Refused refusal) r
  text_refused text (faults.Program at end flaw) refusal one reads found e off =
      let same : reading_of text ≡ fault at (why_of flaw) =
      one text (reading_of text) (fault at (why_of flaw)) (is_read text)
      (end, flaw, refl, reads at end flaw refl) in
      let its : Program at (why_of flaw) ≡ refusal = cc in
      subst (λ x. Answers account registry life (enable x) (Refused refusal) r) (sym same)
      (subst (λ x. Answers account registry life (enable (fault at (why_of flaw))) (Refused x) r) its
      (refuses (enable (fault at (why_of flaw))) (Program at (why_of flaw))
      (fault_refused account registry life at (why_of flaw) off) refl))
  text_refused text (faults.Destructive at end what) refusal one reads found e off =
      let same : reading_of text ≡ destructive at what =
      one text (reading_of text) (destructive at what) (is_read text) (end, found at end what refl) in
      let its : refusals.Destructive at what ≡ refusal = cc in
      subst (λ x. Answers account registry life (enable x) (Refused refusal) r) (sym same)
      (subst (λ x. Answers account registry life (enable (destructive at what)) (Refused x) r) its
      (refuses (enable (destructive at what)) (refusals.Destructive at what)
      (destructive_refused account registry life at what off) refl))
  text_refused text faults.Memory refusal one reads found e off = cc
