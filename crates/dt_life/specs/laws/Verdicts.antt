-- What becomes of each command, and what a line leaves of the set-up, case by case.
use Rattle.std.proofs.Common.{◌≡◌, ℕ, ◌<◌, ◌≤◌, ◌&&◌, ◌||◌, not, Bool, true, false, cond, List, [], ◌∷◌, Option, Some}
use Rattle.std.proofs.Common.{None, Result, Ok, refl, sym, ap, ◌∙◌, subst}
use Rattle.dt_aggstore.specs.declared.key.Aggregation.{Aggregation}
use Rattle.std.specs.Bool.{MatchBool}
use Rattle.std.specs.Option.{MatchOption, is_none}
use Rattle.std.proofs.lemmas.Bool.{le-leb, lt-leb, lt-ltb}
use Rattle.dt_cred.specs.declared.account.Account.{Account}
use Rattle.dt_machine.specs.Registry.{Registry}
use Rattle.dt_lang.specs.Program.{ClauseForm}
use Rattle.dt_lang.specs.Reads.{Reading, program, fault, destructive}
use Rattle.dt_lang.specs.declared.fault.Why.{Why}
use Rattle.dt_lang.specs.declared.word.Destructive.{Destructive}
use Rattle.dt_ecb.specs.Enable.{EnableVerdict, IsVerdict, is_enabled}
use Rattle.dt_life.specs.Answer.{Answer, refused}
use Rattle.dt_life.specs.Ask.{Ask, option, enable, go, stop, snap, agg, trunc, close}
use Rattle.dt_life.specs.Life.{Item, asked, SetUp, is_active, is_over, is_inactive, is_stopped, is_readable, set_up}
use Rattle.dt_life.specs.Life.{phase, phase_of, next_epid, since_then, happens, has_room, with_program, with_options}
use Rattle.dt_life.specs.Life.{with_event, shapes_in}
use Rattle.dt_life.specs.Options.{Setting, with_setting}
use Rattle.dt_life.specs.Reply.{Replies, RepliesInQuota, IsVerdictOnCommand, Accepted, is_asked_late}
use Rattle.dt_life.specs.Reply.{refusal_of, known}
use Rattle.dt_life.specs.Takings.{began, ended, snapped, truncated, closed}
use Rattle.dt_life.specs.declared.phase.End.TheVariants as end
use Rattle.dt_life.specs.declared.phase.Phase.{Phase}
use Rattle.dt_life.specs.declared.phase.Phase.TheVariants.{Inactive, Active, Stopped}
use Rattle.dt_life.specs.declared.refusal.Refusal.{Refusal}
use Rattle.dt_life.specs.declared.refusal.Refusal.TheVariants as refusal
use Rattle.dt_life.specs.declared.refusal.Refusal.TheVariants.{Program, Busy, Limit, NoCpu, Quota, NoAgg}

module _ (account : Account) (registry : Registry) (life : List Item) where
  abbrev now : SetUp
  now = set_up account registry life

  -- after tracing began, and before
  pub late : is_inactive (phase account registry life) ≡ false → is_asked_late account registry life ≡ true
  late on = ap not on

  pub early : phase account registry life ≡ Inactive → is_asked_late account registry life ≡ false
  early off = ap (λ p. not (is_inactive p)) off

  pub idle_phase : is_asked_late account registry life ≡ false → phase account registry life ≡ Inactive
  idle_phase e = by_case (phase account registry life) e
    where
      by_case : (p : Phase) → not (is_inactive p) ≡ false → p ≡ Inactive
      by_case Inactive e = refl
      by_case Active e = cc
      by_case (Stopped cause) e = cc

  idle_is : phase account registry life ≡ Inactive → is_inactive (phase account registry life) ≡ true
  idle_is off = ap is_inactive off

  pub in_quota : (line : Result Ask Refusal) (answer : Answer) → is_over life ≡ false
      → RepliesInQuota account registry life line answer → Replies account registry life line answer
  in_quota line answer fresh replies =
      let P : Bool → Type 0 = λ b.
      MatchBool b (answer ≡ refused Quota) (RepliesInQuota account registry life line answer) in
      subst P (sym fresh) replies

  pub accepted_reply : (ask : Ask) (answer : Answer) → IsVerdictOnCommand account registry life ask None
      → Accepted account registry life ask answer → RepliesInQuota account registry life (Ok ask) answer
  accepted_reply ask answer verdict accepted = (None, verdict, accepted)

  -- a program, or a text that is none, after tracing began
  pub enable_busy : (reading : Reading) → is_inactive (phase account registry life) ≡ false
      → IsVerdictOnCommand account registry life (enable reading) (Some Busy)
  enable_busy (program clauses) on =
      let P : Bool → Type 0 = λ b. MatchOption (cond b (Some Busy) None)
      ((v : EnableVerdict) × IsVerdict account registry (shapes_in now) (next_epid account registry now) clauses v
      × (Some Busy ≡ refusal_of v)) (λ refusal. Some Busy ≡ Some refusal) in
      subst P (sym (late on)) refl
  enable_busy (fault at why) on = sym (ap (λ b. cond b (Some Busy) (Some (Program at why))) (late on))
  enable_busy (destructive at what) on =
      sym (ap (λ b. cond b (Some Busy) (Some (refusal.Destructive at what))) (late on))

  pub idle_late : (reading : Reading) → is_inactive (phase account registry life) ≡ false
      → set_up account registry (asked (Ok (enable reading)) ∷ life) ≡ now
  idle_late (program clauses) on =
      ap
      (λ b. cond (b && is_enabled account registry (shapes_in now) (next_epid account registry now) clauses)
      (with_program now clauses) now)
      on
  idle_late (fault at why) on = refl
  idle_late (destructive at what) on = refl

  -- a text that is no program, asked in time
  pub fault_refused : (at : ℕ) (why : Why) → phase account registry life ≡ Inactive
      → IsVerdictOnCommand account registry life (enable (fault at why)) (Some (Program at why))
  fault_refused at why off = sym (ap (λ b. cond b (Some Busy) (Some (Program at why))) (early off))

  pub destructive_refused : (at : ℕ) (what : Destructive) → phase account registry life ≡ Inactive
      → IsVerdictOnCommand account registry life (enable (destructive at what))
      (Some (refusal.Destructive at what))
  destructive_refused at what off =
      sym (ap (λ b. cond b (Some Busy) (Some (refusal.Destructive at what))) (early off))

  -- a program's verdict is the command's
  pub program_verdict : (clauses : List ClauseForm) (v : EnableVerdict) → phase account registry life ≡ Inactive
      → IsVerdict account registry (shapes_in (set_up account registry life))
      (next_epid account registry now) clauses v
      → IsVerdictOnCommand account registry life (enable (program clauses)) (refusal_of v)
  program_verdict clauses v off is =
      let P : Bool → Type 0 = λ b. MatchOption (cond b (Some Busy) None)
      ((w : EnableVerdict) × IsVerdict account registry (shapes_in now) (next_epid account registry now) clauses w
      × (refusal_of v ≡ refusal_of w)) (λ refusal. refusal_of v ≡ Some refusal) in
      subst P (sym (early off)) (v, is, refl)

  -- a program that is not enabled leaves the set-up
  pub idle_program : (clauses : List ClauseForm)
      → is_enabled account registry (shapes_in (set_up account registry life)) (next_epid account registry now) clauses
      ≡ false
      → set_up account registry (asked (Ok (enable (program clauses))) ∷ life) ≡ now
  idle_program clauses fails =
      ap (λ b. cond (is_inactive (phase_of now) && b) (with_program now clauses) now) fails
      ∙ neither (is_inactive (phase_of now))
    where
      neither : (b : Bool) → cond (b && false) (with_program now clauses) now ≡ now
      neither true = refl
      neither false = refl

  -- an accepted one adds its clauses
  pub program_added : (clauses : List ClauseForm) → phase account registry life ≡ Inactive
      → is_enabled account registry (shapes_in (set_up account registry life)) (next_epid account registry now) clauses
      ≡ true
      → set_up account registry (asked (Ok (enable (program clauses))) ∷ life) ≡ with_program now clauses
  program_added clauses off holds =
      ap
      (λ b. cond (b && is_enabled account registry (shapes_in now) (next_epid account registry now) clauses)
      (with_program now clauses) now)
      (idle_is off)
      ∙ ap (λ b. cond b (with_program now clauses) now) holds

  pub option_refused : (setting : Option Setting) → setting ≡ None → phase account registry life ≡ Inactive
      → IsVerdictOnCommand account registry life (option setting) (Some refusal.Option)
  option_refused None e off =
      sym (ap (λ b. cond b (Some Busy) (Some refusal.Option)) (early off))
  option_refused (Some setting) e off = cc

  pub idle_unset : (setting : Option Setting) → setting ≡ None
      → set_up account registry (asked (Ok (option setting)) ∷ life) ≡ now
  idle_unset None e = refl
  idle_unset (Some setting) e = cc

  pub option_taken : (setting : Setting) → phase account registry life ≡ Inactive
      → IsVerdictOnCommand account registry life (option (Some setting)) None
  option_taken setting off = sym (ap (λ b. cond b (Some Busy) None) (early off))

  pub set_by : (setting : Setting) → phase account registry life ≡ Inactive
      → set_up account registry (asked (Ok (option (Some setting))) ∷ life)
      ≡ with_options now (with_setting now.options setting)
  set_by setting off = ap (λ b. cond b (with_options now (with_setting now.options setting)) now) (idle_is off)

  pub go_taken : phase account registry life ≡ Inactive
      → has_room account registry (set_up account registry life) ≡ true
      → IsVerdictOnCommand account registry life go None
  go_taken off room =
      sym
      (ap (λ b. cond b (Some Busy) (cond (not (has_room account registry now)) (Some Limit) None)) (early off)
      ∙ ap (λ b. cond (not b) (Some Limit) None) room)

  abbrev begun : SetUp
  begun = happens account registry (since_then now []) began

  pub begun_by_go : phase account registry life ≡ Inactive
      → has_room account registry (set_up account registry life) ≡ true
      → set_up account registry (asked (Ok go) ∷ life)
      ≡ happens account registry (since_then (set_up account registry life) []) began
  begun_by_go off room =
      ap (λ b. cond (b && has_room account registry now) begun now) (idle_is off)
      ∙ ap (λ b. cond b begun now) room

  pub stop_taken : phase account registry life ≡ Active → IsVerdictOnCommand account registry life stop None
  stop_taken on = sym (ap (λ p. cond (not (is_active p)) (Some Busy) None) on)

  pub stopped_by : phase account registry life ≡ Active
      → set_up account registry (asked (Ok stop) ∷ life) ≡ with_event (set_up account registry life) (ended end.Stop)
  stopped_by on = ap (λ p. cond (is_active p) (with_event now (ended end.Stop)) now) on

  -- `snap`
  abbrev by_phase : Bool → Option Refusal
  by_phase b = cond (not b) (Some Busy) None

  pub no_cpu : (n : ℕ) → registry.cpus ≤ n → IsVerdictOnCommand account registry life (snap n) (Some NoCpu)
  no_cpu n past =
      sym
      (ap
      (λ b. cond b (Some NoCpu) (by_phase (is_readable now (phase account registry life))))
      (le-leb registry.cpus n past))

  verdict_inside : (n : ℕ) (b : Bool) → n < registry.cpus
      → is_readable (set_up account registry life) (phase account registry life) ≡ b
      → IsVerdictOnCommand account registry life (snap n) (by_phase b)
  verdict_inside n b inside e =
      sym
      (ap
      (λ x. cond x (Some NoCpu) (by_phase (is_readable now (phase account registry life))))
      (lt-leb registry.cpus n inside)
      ∙ ap by_phase e)

  pub snap_taken : (n : ℕ) → n < registry.cpus
      → is_readable (set_up account registry life) (phase account registry life) ≡ true
      → IsVerdictOnCommand account registry life (snap n) None
  snap_taken n inside on = verdict_inside n true inside on

  pub snapped_by : (n : ℕ) → n < registry.cpus
      → is_readable (set_up account registry life) (phase account registry life) ≡ true
      → set_up account registry (asked (Ok (snap n)) ∷ life) ≡ with_event (set_up account registry life) (snapped n)
  snapped_by n inside on =
      ap (λ b. cond (b && is_readable now (phase_of now)) (with_event now (snapped n)) now)
      (lt-ltb n registry.cpus inside)
      ∙ ap (λ b. cond b (with_event now (snapped n)) now) on

  -- `agg` and `trunc`
  abbrev by_known : Option Aggregation → Option Refusal
  by_known o = cond (is_none o) (Some NoAgg) None

  pub no_agg : (name : List ℕ) → known account registry life name ≡ None
      → IsVerdictOnCommand account registry life (agg name) (Some NoAgg)
  no_agg name none = sym (ap by_known none)

  pub some_trunc : (name : List ℕ) (a : Aggregation) → known account registry life name ≡ Some a
      → IsVerdictOnCommand account registry life (trunc name) None
  some_trunc name a is = sym (ap by_known is)

  abbrev by_trunc : List ℕ → Bool → SetUp
  by_trunc name b = cond b now (with_event now (truncated name))

  pub truncated_by : (name : List ℕ) (a : Aggregation) → is_inactive (phase account registry life) ≡ false
      → known account registry life name ≡ Some a
      → set_up account registry (asked (Ok (trunc name)) ∷ life)
      ≡ with_event (set_up account registry life) (truncated name)
  truncated_by name a on is =
      ap (λ b. by_trunc name (b || is_none (known account registry life name))) on
      ∙ ap (λ o. by_trunc name (is_none o)) is

  -- `close`
  pub closed_by : (b : Bool) → is_stopped (phase account registry life) ≡ b
      → set_up account registry (asked (Ok close) ∷ life)
      ≡ cond b (set_up account registry life) (with_event (set_up account registry life) closed)
  closed_by b e = ap (λ x. cond x now (with_event now closed)) e
