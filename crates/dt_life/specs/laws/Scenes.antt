-- A life on a described machine is within bounds, and so is each scene of its takings.
use Rattle.std.proofs.Common.{◌≡◌, ℕ, zero, suc, ◌^◌, ◌<◌, ◌≤◌, List, [], ◌∷◌, Option, Some, None, Result, Ok, Err, IfSome}
use Rattle.std.proofs.Common.{ℤ, pos, FitsSigned, length, map, replicate, refl, subst, arith, lit<, Bool, true, false, cond}
use Rattle.std.proofs.lemmas.Bool.{and_parts, leb-true}
use Rattle.std.specs.Bool.{nat_le}
use Rattle.std.specs.List.{find}
use Rattle.std.specs.Prelude.{codes}
use Rattle.std.specs.Str.{bytes_eq}
use Rattle.std.specs.Int.{w64}
use Rattle.std.specs.List.{AllByRecursion}
use Rattle.std.specs.Option.{option_map, option_and_then}
use Rattle.std.specs.Prelude.{slice_index_or}
use Rattle.dt_cred.specs.Limits.{argument_count, frame_count}
use Rattle.dt_cred.specs.declared.account.Account.{Account}
use Rattle.dt_cred.specs.declared.account.Process.{Process}
use Rattle.dt_cred.specs.declared.firing.Firing.{Firing}
use Rattle.dt_cred.specs.declared.probe.Probe.{Probe}
use Rattle.dt_expr.specs.Form.{Form, Num, Named, Local, Prefixed, Joined, Compared}
use Rattle.dt_expr.specs.Scene.{number_named, text_named}
use Rattle.dt_expr.specs.declared.scene.NumberVariable.{NumberVariable}
use Rattle.dt_expr.specs.declared.scene.NumberVariable.TheVariants.{Arg0, Arg1, Arg2, Arg3, Arg4, Arg5, Arg6, Arg7, Arg8}
use Rattle.dt_expr.specs.declared.scene.NumberVariable.TheVariants.{Arg9, Cpu, Pid, Tid, Uid, Timestamp, Id, Epid}
use Rattle.dt_expr.specs.declared.scene.TextVariable.{TextVariable}
use Rattle.dt_expr.specs.declared.scene.TextVariable.TheVariants.{Execname, Probeprov, Probemod, Probefunc, Probename}
use Rattle.dt_expr.specs.declared.text.Text.{Text as TextForm}
use Rattle.dt_expr.specs.declared.text.Text.TheVariants.{Literal, Variable}
use Rattle.dt_lang.specs.Reads.{Reading, Reads, program, fault, destructive}
use Rattle.dt_machine.specs.Bounds.{IsFrameInBounds, IsProcessInBounds, IsProbeInBounds, IsFiringInBounds, IsInBounds}
use Rattle.dt_machine.specs.Registry.{Contents, Registry, account_of, process_of, probe_of, firing_at}
use Rattle.dt_names.specs.Limits.{padded_size}
use Rattle.dt_program.specs.Program.{ClauseForm, StatementForm}
use Rattle.dt_program.specs.Program as statement
use Rattle.dt_program.specs.Written.{HasWrittenParts, IsWrittenText, IsWrittenStatement, IsWrittenClause, IsWrittenProgram}
use Rattle.dt_record.specs.Pasts.{TracingPast}
use Rattle.dt_record.specs.Showing.{AreLocalsInBounds, CanBeTaken, IsExpressionInBounds, IsSceneInBounds, IsStatementInBounds}
use Rattle.dt_record.specs.Showing.{IsTextInBounds}
use Rattle.dt_speculation.specs.Limits.{nspec_max}
use Rattle.dt_life.specs.Ask.{Ask, option, enable, go, stop, snap, agg, trunc, status, list, describe, close}
use Rattle.dt_life.specs.Life.{Item, asked, fired}
use Rattle.dt_life.specs.Scenes.{IsItemInBounds, IsLifeInBounds, IsLifeOn, IsReadingInBounds, IsSettingInBounds, MayBeAsked, MayBeSet, MayReach}
use Rattle.dt_life.specs.Takings.{TracingEvent, began, seen, snapped, truncated, ended, closed, context_at}
use Rattle.dt_machine.specs.Context.{ContextForm}
use Rattle.dt_life.specs.Takings.{own_firing, own_process, scene_at}
use Rattle.dt_machine.specs.Context.{context_in}
use Rattle.dt_life.specs.Limits.{nspec_min}
use Rattle.dt_life.specs.Options.{NumberOption, Setting, in_range, number_option, number_options, number_set}
use Rattle.dt_life.specs.Options.{size, policy, entries, history, variables, speculations, parts}
use Rattle.dt_life.specs.declared.refusal.Refusal.{Refusal}
use Rattle.dt_life.specs.laws.Lists.{find_all}

-- lists
pub all_mapped : {A B : Type 0} (P : A → Type 0) (Q : B → Type 0) (f : A → B) → ((x : A) → P x → Q (f x)) → (xs : List A)
    → AllByRecursion P xs → AllByRecursion Q (map f xs)
all_mapped P Q f g [] h = tt
all_mapped P Q f g (x ∷ xs) h = (g x h.0, all_mapped P Q f g xs h.1)

pub all_weaker : {A : Type 0} (P Q : A → Type 0) → ((x : A) → P x → Q x) → (xs : List A) → AllByRecursion P xs
    → AllByRecursion Q xs
all_weaker P Q g [] h = tt
all_weaker P Q g (x ∷ xs) h = (g x h.0, all_weaker P Q g xs h.1)

all_same : {A : Type 0} (P : A → Type 0) (n : ℕ) (x : A) → P x → AllByRecursion P (replicate n x)
all_same P zero x h = tt
all_same P (suc n) x h = (h, all_same P n x h)

-- what holds where there is something holds of what is there
pub there : {A : Type 0} (P : A → Type 0) (o : Option A) (x : A) → IfSome o P → o ≡ Some x → P x
there P None x h e = cc
there P (Some y) x h e = let same : y ≡ x = cc in subst P same h

-- settings
abbrev IsRight : NumberOption → Type 0
IsRight one = (n : ℕ) → in_range one.least one.most n ≡ true → IsSettingInBounds (one.sets n)

all_right : AllByRecursion IsRight number_options
all_right =
    let few : IsRight (number_option (codes "nspec") nspec_min nspec_max speculations) =
    λ n h. leb-true n nspec_max (and_parts (nat_le nspec_min n) (nat_le n nspec_max) h).1 in
    (λ n h. tt, (λ n h. tt, (λ n h. tt, (λ n h. tt, (few, (λ n h. tt, tt))))))

set_where : (one : NumberOption) (n : ℕ) (b : Bool) → in_range one.least one.most n ≡ b → IsRight one
    → IfSome (cond b (Some (one.sets n)) None) IsSettingInBounds
set_where one n true e right = right n e
set_where one n false e right = tt

set_by : (n : ℕ) (o : Option NumberOption) → ((one : NumberOption) → o ≡ Some one → IsRight one)
    → IfSome (option_and_then (λ (one : NumberOption). cond (in_range one.least one.most n) (Some (one.sets n)) None) o)
    IsSettingInBounds
set_by n None right = tt
set_by n (Some one) right = set_where one n (in_range one.least one.most n) refl (right one refl)

number_set_in : (name : List ℕ) (n : ℕ) → IfSome (number_set name n) IsSettingInBounds
number_set_in name n =
    set_by n (find (λ (one : NumberOption). bytes_eq name one.name) number_options)
    (λ one e. find_all IsRight (λ (one : NumberOption). bytes_eq name one.name) number_options one all_right e)

-- what may be set lies within bounds
setting_in : (setting : Setting) → MayBeSet setting → IsSettingInBounds setting
setting_in (size n) h = tt
setting_in (policy p) h = tt
setting_in (entries n) h = tt
setting_in (history n) h = tt
setting_in (variables n) h = tt
setting_in (speculations n) h = there IsSettingInBounds (number_set h.0 h.1) (speculations n) (number_set_in h.0 h.1) h.2
setting_in (parts n) h = tt

-- lives
module _ (written : (text : List ℕ) (clauses : List ClauseForm) → Reads text (program clauses)
    → IsWrittenProgram clauses) where
  reading_in : (text : List ℕ) (reading : Reading) → Reads text reading → IsReadingInBounds reading
  reading_in text (program clauses) h = written text clauses h
  reading_in text (fault at why) h = tt
  reading_in text (destructive at what) h = tt

  line_in : (line : Result Ask Refusal) → MayBeAsked line → IsItemInBounds (asked line)
  line_in (Err refusal) h = tt
  line_in (Ok (option None)) h = tt
  line_in (Ok (option (Some setting))) h = setting_in setting h
  line_in (Ok (enable reading)) h = reading_in h.0 reading h.1
  line_in (Ok go) h = tt
  line_in (Ok stop) h = tt
  line_in (Ok (snap cpu)) h = tt
  line_in (Ok (agg name)) h = tt
  line_in (Ok (trunc name)) h = tt
  line_in (Ok status) h = tt
  line_in (Ok (list desc)) h = tt
  line_in (Ok (describe epid)) h = tt
  line_in (Ok close) h = tt

  item_in : (contents : Contents) → IsInBounds contents → (item : Item) → MayReach contents.scripts item
      → IsItemInBounds item
  item_in contents is (asked line) h = line_in line h
  item_in contents is (fired firing) h =
      there IsFiringInBounds (firing_at contents.scripts h.0 h.1) firing (is.firings h.0 h.1) h.2

  pub life_in : (contents : Contents) (account : Account) (life : List Item) → IsInBounds contents
      → IsLifeOn contents account life → IsLifeInBounds account contents.registry life
  life_in contents account life is on = record {
    uid = there (λ a. a.uid < 2 ^ 32) (account_of contents.registry on.name) account (is.uids on.name) on.known;
    processes = is.processes;
    probes = is.probes;
    items = all_weaker (MayReach contents.scripts) IsItemInBounds (item_in contents is) life on.reached;
  }

-- contexts
pub record IsContextInBounds (m : ContextForm) : Type 0 where
  pub probe : IsProbeInBounds m.probe
  pub process : IsProcessInBounds m.process
  pub firing : IsFiringInBounds m.firing

-- the firing that an event saw, if it saw one
abbrev pub IsEventInBounds : TracingEvent → Type 0
IsEventInBounds (seen firing) = IsFiringInBounds firing
IsEventInBounds _ = Unit {0}

zero_fits : FitsSigned w64 (pos 0)
zero_fits = record { sfits = lit< tt }

own_firing_in : (probe : ℕ) → IsFiringInBounds (own_firing probe)
own_firing_in probe = record {
  cpu = lit< tt;
  pid = omega arith;
  tid = lit< tt;
  timestamp = zero_fits;
  args = refl;
  kstack = refl;
  ustack = refl;
  args_fit = all_same (FitsSigned w64) argument_count (pos 0) zero_fits;
  kstack_fit = all_same IsFrameInBounds frame_count 0 (lit< tt);
  ustack_fit = all_same IsFrameInBounds frame_count 0 (lit< tt);
}

module _ (account : Account) (registry : Registry) (uid : account.uid < 2 ^ 32)
    (processes : (pid : ℕ) → IfSome (process_of registry pid) IsProcessInBounds)
    (probes : (id : ℕ) → IfSome (probe_of registry id) IsProbeInBounds) where
  own_process_in : IsProcessInBounds (own_process account)
  own_process_in = record { pid = omega arith; uid = uid; execname = omega arith }

  found_in : (probe : Option Probe) (process : Option Process) (firing : Firing) → IfSome probe IsProbeInBounds
      → IfSome process IsProcessInBounds → IsFiringInBounds firing
      → IfSome (option_and_then
      (λ p. option_map (λ q. record { probe = p; process = q; firing = firing }) process) probe) IsContextInBounds
  found_in None process firing h k l = tt
  found_in (Some p) None firing h k l = tt
  found_in (Some p) (Some q) firing h k l = record { probe = h; process = k; firing = l }

  own_in : (id : ℕ) → IfSome (context_in registry (Some (own_process account)) (own_firing id)) IsContextInBounds
  own_in id = found_in (probe_of registry id) (Some (own_process account)) (own_firing id) (probes id) own_process_in
      (own_firing_in id)

  pub context_in_bounds : (event : TracingEvent) → IsEventInBounds event
      → IfSome (context_at account registry event) IsContextInBounds
  context_in_bounds began h = own_in 1
  context_in_bounds (seen firing) h =
      found_in (probe_of registry firing.probe) (process_of registry firing.pid) firing (probes firing.probe)
      (processes firing.pid) h
  context_in_bounds (snapped cpu) h = tt
  context_in_bounds (truncated name) h = tt
  context_in_bounds (ended end) h = own_in 2
  context_in_bounds closed h = tt

-- scenes
argument_in : (args : List ℤ) (k : ℕ) → AllByRecursion (FitsSigned w64) args → FitsSigned w64 (slice_index_or args k (pos 0))
argument_in [] k h = zero_fits
argument_in (z ∷ args) zero h = h.0
argument_in (z ∷ args) (suc k) h = argument_in args k h.1

small_fits : (n : ℕ) → n < 2 ^ 63 → FitsSigned w64 (pos n)
small_fits n h = record { sfits = h }

module _ (m : ContextForm) (epid : ℕ) (is : IsContextInBounds m) (small : epid < 2 ^ 63) where
  number_in : (variable : NumberVariable) → FitsSigned w64 (number_named (scene_at m epid) variable)
  number_in Arg0 = argument_in m.firing.args 0 is.firing.args_fit
  number_in Arg1 = argument_in m.firing.args 1 is.firing.args_fit
  number_in Arg2 = argument_in m.firing.args 2 is.firing.args_fit
  number_in Arg3 = argument_in m.firing.args 3 is.firing.args_fit
  number_in Arg4 = argument_in m.firing.args 4 is.firing.args_fit
  number_in Arg5 = argument_in m.firing.args 5 is.firing.args_fit
  number_in Arg6 = argument_in m.firing.args 6 is.firing.args_fit
  number_in Arg7 = argument_in m.firing.args 7 is.firing.args_fit
  number_in Arg8 = argument_in m.firing.args 8 is.firing.args_fit
  number_in Arg9 = argument_in m.firing.args 9 is.firing.args_fit
  number_in Cpu = let h = is.firing.cpu in small_fits m.firing.cpu (omega arith)
  number_in Pid = let h = is.firing.pid in small_fits m.firing.pid (omega arith)
  number_in Tid = let h = is.firing.tid in small_fits m.firing.tid (omega arith)
  number_in Uid = let h = is.process.uid in small_fits m.process.uid (omega arith)
  number_in Timestamp = is.firing.timestamp
  number_in Id = let h = is.probe.id in small_fits m.probe.id (omega arith)
  number_in Epid = small_fits epid small

  text_in : (variable : TextVariable) → length (text_named (scene_at m epid) variable) ≤ padded_size
  text_in Execname = let h = is.process.execname in omega arith
  text_in Probeprov = let h = is.probe.provider in omega arith
  text_in Probemod = let h = is.probe.module in omega arith
  text_in Probefunc = let h = is.probe.function in omega arith
  text_in Probename = let h = is.probe.name in omega arith

  pub scene_in : IsSceneInBounds (scene_at m epid)
  scene_in = record {
    numbers = number_in;
    texts = text_in;
    kstack = record { many = is.firing.kstack; each = is.firing.kstack_fit };
    ustack = record { many = is.firing.ustack; each = is.firing.ustack_fit };
  }

-- clauses
expression_in : (f : Form) → HasWrittenParts f → IsExpressionInBounds f
expression_in (Num z) h = h
expression_in (Named variable) h = tt
expression_in (Local name) h = tt
expression_in (Prefixed op operand) h = expression_in operand h
expression_in (Joined op left right) h = (expression_in left h.0, expression_in right h.1)
expression_in (Compared op left right) h = tt

written_text_in : (t : TextForm) → IsWrittenText t → IsTextInBounds t
written_text_in (Literal bytes) h = omega arith
written_text_in (Variable variable) h = tt

statement_in : (s : StatementForm) → IsWrittenStatement s → IsStatementInBounds s
statement_in (statement.trace (statement.number f)) h = expression_in f h.parts
statement_in (statement.trace (statement.text t)) h = written_text_in t h
statement_in (statement.stack n) h = h.1
statement_in (statement.ustack n) h = h.1
statement_in (statement.exit f) h = tt
statement_in (statement.aggregate name keys call) h = tt
statement_in (statement.assign name f) h = expression_in f h.value_written.parts
statement_in (statement.draw name) h = tt
statement_in (statement.speculate f) h = tt
statement_in (statement.commit f) h = tt
statement_in (statement.discard f) h = tt

-- a clause that can be written can be taken in a context within bounds, after a past within bounds
pub can_be_taken : (m : ContextForm) (epid : ℕ) (past : TracingPast) (clause : ClauseForm) → IsContextInBounds m
    → epid < 2 ^ 63 → AreLocalsInBounds past.locals → past.specs.nspec ≤ nspec_max → IsWrittenClause clause
    → CanBeTaken (scene_at m epid) past clause
can_be_taken m epid past clause is small locals few h = record {
  scene_in_bounds = scene_in m epid is small;
  locals_in_bounds = locals;
  few_identifiers = few;
  statements_in_bounds = all_weaker IsWrittenStatement IsStatementInBounds statement_in clause.statements h.stated;
}
