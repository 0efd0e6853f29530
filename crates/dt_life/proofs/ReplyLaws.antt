-- A line has one reply.
use Rattle.std.proofs.Common.{◌≡◌, ℕ, Bool, true, false, cond, List, Option, Some, None, Result, Ok, Err, refl, sym, ap}
use Rattle.std.proofs.Common.{◌∙◌, subst}
use Rattle.dt_aggstore.specs.TableOf.{table_of}
use Rattle.dt_life.specs.Stores.{stores_in}
use Rattle.std.specs.Bool.{MatchBool}
use Rattle.std.specs.Option.{MatchOption, is_none}
use Rattle.dt_cred.specs.declared.account.Account.{Account}
use Rattle.dt_machine.specs.Registry.{Registry}
use Rattle.dt_lang.specs.Program.{ClauseForm}
use Rattle.dt_lang.specs.Reads.{program, fault, destructive}
use Rattle.dt_record.specs.Layout.{layout_of}
use Rattle.dt_ecb.specs.Enable.{EnableVerdict, IsVerdict}
use Rattle.dt_ecb.specs.Shapes.{ShapeForm}
use Rattle.dt_life.specs.Answer.{Answer, done, enabled, snapped, listed, described, refused, aggregated}
use Rattle.dt_life.specs.Answer as answers
use Rattle.dt_buffer.specs.History.{BufferPast}
use Rattle.dt_buffer.specs.Shows.{Shows}
use Rattle.dt_life.specs.Ask.{Ask, option, enable, go, stop, snap, status, list, describe, agg, trunc, close}
use Rattle.dt_life.specs.Buffers.{past}
use Rattle.dt_life.specs.Life.{Item, SetUp, is_over, set_up, next_epid, shapes_in}
use Rattle.dt_life.specs.Reply.{Replies, RepliesInQuota, IsVerdictOnCommand, Accepted, is_asked_late, ecb_of}
use Rattle.dt_life.specs.Reply.{refusal_of, known}
use Rattle.dt_life.specs.declared.refusal.Refusal.{Refusal}
use Rattle.dt_life.specs.declared.refusal.Refusal.TheVariants.{Program, Busy, NoEpid, Quota, NoAgg}
use Rattle.dt_life.specs.declared.refusal.Refusal.TheVariants as refusal

one_by_bool : {X : Type 0} (b : Bool) (P : X → Type 0) (r x y : X) → ((x y : X) → P x → P y → x ≡ y)
    → MatchBool b (x ≡ r) (P x) → MatchBool b (y ≡ r) (P y) → x ≡ y
one_by_bool true P r x y one hx hy = hx ∙ sym hy
one_by_bool false P r x y one hx hy = one x y hx hy

one_by_cause : (b : Bool) (P : Option Refusal → Type 0) (r : Refusal) (x y : Option Refusal)
    → ((x y : Option Refusal) → P x → P y → x ≡ y)
    → MatchOption (cond b (Some r) None) (P x) (λ s. x ≡ Some s)
    → MatchOption (cond b (Some r) None) (P y) (λ s. y ≡ Some s) → x ≡ y
one_by_cause true P r x y one hx hy = hx ∙ sym hy
one_by_cause false P r x y one hx hy = one x y hx hy

one_by_option : (refusal : Option Refusal) (P : Answer → Type 0) (a b : Answer) → ((x y : Answer) → P x → P y → x ≡ y)
    → MatchOption refusal (P a) (λ r. a ≡ refused r) → MatchOption refusal (P b) (λ r. b ≡ refused r) → a ≡ b
one_by_option (Some r) P a b one ha hb = ha ∙ sym hb
one_by_option None P a b one ha hb = one a b ha hb

some_by_cause : (b : Bool) (P : Option Refusal → Type 0) (r : Refusal) → (x : Option Refusal) × P x
    → (x : Option Refusal) × MatchOption (cond b (Some r) None) (P x) (λ s. x ≡ Some s)
some_by_cause true P r some = (Some r, refl)
some_by_cause false P r some = some

some_by_bool : {X : Type 0} (b : Bool) (P : X → Type 0) (r : X) → (x : X) × P x → (x : X) × MatchBool b (x ≡ r) (P x)
some_by_bool true P r some = (r, refl)
some_by_bool false P r some = some

some_by_option : (refusal : Option Refusal) (P : Answer → Type 0) → (refusal ≡ None → (a : Answer) × P a)
    → (a : Answer) × MatchOption refusal (P a) (λ r. a ≡ refused r)
some_by_option (Some r) P some = (refused r, refl)
some_by_option None P some = some refl

always_refused : (b : Bool) (r s : Refusal) → None ≡ cond b (Some r) (Some s) → ⊥
always_refused true r s e = cc
always_refused false r s e = cc

told_once : {X : Type 0} (o : Option X) (P : X → Answer) (a b : Answer)
    → MatchOption o ⊥ (λ f. a ≡ P f) → MatchOption o ⊥ (λ f. b ≡ P f) → a ≡ b
told_once None P a b ha hb = absurd ha
told_once (Some f) P a b ha hb = ha ∙ sym hb

told_so : {X : Type 0} (o : Option X) (P : X → Answer) (r : Refusal)
    → None ≡ cond (is_none o) (Some r) None → (a : Answer) × MatchOption o ⊥ (λ f. a ≡ P f)
told_so None P r v = cc
told_so (Some f) P r v = (P f, refl)

module _ (one_verdict : (account : Account) (registry : Registry) (accepted : List ShapeForm) (epid : ℕ)
    (clauses : List ClauseForm) (a b : EnableVerdict) → IsVerdict account registry accepted epid clauses a
    → IsVerdict account registry accepted epid clauses b → a ≡ b)
    (one_shown : (past : BufferPast) (bytes other : List ℕ) (drops count : ℕ) (filled full : Bool)
    → Shows past bytes drops filled → Shows past other count full
    → (bytes ≡ other) × (drops ≡ count) × (filled ≡ full))
    (account : Account) (registry : Registry) (life : List Item) where
  abbrev Verdict-on : Ask → Option Refusal → Type 0
  Verdict-on = IsVerdictOnCommand account registry life

  abbrev now : SetUp
  now = set_up account registry life

  abbrev OfProgram : List ClauseForm → Option Refusal → Type 0
  OfProgram clauses verdict = (v : EnableVerdict)
      × IsVerdict account registry (shapes_in now) (next_epid account registry now) clauses v
      × (verdict ≡ refusal_of v)

  one_of_program : (clauses : List ClauseForm) (v w : Option Refusal) → OfProgram clauses v → OfProgram clauses w
      → v ≡ w
  one_of_program clauses v w hv hw =
      hv.2
      ∙ ap refusal_of
      (one_verdict account registry (shapes_in now) (next_epid account registry now) clauses hv.0 hw.0 hv.1 hw.1)
      ∙ sym hw.2

  same_verdict : (ask : Ask) (v w : Option Refusal) → Verdict-on ask v → Verdict-on ask w → v ≡ w
  same_verdict (enable (program clauses)) v w hv hw =
      one_by_cause (is_asked_late account registry life) (OfProgram clauses) Busy v w (one_of_program clauses) hv hw
  same_verdict (enable (fault at why)) v w hv hw = hv ∙ sym hw
  same_verdict (enable (destructive at what)) v w hv hw = hv ∙ sym hw
  same_verdict (option setting) v w hv hw = hv ∙ sym hw
  same_verdict go v w hv hw = hv ∙ sym hw
  same_verdict stop v w hv hw = hv ∙ sym hw
  same_verdict (snap cpu) v w hv hw = hv ∙ sym hw
  same_verdict (agg name) v w hv hw = hv ∙ sym hw
  same_verdict (trunc name) v w hv hw = hv ∙ sym hw
  same_verdict status v w hv hw = hv ∙ sym hw
  same_verdict (list (Err wrong)) v w hv hw = hv ∙ sym hw
  same_verdict (list (Ok desc)) v w hv hw = hv ∙ sym hw
  same_verdict (describe epid) v w hv hw = hv ∙ sym hw
  same_verdict close v w hv hw = hv ∙ sym hw

  one_accepted : (ask : Ask) (a b : Answer) → Accepted account registry life ask a
      → Accepted account registry life ask b → a ≡ b
  one_accepted (enable (program clauses)) a b ha hb = ha ∙ sym hb
  one_accepted (enable (fault at why)) a b ha hb = absurd ha
  one_accepted (enable (destructive at what)) a b ha hb = absurd ha
  one_accepted (option setting) a b ha hb = ha ∙ sym hb
  one_accepted go a b ha hb = ha ∙ sym hb
  one_accepted stop a b ha hb = ha ∙ sym hb
  one_accepted close a b ha hb = ha ∙ sym hb
  one_accepted status a b ha hb = ha ∙ sym hb
  one_accepted (list (Err wrong)) a b ha hb = absurd ha
  one_accepted (list (Ok desc)) a b ha hb = ha ∙ sym hb
  one_accepted (describe epid) a b ha hb =
      told_once (ecb_of account registry life epid) (λ f. described epid f.0 (layout_of f.1.clause)) a b ha hb
  one_accepted (agg name) a b ha hb =
      told_once (known account registry life name)
      (λ x. aggregated name x.function (table_of (stores_in account registry now) x)) a b ha hb
  one_accepted (trunc name) a b ha hb = ha ∙ sym hb
  one_accepted (snap cpu) a b ha hb =
      let same = one_shown (past account registry life cpu) ha.0 hb.0 ha.1 hb.1 ha.2 hb.2 ha.3 hb.3 in
      ha.4
      ∙ ap (λ bytes. snapped cpu bytes ha.1 ha.2) same.0
      ∙ ap (λ drops. snapped cpu hb.0 drops ha.2) same.1
      ∙ ap (snapped cpu hb.0 hb.1) same.2
      ∙ sym hb.4

  one_in_quota : (line : Result Ask Refusal) (a b : Answer) → RepliesInQuota account registry life line a
      → RepliesInQuota account registry life line b → a ≡ b
  one_in_quota (Err refusal) a b ha hb = ha ∙ sym hb
  one_in_quota (Ok ask) a b ha hb =
      let P : Option Refusal → Type 0 = λ v.
      MatchOption v (Accepted account registry life ask a) (λ refusal. a ≡ refused refusal) in
      one_by_option hb.0 (Accepted account registry life ask) a b (one_accepted ask)
      (subst P (same_verdict ask ha.0 hb.0 ha.1 hb.1) ha.2) hb.2

  pub same_reply : (line : Result Ask Refusal) (a b : Answer) → Replies account registry life line a
      → Replies account registry life line b → a ≡ b
  same_reply line a b ha hb =
      one_by_bool (is_over life) (RepliesInQuota account registry life line) (refused Quota) a b (one_in_quota line)
      ha hb

module _ (some_verdict : (account : Account) (registry : Registry) (accepted : List ShapeForm) (epid : ℕ)
    (clauses : List ClauseForm) → (v : EnableVerdict) × IsVerdict account registry accepted epid clauses v)
    (some_shown : (past : BufferPast) → (bytes : List ℕ) × (drops : ℕ) × (filled : Bool)
    × Shows past bytes drops filled)
    (account : Account) (registry : Registry) (life : List Item) where
  abbrev s : SetUp
  s = set_up account registry life

  verdict_of : (ask : Ask) → (v : Option Refusal) × IsVerdictOnCommand account registry life ask v
  verdict_of (enable (program clauses)) =
      let v = some_verdict account registry (shapes_in s) (next_epid account registry s) clauses in
      some_by_cause (is_asked_late account registry life)
      (λ verdict. (w : EnableVerdict) × IsVerdict account registry (shapes_in s) (next_epid account registry s) clauses w
      × (verdict ≡ refusal_of w)) Busy (refusal_of v.0, (v.0, v.1, refl))
  verdict_of (enable (fault at why)) = (_, refl)
  verdict_of (enable (destructive at what)) = (_, refl)
  verdict_of (option setting) = (_, refl)
  verdict_of go = (_, refl)
  verdict_of stop = (_, refl)
  verdict_of (snap cpu) = (_, refl)
  verdict_of (agg name) = (_, refl)
  verdict_of (trunc name) = (_, refl)
  verdict_of status = (_, refl)
  verdict_of (list (Err wrong)) = (_, refl)
  verdict_of (list (Ok desc)) = (_, refl)
  verdict_of (describe epid) = (_, refl)
  verdict_of close = (_, refl)

  some_accepted : (ask : Ask) → IsVerdictOnCommand account registry life ask None
      → (a : Answer) × Accepted account registry life ask a
  some_accepted (enable (program clauses)) v = (enabled _ _, refl)
  some_accepted (enable (fault at why)) v =
      absurd (always_refused (is_asked_late account registry life) Busy (Program at why) v)
  some_accepted (enable (destructive at what)) v =
      absurd (always_refused (is_asked_late account registry life) Busy (refusal.Destructive at what) v)
  some_accepted (option setting) v = (done, refl)
  some_accepted go v = (done, refl)
  some_accepted stop v = (done, refl)
  some_accepted close v = (done, refl)
  some_accepted status v = (answers.status _ _ _ _ _ _ _, refl)
  some_accepted (list (Err wrong)) v = cc
  some_accepted (list (Ok desc)) v = (listed _, refl)
  some_accepted (describe epid) v =
      told_so (ecb_of account registry life epid) (λ f. described epid f.0 (layout_of f.1.clause)) NoEpid v
  some_accepted (agg name) v =
      told_so (known account registry life name)
      (λ x. aggregated name x.function (table_of (stores_in account registry s) x)) NoAgg v
  some_accepted (trunc name) v = (done, refl)
  some_accepted (snap cpu) v =
      let shown = some_shown (past account registry life cpu) in
      (snapped cpu shown.0 shown.1 shown.2, (shown.0, shown.1, shown.2, shown.3, refl))

  some_in_quota : (line : Result Ask Refusal) → (a : Answer) × RepliesInQuota account registry life line a
  some_in_quota (Err refusal) = (refused refusal, refl)
  some_in_quota (Ok ask) =
      let v = verdict_of ask in
      let a = some_by_option v.0 (Accepted account registry life ask)
      (λ e. some_accepted ask (subst (IsVerdictOnCommand account registry life ask) e v.1)) in
      (a.0, (v.0, v.1, a.1))

  pub some_answer : (line : Result Ask Refusal) → (a : Answer) × Replies account registry life line a
  some_answer line =
      some_by_bool (is_over life) (RepliesInQuota account registry life line) (refused Quota) (some_in_quota line)
