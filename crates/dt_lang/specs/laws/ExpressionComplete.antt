-- What is an expression is read as it.
use Rattle.std.proofs.Common.{◌≡◌, ℕ, ◌+◌, ◌≤◌, Bool, true, if◌then◌else◌, List, [], ◌∷◌, ◌++◌, Some, None, option_map}
use Rattle.std.proofs.Common.{refl, ap, ◌∙◌, arith, le-leb}
use Rattle.dt_expr.specs.Form.{Form, Num, Named, Local, Prefixed, Joined, Compared}
use Rattle.dt_expr.specs.declared.operators.BinaryOp.{BinaryOp}
use Rattle.dt_expr.specs.declared.operators.UnaryOp.{UnaryOp}
use Rattle.dt_expr.specs.declared.operators.TextOp.{TextOp}
use Rattle.dt_expr.specs.declared.text.Text.{Text}
use Rattle.dt_lang.specs.declared.token.Sign.{Sign}
use Rattle.dt_lang.specs.declared.token.Sign.TheVariants as sign
use Rattle.dt_lang.specs.declared.token.Token.{Token}
use Rattle.dt_lang.specs.declared.token.Token.TheVariants as token
use Rattle.dt_lang.specs.declared.word.Keyword.TheVariants as keyword
use Rattle.dt_lang.specs.declared.word.Word.{Word}
use Rattle.dt_lang.specs.declared.word.Word.TheVariants as word
use Rattle.dt_lang.specs.Word.{word_bytes}
use Rattle.dt_lang.specs.Expression.{binding, OPERAND, comparison_of, EQUALITY, text_token, IsOperator, ReadsExpr}
use Rattle.dt_lang.specs.Expression.{a_number, a_variable, a_local, thread_local, prefixed, grouped, compared, looser, joined}
use Rattle.dt_lang.specs.machine.ExpressionState.{PendingForm, opened, before, after, nothing, self_read, arrow_read, whole, lone, compares, level_next}
use Rattle.dt_lang.specs.machine.ExpressionState.{Closed, close, state, wait, leave, step, run}
use Rattle.dt_lang.specs.laws.ExpressionSteps.{run_more, run_step, run_one, binding-lt, close_stays, close_ends}
use Rattle.dt_lang.specs.laws.ExpressionSteps.{begins_sign, begins_text, follows, leaves}

-- The tokens are read after what is pending, and what is at hand then is to all that comes as the form alone.
pub record Arrives (divides : Bool) (pending : List PendingForm) (level : ℕ) (f : Form) (ts : List Token) : Type 0 where
  pub waiting : List PendingForm
  pub bound : ℕ
  pub form : Form
  pub runs : run (state divides pending nothing) ts ≡ Some (state divides waiting (whole bound form))
  pub tight : level ≤ bound
  pub same : (l : ℕ) → l ≤ level → close l waiting form ≡ close l pending f

arrives_alone : (divides : Bool) (pending : List PendingForm) (f : Form) (t : Token)
    → step (state divides pending nothing) t ≡ Some (state divides pending (whole OPERAND f))
    → Arrives divides pending OPERAND f (t ∷ [])
arrives_alone divides pending f t h = record {
  waiting = pending;
  bound = OPERAND;
  form = f;
  runs = run_one (state divides pending nothing) t ∙ h;
  tight = omega arith;
  same = λ l k. refl;
}

arrives_local : (divides : Bool) (pending : List PendingForm) (w : Word) (name : List ℕ) → word_bytes w ≡ Some name
    → Arrives divides pending OPERAND (Local name)
    (token.Word (word.Keyword keyword.ThreadLocal) ∷ token.Sign sign.Arrow ∷ token.Word w ∷ [])
unfolding step
arrives_local divides pending w name e = record {
  waiting = pending;
  bound = OPERAND;
  form = Local name;
  runs =
      let begun = state divides pending self_read in
      let pointed = state divides pending arrow_read in
      run_step (state divides pending nothing) begun _ (token.Sign sign.Arrow ∷ token.Word w ∷ []) refl
      ∙ run_step begun pointed _ (token.Word w ∷ []) refl ∙ run_one pointed (token.Word w)
      ∙ ap (option_map (λ (x : List ℕ). state divides pending (whole OPERAND (Local x)))) e;
  tight = omega arith;
  same = λ l k. refl;
}

arrives_prefixed : (divides : Bool) (pending : List PendingForm) (s : Sign) (op : UnaryOp) (ts : List Token) (f : Form)
    → step (state divides pending nothing) (token.Sign s) ≡ Some (state divides (before op ∷ pending) nothing)
    → Arrives divides (before op ∷ pending) OPERAND f ts
    → Arrives divides pending OPERAND (Prefixed op f) (token.Sign s ∷ ts)
arrives_prefixed divides pending s op ts f h a = record {
  waiting = a.waiting;
  bound = a.bound;
  form = a.form;
  runs = run_step (state divides pending nothing) (state divides (before op ∷ pending) nothing) (token.Sign s) ts h
      ∙ a.runs;
  tight = a.tight;
  same = λ l k. a.same l k ∙ close_ends l (before op) pending f refl;
}

arrives_grouped : (divides : Bool) (pending : List PendingForm) (ts : List Token) (f : Form)
    → Arrives true (opened divides ∷ pending) 0 f ts
    → Arrives divides pending OPERAND f (token.Sign sign.OpenParen ∷ (ts ++ (token.Sign sign.CloseParen ∷ [])))
unfolding step
arrives_grouped divides pending ts f a = record {
  waiting = pending;
  bound = OPERAND;
  form = f;
  runs =
      let within = state true (opened divides ∷ pending) nothing in
      let ended = state true a.waiting (whole a.bound a.form) in
      let closing = token.Sign sign.CloseParen in
      run_step (state divides pending nothing) within (token.Sign sign.OpenParen) (ts ++ (closing ∷ [])) refl
      ∙ run_more within ended ts (closing ∷ []) a.runs ∙ run_one ended closing
      ∙ leaves true a.waiting a.bound a.form
      ∙ ap (λ (c : Closed). leave c.pending c.form)
      (a.same 0 (omega arith) ∙ close_stays 0 (opened divides ∷ pending) f (omega arith) (omega arith));
  tight = omega arith;
  same = λ l k. refl;
}

arrives_compared : (divides : Bool) (pending : List PendingForm) (s : Sign) (op : TextOp) (left right : Token)
    (a b : Text) → comparison_of s ≡ Some op → text_token left ≡ Some a → text_token right ≡ Some b
    → level_next pending ≤ EQUALITY → Arrives divides pending EQUALITY (Compared op a b)
    (left ∷ token.Sign s ∷ right ∷ [])
unfolding step
arrives_compared divides pending s op left right a b h k m n = record {
  waiting = pending;
  bound = EQUALITY;
  form = Compared op a b;
  runs =
      let held = state divides pending (lone a) in
      let next = state divides pending (compares op a) in
      run_step (state divides pending nothing) held left (token.Sign s ∷ right ∷ [])
      (begins_text divides pending left a k
      ∙ ap (λ (x : Bool). if x then Some held else None) (le-leb (level_next pending) EQUALITY n))
      ∙ run_step held next (token.Sign s) (right ∷ [])
      (ap (option_map (λ (o : TextOp). state divides pending (compares o a))) h)
      ∙ run_one next right
      ∙ ap (option_map (λ (x : Text). state divides pending (whole EQUALITY (Compared op a x)))) m;
  tight = omega arith;
  same = λ l k. refl;
}

arrives_joined : (divides : Bool) (pending : List PendingForm) (s : Sign) (op : BinaryOp) (ts us : List Token)
    (f g : Form) → IsOperator divides s op → level_next pending ≤ binding op → Arrives divides pending (binding op) f ts
    → Arrives divides (after f op ∷ pending) (binding op + 1) g us
    → Arrives divides pending (binding op) (Joined op f g) (ts ++ (token.Sign s ∷ us))
arrives_joined divides pending s op ts us f g h k a b = record {
  waiting = b.waiting;
  bound = b.bound;
  form = b.form;
  runs =
      let held = state divides a.waiting (whole a.bound a.form) in
      run_more (state divides pending nothing) held ts (token.Sign s ∷ us) a.runs
      ∙ run_step held (state divides (after f op ∷ pending) nothing) (token.Sign s) us
      (follows divides a.waiting a.bound a.form s op h a.tight
      ∙ ap (λ (c : Closed). Some (wait divides c op))
      (a.same (binding op) (omega arith) ∙ close_stays (binding op) pending f k (binding-lt op)))
      ∙ b.runs;
  tight = omega arith;
  same = λ l m. b.same l (omega arith) ∙ close_ends l (after f op) pending g (le-leb l (binding op) m);
}

pub arrives : {divides : Bool} {level : ℕ} {ts : List Token} {f : Form} → ReadsExpr divides level ts f
    → (pending : List PendingForm) → level_next pending ≤ level → Arrives divides pending level f ts
unfolding step
arrives (a_number divides z) pending h = arrives_alone divides pending (Num z) (token.Number z) refl
arrives (a_variable divides v) pending h = arrives_alone divides pending (Named v) _ refl
arrives (thread_local divides _ _ (a_local w name e)) pending h = arrives_local divides pending w name e
arrives (prefixed divides s op ts f p e) pending h =
    arrives_prefixed divides pending s op ts f (begins_sign divides pending s op p)
    (arrives e (before op ∷ pending) (omega arith))
arrives (grouped divides ts f e) pending h =
    arrives_grouped divides pending ts f (arrives e (opened divides ∷ pending) (omega arith))
arrives (compared divides s op left right a b p q r) pending h =
    arrives_compared divides pending s op left right a b p q r h
arrives (looser divides level ts f k e) pending h =
    let a = arrives e pending (omega arith) in
    record {
      waiting = a.waiting;
      bound = a.bound;
      form = a.form;
      runs = a.runs;
      tight = omega arith;
      same = λ l k. a.same l (omega arith);
    }
arrives (joined divides s op ts us f g p e r) pending h =
    arrives_joined divides pending s op ts us f g p h (arrives e pending h)
    (arrives r (after f op ∷ pending) (omega arith))
