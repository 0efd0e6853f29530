-- The steps of reading an expression, one by one.
use Rattle.std.proofs.Common.{◌≡◌, ℕ, ◌<◌, ◌≤◌, leb, Bool, true, false, if◌then◌else◌, List, [], ◌∷◌, ◌++◌, Option}
use Rattle.std.proofs.Common.{Some, None, option_map, option_and_then, refl, ap, ◌∙◌, arith, le-leb}
use Rattle.std.proofs.lemmas.Bool.{lt-leb}
use Rattle.dt_expr.specs.Form.{Form, Joined}
use Rattle.dt_expr.specs.declared.operators.BinaryOp.{BinaryOp}
use Rattle.dt_expr.specs.declared.operators.BinaryOp.TheVariants as binary
use Rattle.dt_expr.specs.declared.operators.UnaryOp.{UnaryOp}
use Rattle.dt_expr.specs.declared.text.Text.{Text}
use Rattle.dt_lang.specs.declared.token.Sign.{Sign}
use Rattle.dt_lang.specs.declared.token.Sign.TheVariants as sign
use Rattle.dt_lang.specs.declared.token.Token.{Token}
use Rattle.dt_lang.specs.declared.token.Token.TheVariants as token
use Rattle.dt_lang.specs.declared.word.Word.TheVariants as word
use Rattle.dt_lang.specs.Expression.{prefix_of, binding, OPERAND, text_token, IsOperator}
use Rattle.dt_lang.specs.machine.ExpressionState.{PendingForm, opened, before, after, nothing, whole, State, level_next, binds}
use Rattle.dt_lang.specs.machine.ExpressionState.{around, close, state, begin_text, operator_in, wait, join, leave, step, run}

-- going on is going on
pub run-append : (s : State) (ts us : List Token) → run s (ts ++ us)
    ≡ option_and_then (λ next. run next us) (run s ts)
unfolding run
run-append s [] us = refl
run-append s (t ∷ ts) us = go (step s t) (λ next. run-append next ts us)
  where
    go : (o : Option State) → ((next : State) → run next (ts ++ us) ≡ option_and_then (λ n. run n us) (run next ts))
        → option_and_then (λ next. run next (ts ++ us)) o
        ≡ option_and_then (λ n. run n us) (option_and_then (λ next. run next ts) o)
    go None h = refl
    go (Some next) h = h next

-- tokens that are read, and then more
pub run_more : (s next : State) (ts us : List Token) → run s ts ≡ Some next → run s (ts ++ us) ≡ run next us
run_more s next ts us h = run-append s ts us ∙ ap (option_and_then (λ (n : State). run n us)) h

-- a token that is read, and then more
pub run_step : (s next : State) (t : Token) (us : List Token) → step s t ≡ Some next → run s (t ∷ us) ≡ run next us
unfolding run
run_step s next t us h = ap (option_and_then (λ (n : State). run n us)) h

pub run_one : (s : State) (t : Token) → run s (t ∷ []) ≡ step s t
unfolding run
run_one s t = go (step s t)
  where
    go : (o : Option State) → option_and_then (λ (n : State). Some n) o ≡ o
    go None = refl
    go (Some n) = refl

-- each operator binds looser than an operand
pub binding-lt : (op : BinaryOp) → binding op < OPERAND
binding-lt binary.Or = omega arith
binding-lt _ = omega arith

-- what binds looser stays pending
pub close_stays : (level : ℕ) (pending : List PendingForm) (f : Form) → level_next pending ≤ level → level < OPERAND
    → close level pending f ≡ record { pending = pending; form = f }
unfolding close
close_stays level [] f h k = refl
close_stays level (opened divides ∷ pending) f h k = refl
close_stays level (before op ∷ pending) f h k = absurd (omega arith)
close_stays level (after left op ∷ pending) f h k =
    let loose : leb level (binding op) ≡ false = lt-leb level (binding op) (omega arith) in
    ap (λ (b : Bool). if b then close level pending (Joined op left f)
    else record { pending = after left op ∷ pending; form = f }) loose

-- what binds so tightly is ended
pub close_ends : (level : ℕ) (top : PendingForm) (pending : List PendingForm) (f : Form) → binds level top ≡ true
    → close level (top ∷ pending) f ≡ close level pending (around top f)
unfolding close
close_ends level top pending f h = ap (λ (b : Bool). if b then close level pending (around top f)
    else record { pending = top ∷ pending; form = f }) h

pub begins_sign : (divides : Bool) (pending : List PendingForm) (s : Sign) (op : UnaryOp) → prefix_of s ≡ Some op
    → step (state divides pending nothing) (token.Sign s) ≡ Some (state divides (before op ∷ pending) nothing)
unfolding step
begins_sign divides pending sign.OpenParen op h = cc
begins_sign divides pending s op h = ap (option_map (λ (o : UnaryOp). state divides (before o ∷ pending) nothing)) h

pub begins_text : (divides : Bool) (pending : List PendingForm) (t : Token) (a : Text) → text_token t ≡ Some a
    → step (state divides pending nothing) t ≡ begin_text divides pending a
unfolding step
begins_text divides pending (token.String bytes) a h = ap (begin_text divides pending) (cc)
begins_text divides pending (token.Word (word.Text v)) a h = ap (begin_text divides pending) (cc)
begins_text divides pending _ a h = cc

pub operator_here : (divides : Bool) (s : Sign) (op : BinaryOp) → IsOperator divides s op
    → operator_in divides s ≡ Some op
operator_here divides sign.Slash op h =
    ap (λ (b : Bool). if b then Some binary.Divide else None) (h.allowed refl) ∙ h.names
operator_here divides s op h = h.names

pub operator_is : (divides : Bool) (s : Sign) (op : BinaryOp) → operator_in divides s ≡ Some op
    → IsOperator divides s op
operator_is true sign.Slash op h = record { names = h; allowed = λ e. refl }
operator_is false sign.Slash op h = cc
operator_is divides s op h = record { names = h; allowed = λ e. cc }

-- an operator goes on with what binds tightly enough
pub joins : (divides : Bool) (pending : List PendingForm) (level : ℕ) (f : Form) (s : Sign) (op : BinaryOp)
    → operator_in divides s ≡ Some op
    → step (state divides pending (whole level f)) (token.Sign s) ≡ join divides pending level f op
unfolding step
joins divides pending level f sign.CloseParen op h = cc
joins divides pending level f s op h = ap (option_and_then (join divides pending level f)) h

pub follows : (divides : Bool) (pending : List PendingForm) (level : ℕ) (f : Form) (s : Sign) (op : BinaryOp)
    → IsOperator divides s op → binding op ≤ level
    → step (state divides pending (whole level f)) (token.Sign s)
    ≡ Some (wait divides (close (binding op) pending f) op)
follows divides pending level f s op h k =
    joins divides pending level f s op (operator_here divides s op h)
    ∙ ap (λ (b : Bool). if b then Some (wait divides (close (binding op) pending f) op) else None)
    (le-leb (binding op) level k)

pub leaves : (divides : Bool) (pending : List PendingForm) (level : ℕ) (f : Form)
    → step (state divides pending (whole level f)) (token.Sign sign.CloseParen)
    ≡ leave (close 0 pending f).pending (close 0 pending f).form
unfolding step
leaves divides pending level f = refl
