-- What is read as an expression is one.
use Rattle.std.proofs.Common.{◌≡◌, ℕ, zero, suc, ◌+◌, ◌-◌, ◌≤◌, leb, Bool, true, false, if◌then◌else◌, List, [], ◌∷◌}
use Rattle.std.proofs.Common.{◌++◌, Option, Some, None, option_map, option_and_then, IfSome, refl, sym, ap, ◌∙◌, subst}
use Rattle.std.proofs.Common.{arith, leb-true, leb-false, append_assoc, append-nil, add-zero}
use Rattle.dt_expr.specs.Form.{Form, Num, Named, Local, Prefixed, Joined, Compared}
use Rattle.dt_expr.specs.declared.operators.BinaryOp.{BinaryOp}
use Rattle.dt_expr.specs.declared.operators.UnaryOp.{UnaryOp}
use Rattle.dt_expr.specs.declared.operators.TextOp.{TextOp}
use Rattle.dt_expr.specs.declared.text.Text.{Text}
use Rattle.dt_lang.specs.declared.token.Sign.{Sign}
use Rattle.dt_lang.specs.declared.token.Sign.TheVariants as sign
use Rattle.dt_lang.specs.declared.token.Token.{Token}
use Rattle.dt_lang.specs.declared.token.Token.TheVariants as token
use Rattle.dt_lang.specs.declared.word.Keyword.TheVariants as keyword
use Rattle.dt_lang.specs.declared.word.Word.{Word}
use Rattle.dt_lang.specs.declared.word.Word.TheVariants as word
use Rattle.dt_lang.specs.Word.{word_bytes}
use Rattle.dt_lang.specs.Expression.{prefix_of, binding, OPERAND, comparison_of, EQUALITY, text_token, IsOperator}
use Rattle.dt_lang.specs.Expression.{ReadsExpr, a_number, a_variable, a_local, thread_local, prefixed, grouped, compared, looser, joined}
use Rattle.dt_lang.specs.machine.ExpressionState.{PendingForm, opened, before, after, HandForm, nothing, self_read, arrow_read, whole, lone, compares}
use Rattle.dt_lang.specs.machine.ExpressionState.{State, level_next, Closed, close, state, start, begin_sign, begin_text, begin}
use Rattle.dt_lang.specs.machine.ExpressionState.{operator_in, wait, join, leave, follow_sign, follow, point, name_variable, compare, step_from, step}
use Rattle.dt_lang.specs.machine.ExpressionState.{run}
use Rattle.dt_lang.specs.laws.ExpressionSteps.{binding-lt, operator_is}

-- These tokens lead to what is pending. `outer` is whether `/` divided at first.
abbrev pub Waits : (outer divides : Bool) → List PendingForm → List Token → Type 0
Waits outer divides [] ts = (divides ≡ outer) × (ts ≡ [])
Waits outer divides (opened outside ∷ pending) ts =
    (front : List Token) × (divides ≡ true) × (ts ≡ front ++ (token.Sign sign.OpenParen ∷ []))
    × Waits outer outside pending front
Waits outer divides (before op ∷ pending) ts =
    (front : List Token) × (s : Sign) × (prefix_of s ≡ Some op) × (ts ≡ front ++ (token.Sign s ∷ []))
    × Waits outer divides pending front
Waits outer divides (after left op ∷ pending) ts =
    (front : List Token) × (s : Sign) × (us : List Token) × IsOperator divides s op × (level_next pending ≤ binding op)
    × ReadsExpr divides (binding op) us left × (ts ≡ front ++ (us ++ (token.Sign s ∷ [])))
    × Waits outer divides pending front

-- These tokens lead to what is pending, and then are an expression that binds tightly enough for what waits.
pub record HoldsWhole (outer divides : Bool) (pending : List PendingForm) (level : ℕ) (f : Form) (ts : List Token)
    : Type 0 where
  pub front : List Token
  pub us : List Token
  pub waits : Waits outer divides pending front
  pub loose : level_next pending ≤ level
  pub bound : level ≤ OPERAND
  pub reads : ReadsExpr divides level us f
  pub tokens : ts ≡ front ++ us

-- These tokens lead to what is pending, and then stand these of a thread-local variable.
pub record HoldsLocal (outer divides : Bool) (pending : List PendingForm) (tail ts : List Token) : Type 0 where
  pub front : List Token
  pub waits : Waits outer divides pending front
  pub tokens : ts ≡ front ++ tail

pub record HoldsText (outer divides : Bool) (pending : List PendingForm) (a : Text) (ts : List Token) : Type 0 where
  pub front : List Token
  pub t : Token
  pub waits : Waits outer divides pending front
  pub loose : level_next pending ≤ EQUALITY
  pub is_text : text_token t ≡ Some a
  pub tokens : ts ≡ front ++ (t ∷ [])

pub record HoldsCompare (outer divides : Bool) (pending : List PendingForm) (op : TextOp) (a : Text) (ts : List Token)
    : Type 0 where
  pub front : List Token
  pub t : Token
  pub s : Sign
  pub waits : Waits outer divides pending front
  pub loose : level_next pending ≤ EQUALITY
  pub is_text : text_token t ≡ Some a
  pub is_comparison : comparison_of s ≡ Some op
  pub tokens : ts ≡ front ++ (t ∷ token.Sign s ∷ [])

abbrev pub Holds : (outer divides : Bool) → List PendingForm → HandForm → List Token → Type 0
Holds outer divides pending nothing ts = Waits outer divides pending ts
Holds outer divides pending self_read ts =
    HoldsLocal outer divides pending (token.Word (word.Keyword keyword.ThreadLocal) ∷ []) ts
Holds outer divides pending arrow_read ts =
    HoldsLocal outer divides pending (token.Word (word.Keyword keyword.ThreadLocal) ∷ token.Sign sign.Arrow ∷ []) ts
Holds outer divides pending (whole level f) ts = HoldsWhole outer divides pending level f ts
Holds outer divides pending (lone a) ts = HoldsText outer divides pending a ts
Holds outer divides pending (compares op a) ts = HoldsCompare outer divides pending op a ts

-- These tokens lead to this state.
abbrev pub Reaches : (outer : Bool) → List Token → State → Type 0
Reaches outer ts s = Holds outer s.divides s.pending s.hand ts

pub level_next-le : (pending : List PendingForm) → level_next pending ≤ OPERAND
level_next-le [] = omega arith
level_next-le (opened outside ∷ pending) = omega arith
level_next-le (before op ∷ pending) = omega arith
level_next-le (after left op ∷ pending) = omega (arith, binding-lt op)

-- what binds more tightly binds so tightly
loosen_by : (n level : ℕ) {divides : Bool} {ts : List Token} {f : Form} → ReadsExpr divides (level + n) ts f
    → level + n ≤ OPERAND → ReadsExpr divides level ts f
loosen_by zero level {divides} {ts} {f} r h =
    subst (λ (k : ℕ). ReadsExpr divides k ts f) (add-zero level) r
loosen_by (suc n) level {divides} {ts} {f} r h =
    let e : level + suc n ≡ level + 1 + n = omega arith in
    looser divides level ts f (omega arith)
    (loosen_by n (level + 1) (subst (λ (k : ℕ). ReadsExpr divides k ts f) e r) (omega arith))

pub loosen : (level bound : ℕ) {divides : Bool} {ts : List Token} {f : Form} → ReadsExpr divides bound ts f
    → level ≤ bound → bound ≤ OPERAND → ReadsExpr divides level ts f
loosen level bound {divides} {ts} {f} r h k =
    let e : bound ≡ level + (bound - level) = omega arith in
    loosen_by (bound - level) level (subst (λ (n : ℕ). ReadsExpr divides n ts f) e r) (omega arith)

-- These tokens lead to what is left when all is ended that binds so tightly.
pub record ClosesTo (outer divides : Bool) (level : ℕ) (ts : List Token) (c : Closed) : Type 0 where
  pub front : List Token
  pub us : List Token
  pub waits : Waits outer divides c.pending front
  pub loose : level_next c.pending ≤ level
  pub reads : ReadsExpr divides level us c.form
  pub tokens : ts ≡ front ++ us

same_tokens : {outer divides : Bool} {level : ℕ} {ts us : List Token} {c : Closed} → ts ≡ us
    → ClosesTo outer divides level us c → ClosesTo outer divides level ts c
same_tokens e h = record {
  front = h.front;
  us = h.us;
  waits = h.waits;
  loose = h.loose;
  reads = h.reads;
  tokens = e ∙ h.tokens;
}

pub close_reads : (outer divides : Bool) (level bound : ℕ) (pending : List PendingForm) (f : Form)
    (front us : List Token) → Waits outer divides pending front → level_next pending ≤ bound → level ≤ bound
    → bound ≤ OPERAND → ReadsExpr divides bound us f
    → ClosesTo outer divides level (front ++ us) (close level pending f)
unfolding close
close_reads outer divides level bound [] f front us w h k b r =
    record { front = front; us = us; waits = w; loose = omega arith; reads = loosen level bound r k b; tokens = refl }
close_reads outer divides level bound (opened outside ∷ pending) f front us w h k b r =
    record { front = front; us = us; waits = w; loose = omega arith; reads = loosen level bound r k b; tokens = refl }
close_reads outer divides level bound (before op ∷ pending) f front us (ts, s, p, e, w) h k b r =
    let tight : bound ≡ OPERAND = omega arith in
    let whole = prefixed divides s op us f p (subst (λ (n : ℕ). ReadsExpr divides n us f) tight r) in
    same_tokens
    (ap (λ (x : List Token). x ++ us) e ∙ append_assoc ts (token.Sign s ∷ []) us)
    (close_reads outer divides level OPERAND pending (Prefixed op f) ts (token.Sign s ∷ us) w (level_next-le pending)
    (omega arith) (omega arith) whole)
close_reads outer divides level bound (after left op ∷ pending) f front us (ts, s, vs, i, n, l, e, w) h k b r =
    go (leb level (binding op)) refl
    (λ m. close_reads outer divides level (binding op) pending (Joined op left f) ts (vs ++ (token.Sign s ∷ us)) w n m
    (omega (arith, binding-lt op)) (joined divides s op vs us left f i l (loosen (binding op + 1) bound r h b)))
  where
    tokens : front ++ us ≡ ts ++ (vs ++ (token.Sign s ∷ us))
    tokens = ap (λ (x : List Token). x ++ us) e ∙ simp append_assoc

    go : (x : Bool) → leb level (binding op) ≡ x
        → (level ≤ binding op → ClosesTo outer divides level (ts ++ (vs ++ (token.Sign s ∷ us)))
        (close level pending (Joined op left f)))
        → ClosesTo outer divides level (front ++ us)
        (if x then close level pending (Joined op left f) else record { pending = after left op ∷ pending; form = f })
    go true q c = same_tokens tokens (c (leb-true level (binding op) q))
    go false q c = let m = leb-false level (binding op) q in
        record {
          front = front;
          us = us;
          waits = (ts, s, vs, i, n, l, e, w);
          loose = omega arith;
          reads = loosen level bound r k b;
          tokens = refl;
        }

-- an operand alone is at hand
holds_alone : (outer divides : Bool) (pending : List PendingForm) (f : Form) (t : Token) (ts : List Token)
    → ReadsExpr divides OPERAND (t ∷ []) f → Waits outer divides pending ts
    → Holds outer divides pending (whole OPERAND f) (ts ++ (t ∷ []))
holds_alone outer divides pending f t ts r w =
    record {
      front = ts;
      us = t ∷ [];
      waits = w;
      loose = level_next-le pending;
      bound = omega arith;
      reads = r;
      tokens = refl;
    }

-- what holds of each state that a step leads to
abbrev pub Leads : (outer : Bool) → List Token → Option State → Type 0
Leads outer ts next = IfSome next (Reaches outer ts)

begin_text_holds : (outer divides : Bool) (pending : List PendingForm) (t : Token) (a : Text) (ts : List Token)
    → text_token t ≡ Some a → Waits outer divides pending ts
    → Leads outer (ts ++ (t ∷ [])) (begin_text divides pending a)
begin_text_holds outer divides pending t a ts h w = go (leb (level_next pending) EQUALITY) refl
  where
    go : (x : Bool) → leb (level_next pending) EQUALITY ≡ x
        → Leads outer (ts ++ (t ∷ [])) (if x then Some (state divides pending (lone a)) else None)
    go true q = record {
      front = ts;
      t = t;
      waits = w;
      loose = leb-true (level_next pending) EQUALITY q;
      is_text = h;
      tokens = refl;
    }
    go false q = tt

before_holds : (outer divides : Bool) (pending : List PendingForm) (s : Sign) (ts : List Token)
    → Waits outer divides pending ts
    → Leads outer (ts ++ (token.Sign s ∷ []))
    (option_map (λ op. state divides (before op ∷ pending) nothing) (prefix_of s))
before_holds outer divides pending s ts w = go (prefix_of s) refl
  where
    go : (o : Option UnaryOp) → prefix_of s ≡ o
        → Leads outer (ts ++ (token.Sign s ∷ [])) (option_map (λ op. state divides (before op ∷ pending) nothing) o)
    go None q = tt
    go (Some op) q = (ts, s, q, refl, w)

begin_sign_holds : (outer divides : Bool) (pending : List PendingForm) (s : Sign) (ts : List Token)
    → Waits outer divides pending ts → Leads outer (ts ++ (token.Sign s ∷ [])) (begin_sign divides pending s)
begin_sign_holds outer divides pending sign.OpenParen ts w = (ts, refl, refl, w)
begin_sign_holds outer divides pending s ts w = before_holds outer divides pending s ts w

begin_holds : (outer divides : Bool) (pending : List PendingForm) (t : Token) (ts : List Token)
    → Waits outer divides pending ts → Leads outer (ts ++ (t ∷ [])) (begin divides pending t)
begin_holds outer divides pending (token.Number z) ts w =
    holds_alone outer divides pending (Num z) (token.Number z) ts (a_number divides z) w
begin_holds outer divides pending (token.Word (word.Number v)) ts w =
    holds_alone outer divides pending (Named v) (token.Word (word.Number v)) ts (a_variable divides v) w
begin_holds outer divides pending (token.Word (word.Text v)) ts w =
    begin_text_holds outer divides pending (token.Word (word.Text v)) _ ts refl w
begin_holds outer divides pending (token.String bytes) ts w =
    begin_text_holds outer divides pending (token.String bytes) _ ts refl w
begin_holds outer divides pending (token.Word (word.Keyword keyword.ThreadLocal)) ts w =
    record { front = ts; waits = w; tokens = refl }
begin_holds outer divides pending (token.Sign s) ts w = begin_sign_holds outer divides pending s ts w
begin_holds outer divides pending _ ts w = tt

point_holds : (outer divides : Bool) (pending : List PendingForm) (t : Token) (ts : List Token)
    → Holds outer divides pending self_read ts → Leads outer (ts ++ (t ∷ [])) (point divides pending t)
point_holds outer divides pending (token.Sign sign.Arrow) ts h = record {
  front = h.front;
  waits = h.waits;
  tokens = ap (λ (x : List Token). x ++ (token.Sign sign.Arrow ∷ [])) h.tokens ∙ append_assoc h.front _ _;
}
point_holds outer divides pending _ ts h = tt

name_word_holds : (outer divides : Bool) (pending : List PendingForm) (w : Word) (ts : List Token)
    → Holds outer divides pending arrow_read ts
    → Leads outer (ts ++ (token.Word w ∷ [])) (name_variable divides pending (token.Word w))
name_word_holds outer divides pending w ts h = go (word_bytes w) refl
  where
    go : (o : Option (List ℕ)) → word_bytes w ≡ o
        → Leads outer (ts ++ (token.Word w ∷ []))
        (option_map (λ name. state divides pending (whole OPERAND (Local name))) o)
    go None q = tt
    go (Some name) q = record {
      front = h.front;
      us = token.Word (word.Keyword keyword.ThreadLocal) ∷ token.Sign sign.Arrow ∷ token.Word w ∷ [];
      waits = h.waits;
      loose = level_next-le pending;
      bound = omega arith;
      reads = thread_local divides _ name (a_local w name q);
      tokens = ap (λ (x : List Token). x ++ (token.Word w ∷ [])) h.tokens ∙ append_assoc h.front _ _;
    }

name_holds : (outer divides : Bool) (pending : List PendingForm) (t : Token) (ts : List Token)
    → Holds outer divides pending arrow_read ts → Leads outer (ts ++ (t ∷ [])) (name_variable divides pending t)
name_holds outer divides pending (token.Word w) ts h = name_word_holds outer divides pending w ts h
name_holds outer divides pending _ ts h = tt

leave_holds : (outer divides : Bool) (pending : List PendingForm) (f : Form) (ts front us : List Token)
    → Waits outer divides pending front → ReadsExpr divides 0 us f → ts ≡ front ++ us
    → Leads outer (ts ++ (token.Sign sign.CloseParen ∷ [])) (leave pending f)
leave_holds outer divides [] f ts front us w r e = tt
leave_holds outer divides (opened outside ∷ pending) f ts front us (begin_tokens, d, q, w) r e =
    record {
      front = begin_tokens;
      us = token.Sign sign.OpenParen ∷ (us ++ (token.Sign sign.CloseParen ∷ []));
      waits = w;
      loose = level_next-le pending;
      bound = omega arith;
      reads = grouped outside us f (subst (λ (x : Bool). ReadsExpr x 0 us f) d r);
      tokens = ap (λ (x : List Token). x ++ (token.Sign sign.CloseParen ∷ []))
          (e ∙ ap (λ (x : List Token). x ++ us) q)
          ∙ simp append_assoc;
    }
leave_holds outer divides (_ ∷ pending) f ts front us w r e = tt

join_holds : (outer divides : Bool) (pending : List PendingForm) (level : ℕ) (f : Form) (s : Sign) (ts : List Token)
    → HoldsWhole outer divides pending level f ts
    → Leads outer (ts ++ (token.Sign s ∷ []))
    (option_and_then (join divides pending level f) (operator_in divides s))
join_holds outer divides pending level f s ts h = go (operator_in divides s) refl
  where
    test : (op : BinaryOp) → operator_in divides s ≡ Some op → (x : Bool) → leb (binding op) level ≡ x
        → Leads outer (ts ++ (token.Sign s ∷ []))
        (if x then Some (wait divides (close (binding op) pending f) op) else None)
    test op q false k = tt
    test op q true k =
        let c = close_reads outer divides (binding op) level pending f h.front h.us h.waits h.loose
        (leb-true (binding op) level k) h.bound h.reads in (
          c.front,
          s,
          c.us,
          operator_is divides s op q,
          c.loose,
          c.reads,
          ap (λ (x : List Token). x ++ (token.Sign s ∷ [])) (h.tokens ∙ c.tokens)
              ∙ append_assoc c.front c.us (token.Sign s ∷ []),
          c.waits,
        )

    go : (o : Option BinaryOp) → operator_in divides s ≡ o
        → Leads outer (ts ++ (token.Sign s ∷ [])) (option_and_then (join divides pending level f) o)
    go None q = tt
    go (Some op) q = test op q (leb (binding op) level) refl

follow_sign_holds : (outer divides : Bool) (pending : List PendingForm) (level : ℕ) (f : Form) (s : Sign)
    (ts : List Token) → HoldsWhole outer divides pending level f ts
    → Leads outer (ts ++ (token.Sign s ∷ [])) (follow_sign divides pending level f s)
follow_sign_holds outer divides pending level f sign.CloseParen ts h =
    let c = close_reads outer divides 0 level pending f h.front h.us h.waits h.loose (omega arith) h.bound h.reads in
    leave_holds outer divides (close 0 pending f).pending (close 0 pending f).form ts c.front c.us c.waits c.reads
    (h.tokens ∙ c.tokens)
follow_sign_holds outer divides pending level f s ts h = join_holds outer divides pending level f s ts h

follow_holds : (outer divides : Bool) (pending : List PendingForm) (level : ℕ) (f : Form) (t : Token) (ts : List Token)
    → HoldsWhole outer divides pending level f ts → Leads outer (ts ++ (t ∷ [])) (follow divides pending level f t)
follow_holds outer divides pending level f (token.Sign s) ts h = follow_sign_holds outer divides pending level f s ts h
follow_holds outer divides pending level f _ ts h = tt

compare_holds : (outer divides : Bool) (pending : List PendingForm) (a : Text) (t : Token) (ts : List Token)
    → HoldsText outer divides pending a ts → Leads outer (ts ++ (t ∷ [])) (compare divides pending a t)
compare_holds outer divides pending a (token.Sign s) ts h = go (comparison_of s) refl
  where
    go : (o : Option TextOp) → comparison_of s ≡ o
        → Leads outer (ts ++ (token.Sign s ∷ [])) (option_map (λ op. state divides pending (compares op a)) o)
    go None q = tt
    go (Some op) q = record {
      front = h.front;
      t = h.t;
      s = s;
      waits = h.waits;
      loose = h.loose;
      is_text = h.is_text;
      is_comparison = q;
      tokens = ap (λ (x : List Token). x ++ (token.Sign s ∷ [])) h.tokens
          ∙ append_assoc h.front (h.t ∷ []) (token.Sign s ∷ []);
    }
compare_holds outer divides pending a _ ts h = tt

second_holds : (outer divides : Bool) (pending : List PendingForm) (op : TextOp) (a : Text) (t : Token) (ts : List Token)
    → HoldsCompare outer divides pending op a ts
    → Leads outer (ts ++ (t ∷ []))
    (option_map (λ b. state divides pending (whole EQUALITY (Compared op a b))) (text_token t))
second_holds outer divides pending op a t ts h = go (text_token t) refl
  where
    go : (o : Option Text) → text_token t ≡ o
        → Leads outer (ts ++ (t ∷ [])) (option_map (λ b. state divides pending (whole EQUALITY (Compared op a b))) o)
    go None q = tt
    go (Some b) q = record {
      front = h.front;
      us = h.t ∷ token.Sign h.s ∷ t ∷ [];
      waits = h.waits;
      loose = h.loose;
      bound = omega arith;
      reads = compared divides h.s op h.t t a b h.is_comparison h.is_text q;
      tokens = ap (λ (x : List Token). x ++ (t ∷ [])) h.tokens
          ∙ append_assoc h.front (h.t ∷ token.Sign h.s ∷ []) (t ∷ []);
    }

step_from_holds : (outer divides : Bool) (pending : List PendingForm) (hand : HandForm) (t : Token) (ts : List Token)
    → Holds outer divides pending hand ts → Leads outer (ts ++ (t ∷ [])) (step_from divides pending hand t)
step_from_holds outer divides pending nothing t ts h = begin_holds outer divides pending t ts h
step_from_holds outer divides pending self_read t ts h = point_holds outer divides pending t ts h
step_from_holds outer divides pending arrow_read t ts h = name_holds outer divides pending t ts h
step_from_holds outer divides pending (whole level f) t ts h = follow_holds outer divides pending level f t ts h
step_from_holds outer divides pending (lone a) t ts h = compare_holds outer divides pending a t ts h
step_from_holds outer divides pending (compares op a) t ts h = second_holds outer divides pending op a t ts h

-- a token leads from what its forerunners lead to
pub step_holds : (outer : Bool) (s : State) (t : Token) (ts : List Token) → Reaches outer ts s
    → Leads outer (ts ++ (t ∷ [])) (step s t)
unfolding step
step_holds outer s t ts h = step_from_holds outer s.divides s.pending s.hand t ts h

run_holds : (outer : Bool) (s : State) (ts us : List Token) → Reaches outer ts s → Leads outer (ts ++ us) (run s us)
unfolding run
run_holds outer s ts [] h = subst (λ (x : List Token). Reaches outer x s) (sym (append-nil ts)) h
run_holds outer s ts (t ∷ us) h = go (step s t) (step_holds outer s t ts h)
    (λ next k. subst (λ (x : List Token). Leads outer x (run next us)) (append_assoc ts (t ∷ []) us)
    (run_holds outer next (ts ++ (t ∷ [])) us k))
  where
    go : (o : Option State) → Leads outer (ts ++ (t ∷ [])) o
        → ((next : State) → Reaches outer (ts ++ (t ∷ [])) next → Leads outer (ts ++ (t ∷ us)) (run next us))
        → Leads outer (ts ++ (t ∷ us)) (option_and_then (λ next. run next us) o)
    go None k rest = tt
    go (Some next) k rest = rest next k

-- what the tokens lead to from the start, they lead to by the grammar
pub run_reaches : (outer : Bool) (s : State) (ts : List Token) → run (start outer) ts ≡ Some s → Reaches outer ts s
run_reaches outer s ts h =
    let all : Leads outer ts (run (start outer) ts) = run_holds outer (start outer) [] ts (refl, refl) in
    subst (Leads outer ts) h all
