-- The laws of reading expressions token by token. `run (start divides) ts` is what the tokens lead to, and `done`
-- what was read there. For all `divides`, states `s` and `next`, tokens `t`, `ts` and `us`, forms `f` and `g`, texts
-- and arguments `a` and `b`:
--
--     complete           ReadsExpr divides 0 ts f → IsRead divides ts (number f)
--     complete_argument  ReadsArgument ts a → IsRead true ts a
--     sound              run (start divides) ts ≡ Some s → done s ≡ Some (number f) → ReadsExpr divides 0 ts f
--     sound_text         run (start divides) ts ≡ Some s → done s ≡ Some (text a) → IsOneText ts a
--     sound_argument     run (start true) ts ≡ Some s → done s ≡ Some a → ReadsArgument ts a
--     viable             run (start divides) ts ≡ Some s → BeginsExpr divides ts
--     ends               run (start divides) ts ≡ Some s → done s ≡ Some a → ends_argument divides t ≡ true
--                        → step s t ≡ None
--     foreign            is_foreign t ≡ true → step s t ≡ None
--     foreign_word       wants s ≡ true → begins_nothing w ≡ true → step s (Word w) ≡ None
--     bang_goes_on       is_some (step s (Sign Bang)) ≡ takes_number s
--     string_goes_on     is_some (step s (String [])) ≡ takes_text s
--     wants_operand      (takes_number s || takes_text s) ≡ wants s
--     waits_undone       wants s ≡ true → done s ≡ None
--     done_wants_none    done s ≡ Some a → wants s ≡ false
--     one_form           ReadsExpr divides 0 ts f → ReadsExpr divides 0 ts g → f ≡ g
--     one_argument       ReadsArgument ts a → ReadsArgument ts b → a ≡ b
--     run-append         run s (ts ++ us) ≡ option_and_then (λ next. run next us) (run s ts)
--     run_refused        run s ts ≡ None → run s (ts ++ us) ≡ None
--     run_beginning      run s (ts ++ us) ≡ Some next → RunsBy s ts us next
--     complete_by        ReadsExpr divides 0 (ts ++ us) f → IsReadBy divides ts us (number f)
--     complete_argument_by   ReadsArgument (ts ++ us) a → IsReadBy true ts us a
--     run_step           step s t ≡ Some next → run s (t ∷ us) ≡ run next us
--     run_more           run s ts ≡ Some next → run s (ts ++ us) ≡ run next us
--     run_one            run s (t ∷ []) ≡ step s t
use Rattle.std.proofs.Common.{◌≡◌, ℕ, leb, Bool, true, false, ◌||◌, if◌then◌else◌, List, [], ◌∷◌, ◌++◌, Option, Some}
use Rattle.std.proofs.Common.{None, is_some, is_none, option_map, option_and_then, refl, sym, ap, ◌∙◌, subst, arith}
use Rattle.std.proofs.Common.{pos}
use Rattle.std.specs.Prelude.{codes}
use Rattle.std.proofs.Math.Dec.{leb-zero}
use Rattle.dt_expr.specs.Form.{Form, Num, Local, Prefixed, Joined, Compared}
use Rattle.dt_expr.specs.declared.operators.TextOp.{TextOp}
use Rattle.dt_expr.specs.declared.operators.TextOp.TheVariants as comparison
use Rattle.dt_expr.specs.declared.scene.TextVariable.TheVariants as variable
use Rattle.dt_expr.specs.declared.text.Text.{Text}
use Rattle.dt_expr.specs.declared.text.Text.TheVariants as operand
use Rattle.dt_lang.specs.declared.token.Sign.{Sign}
use Rattle.dt_lang.specs.declared.token.Sign.TheVariants as sign
use Rattle.dt_lang.specs.declared.token.Token.{Token}
use Rattle.dt_lang.specs.declared.token.Token.TheVariants as token
use Rattle.dt_lang.specs.declared.word.Keyword.TheVariants as keyword
use Rattle.dt_lang.specs.declared.word.Word.{Word}
use Rattle.dt_lang.specs.declared.word.Word.TheVariants as word
use Rattle.dt_lang.specs.Expression.{BeginsExpr, OPERAND, EQUALITY, text_token, comparison_of, ReadsExpr, ReadsArgument}
use Rattle.dt_lang.specs.Expression.{a_text, an_expression}
use Rattle.dt_lang.specs.machine.ExpressionState.{IsRead, IsReadBy, IsOneText, RunsBy, PendingForm, opened, before}
use Rattle.dt_lang.specs.machine.ExpressionState.{after, HandForm, nothing, self_read, arrow_read, whole, lone, compares, State, level_next, Closed}
use Rattle.dt_lang.specs.machine.ExpressionState.{close, state, start, operator_in, join, leave, follow_sign, follow, point, compare}
use Rattle.dt_lang.specs.machine.ExpressionState.{begin_sign, begin, is_foreign_sign, is_foreign, begins_nothing, ends_argument}
use Rattle.dt_lang.specs.machine.ExpressionState.{step, run, number_alone, done_from, done, wants, wants_at, takes_number}
use Rattle.dt_lang.specs.machine.ExpressionState.{takes_number_at, takes_text, takes_text_at, step_from}
use Rattle.dt_program.specs.Clause.{ArgForm, number, text}
use Rattle.dt_lang.specs.laws.ExpressionSteps.{begins_text, leaves, close_ends}
pub use Rattle.dt_lang.specs.laws.ExpressionSteps.{run-append, run_more, run_step, run_one}
use Rattle.dt_lang.specs.laws.ExpressionComplete.{Arrives, arrives}
use Rattle.dt_lang.specs.laws.ExpressionSound.{HoldsWhole, Holds, close_reads, run_reaches, Waits}

pub complete : (divides : Bool) (ts : List Token) (f : Form) → ReadsExpr divides 0 ts f → IsRead divides ts (number f)
unfolding done close
complete divides ts f r =
    let a : Arrives divides [] 0 f ts = arrives r [] (omega arith) in
    record {
      at = state divides a.waiting (whole a.bound a.form);
      runs = a.runs;
      is_done = ap (λ (c : Closed). number_alone c.pending c.form) (a.same 0 (omega arith));
    }

pub complete_argument : (ts : List Token) (a : ArgForm) → ReadsArgument ts a → IsRead true ts a
unfolding done
complete_argument _ _ (a_text t a h) = record {
  at = state true [] (lone a);
  runs = run_one (start true) t ∙ begins_text true [] t a h;
  is_done = refl;
}
complete_argument _ _ (an_expression ts f r) = complete true ts f r

-- what is whole, and what it is read from
Shows : (divides : Bool) → List Token → ArgForm → Type 0
Shows divides ts (number f) = ReadsExpr divides 0 ts f
Shows divides ts (text a) = IsOneText ts a

whole_shows : (outer divides : Bool) (pending : List PendingForm) (ts front us : List Token) (f : Form) (a : ArgForm)
    → Waits outer divides pending front → ReadsExpr divides 0 us f → ts ≡ front ++ us
    → number_alone pending f ≡ Some a → Shows outer ts a
unfolding Shows
whole_shows outer divides [] ts front us f a (d, e) r q h =
    let same : number f ≡ a = cc in
    subst (Shows outer ts) same
    (subst (λ (x : List Token). ReadsExpr outer 0 x f) (sym (q ∙ ap (λ (x : List Token). x ++ us) e))
    (subst (λ (x : Bool). ReadsExpr x 0 us f) d r))
whole_shows outer divides (_ ∷ pending) ts front us f a w r q h = cc

shows_from : (outer divides : Bool) (pending : List PendingForm) (hand : HandForm) (ts : List Token) (a : ArgForm)
    → Holds outer divides pending hand ts → done_from pending hand ≡ Some a → Shows outer ts a
unfolding Shows
shows_from outer divides pending (whole level f) ts a h e =
    let c = close_reads outer divides 0 level pending f h.front h.us h.waits h.loose (omega arith) h.bound h.reads in
    whole_shows outer divides (close 0 pending f).pending ts c.front c.us (close 0 pending f).form a c.waits c.reads
    (h.tokens ∙ c.tokens) e
shows_from outer divides [] (lone b) ts a h e =
    let same : text b ≡ a = cc in
    subst (Shows outer ts) same
    (record { t = h.t; is_text = h.is_text; alone = h.tokens ∙ ap (λ (x : List Token). x ++ (h.t ∷ [])) h.waits.1 })
shows_from outer divides (_ ∷ pending) (lone b) ts a h e = cc
shows_from outer divides pending _ ts a h e = cc

shows : (divides : Bool) (ts : List Token) (s : State) (a : ArgForm) → run (start divides) ts ≡ Some s
    → done s ≡ Some a → Shows divides ts a
unfolding done
shows divides ts s a h e = shows_from divides s.divides s.pending s.hand ts a (run_reaches divides s ts h) e

pub sound : (divides : Bool) (ts : List Token) (s : State) (f : Form) → run (start divides) ts ≡ Some s
    → done s ≡ Some (number f) → ReadsExpr divides 0 ts f
unfolding Shows
sound divides ts s f h e = shows divides ts s (number f) h e

pub sound_text : (divides : Bool) (ts : List Token) (s : State) (a : Text) → run (start divides) ts ≡ Some s
    → done s ≡ Some (text a) → IsOneText ts a
unfolding Shows
sound_text divides ts s a h e = shows divides ts s (text a) h e

pub sound_argument : (ts : List Token) (s : State) (a : ArgForm) → run (start true) ts ≡ Some s → done s ≡ Some a
    → ReadsArgument ts a
sound_argument ts s (number f) h e = an_expression ts f (sound true ts s f h e)
sound_argument ts s (text a) h e =
    let one = sound_text true ts s a h e in
    subst (λ (x : List Token). ReadsArgument x (text a)) (sym one.alone) (a_text one.t a one.is_text)

-- The tokens lead from the state to a whole expression.
record Finishes (s : State) (more : List Token) : Type 0 where
  at : State
  form : Form
  runs : run s more ≡ Some at
  is_done : done at ≡ Some (number form)

-- the closing parentheses that are pending
closing : List PendingForm → List Token
closing [] = []
closing (opened divides ∷ pending) = token.Sign sign.CloseParen ∷ closing pending
closing (_ ∷ pending) = closing pending

finishes : (pending : List PendingForm) (f : Form) (divides : Bool) (waiting : List PendingForm) (level : ℕ) (g : Form)
    → close 0 waiting g ≡ close 0 pending f → Finishes (state divides waiting (whole level g)) (closing pending)
unfolding close closing done run
finishes [] f divides waiting level g e = record {
  at = state divides waiting (whole level g);
  form = f;
  runs = refl;
  is_done = ap (λ (c : Closed). number_alone c.pending c.form) e;
}
finishes (opened outside ∷ pending) f divides waiting level g e =
    let next = state outside pending (whole OPERAND f) in
    let rest = finishes pending f outside pending OPERAND f refl in
    record {
      at = rest.at;
      form = rest.form;
      runs = run_step (state divides waiting (whole level g)) next (token.Sign sign.CloseParen) (closing pending)
          (leaves divides waiting level g ∙ ap (λ (c : Closed). leave c.pending c.form) e) ∙ rest.runs;
      is_done = rest.is_done;
    }
finishes (before op ∷ pending) f divides waiting level g e =
    finishes pending (Prefixed op f) divides waiting level g (e ∙ close_ends 0 (before op) pending f refl)
finishes (after left op ∷ pending) f divides waiting level g e =
    finishes pending (Joined op left f) divides waiting level g
    (e ∙ close_ends 0 (after left op) pending f (leb-zero _))

finishes_first : (s next : State) (t : Token) (more : List Token) → step s t ≡ Some next → Finishes next more
    → Finishes s (t ∷ more)
finishes_first s next t more h rest =
    record { at = rest.at; form = rest.form; runs = run_step s next t more h ∙ rest.runs; is_done = rest.is_done }

a_text_token : Token
a_text_token = token.Word (word.Text variable.Execname)

compares_finishes : (divides : Bool) (pending : List PendingForm) (op : TextOp) (a : Text)
    → Finishes (state divides pending (compares op a)) (a_text_token ∷ closing pending)
unfolding step a_text_token
compares_finishes divides pending op a =
    let form = Compared op a (operand.Variable variable.Execname) in
    finishes_first (state divides pending (compares op a)) (state divides pending (whole EQUALITY form)) _ _ refl
    (finishes pending form divides pending EQUALITY form refl)

-- a variable's name, which is a word that the language knows
arrow_finishes : (divides : Bool) (pending : List PendingForm)
    → Finishes (state divides pending arrow_read) (a_text_token ∷ closing pending)
unfolding step a_text_token
arrow_finishes divides pending =
    let form = Local (codes "execname") in
    finishes_first (state divides pending arrow_read) (state divides pending (whole OPERAND form)) _ _ refl
    (finishes pending form divides pending OPERAND form refl)

-- each state goes on to a whole expression
some_finish : (divides : Bool) (pending : List PendingForm) (hand : HandForm)
    → (more : List Token) × Finishes (state divides pending hand) more
unfolding step
some_finish divides pending nothing = (
  token.Number (pos 0) ∷ closing pending,
  finishes_first (state divides pending nothing) (state divides pending (whole OPERAND (Num (pos 0)))) _ _ refl
      (finishes pending (Num (pos 0)) divides pending OPERAND (Num (pos 0)) refl),
)
some_finish divides pending self_read = (
  token.Sign sign.Arrow ∷ a_text_token ∷ closing pending,
  finishes_first (state divides pending self_read) (state divides pending arrow_read) _ _ refl
      (arrow_finishes divides pending),
)
some_finish divides pending arrow_read = (a_text_token ∷ closing pending, arrow_finishes divides pending)
some_finish divides pending (whole level f) = (closing pending, finishes pending f divides pending level f refl)
some_finish divides pending (compares op a) = (a_text_token ∷ closing pending, compares_finishes divides pending op a)
some_finish divides pending (lone a) = (
  token.Sign sign.EqualEqual ∷ a_text_token ∷ closing pending,
  finishes_first (state divides pending (lone a)) (state divides pending (compares comparison.Equal a)) _ _ refl
      (compares_finishes divides pending comparison.Equal a),
)

pub viable : (divides : Bool) (ts : List Token) (s : State) → run (start divides) ts ≡ Some s → BeginsExpr divides ts
viable divides ts s h =
    let end = some_finish s.divides s.pending s.hand in
    record {
      more = end.0;
      form = end.1.form;
      reads = sound divides (ts ++ end.0) end.1.at end.1.form (run_more (start divides) s ts end.0 h ∙ end.1.runs)
          end.1.is_done;
    }

-- nothing but an operator goes on with what is whole
alone_is : (pending : List PendingForm) (f : Form) (a : ArgForm) → number_alone pending f ≡ Some a → pending ≡ []
alone_is [] f a h = refl
alone_is (_ ∷ pending) f a h = cc

is_none_means : {A : Type 0} → (o : Option A) → is_none o ≡ true → o ≡ None
is_none_means None h = refl
is_none_means (Some x) h = cc

no_comparison : (divides : Bool) (s : Sign) → is_none (operator_in divides s) ≡ true → comparison_of s ≡ None
no_comparison divides sign.EqualEqual h = cc
no_comparison divides sign.BangEqual h = cc
no_comparison divides _ h = refl

ends_sign : (divides : Bool) (pending : List PendingForm) (level : ℕ) (f : Form) (s : Sign)
    → (close 0 pending f).pending ≡ [] → is_none (operator_in divides s) ≡ true
    → follow_sign divides pending level f s ≡ None
ends_sign divides pending level f sign.CloseParen e h =
    ap (λ (x : List PendingForm). leave x (close 0 pending f).form) e
ends_sign divides pending level f s e h =
    ap (option_and_then (join divides pending level f)) (is_none_means (operator_in divides s) h)

ends_whole : (outer divides : Bool) (pending : List PendingForm) (level : ℕ) (f : Form) (ts : List Token) (t : Token)
    → HoldsWhole outer divides pending level f ts → (close 0 pending f).pending ≡ [] → ends_argument outer t ≡ true
    → follow divides pending level f t ≡ None
ends_whole outer divides pending level f ts (token.Sign s) h e k =
    let c = close_reads outer divides 0 level pending f h.front h.us h.waits h.loose (omega arith) h.bound h.reads in
    let same : divides ≡ outer = (subst (λ (x : List PendingForm). Waits outer divides x c.front) e c.waits).0 in
    ends_sign divides pending level f s e (subst (λ (x : Bool). is_none (operator_in x s) ≡ true) (sym same) k)
ends_whole outer divides pending level f ts _ h e k = refl

ends_text : (outer divides : Bool) (pending : List PendingForm) (a : Text) (t : Token) → ends_argument outer t ≡ true
    → compare divides pending a t ≡ None
ends_text outer divides pending a (token.Sign s) k =
    ap (option_map (λ (op : TextOp). state divides pending (compares op a))) (no_comparison outer s k)
ends_text outer divides pending a _ k = refl

ends_from : (outer divides : Bool) (pending : List PendingForm) (hand : HandForm) (ts : List Token) (a : ArgForm)
    (t : Token) → Holds outer divides pending hand ts → done_from pending hand ≡ Some a → ends_argument outer t ≡ true
    → step_from divides pending hand t ≡ None
ends_from outer divides pending (whole level f) ts a t h e k =
    ends_whole outer divides pending level f ts t h (alone_is (close 0 pending f).pending (close 0 pending f).form a e) k
ends_from outer divides pending (lone b) ts a t h e k = ends_text outer divides pending b t k
ends_from outer divides pending _ ts a t h e k = cc

pub ends : (divides : Bool) (ts : List Token) (s : State) (a : ArgForm) (t : Token) → run (start divides) ts ≡ Some s
    → done s ≡ Some a → ends_argument divides t ≡ true → step s t ≡ None
unfolding done step
ends divides ts s a t h e k =
    ends_from divides s.divides s.pending s.hand ts a t (run_reaches divides s ts h) e k

begin_foreign_sign : (divides : Bool) (pending : List PendingForm) (s : Sign) → is_foreign_sign s ≡ true
    → begin_sign divides pending s ≡ None
begin_foreign_sign divides pending sign.OpenBracket h = refl
begin_foreign_sign divides pending sign.CloseBracket h = refl
begin_foreign_sign divides pending sign.OpenBrace h = refl
begin_foreign_sign divides pending sign.CloseBrace h = refl
begin_foreign_sign divides pending sign.Comma h = refl
begin_foreign_sign divides pending sign.Semicolon h = refl
begin_foreign_sign divides pending sign.Equal h = refl
begin_foreign_sign divides pending _ h = cc

follow_foreign_sign : (divides : Bool) (pending : List PendingForm) (level : ℕ) (f : Form) (s : Sign)
    → is_foreign_sign s ≡ true → follow_sign divides pending level f s ≡ None
follow_foreign_sign divides pending level f sign.OpenBracket h = refl
follow_foreign_sign divides pending level f sign.CloseBracket h = refl
follow_foreign_sign divides pending level f sign.OpenBrace h = refl
follow_foreign_sign divides pending level f sign.CloseBrace h = refl
follow_foreign_sign divides pending level f sign.Comma h = refl
follow_foreign_sign divides pending level f sign.Semicolon h = refl
follow_foreign_sign divides pending level f sign.Equal h = refl
follow_foreign_sign divides pending level f _ h = cc

begin_foreign : (divides : Bool) (pending : List PendingForm) (t : Token) → is_foreign t ≡ true
    → begin divides pending t ≡ None
begin_foreign divides pending (token.Sign s) h = begin_foreign_sign divides pending s h
begin_foreign divides pending (token.Number z) h = cc
begin_foreign divides pending (token.String bytes) h = cc
begin_foreign divides pending (token.Word w) h = cc
begin_foreign divides pending _ h = refl

no_foreign_comparison : (s : Sign) → is_foreign_sign s ≡ true → comparison_of s ≡ None
no_foreign_comparison sign.EqualEqual h = cc
no_foreign_comparison sign.BangEqual h = cc
no_foreign_comparison _ h = refl

no_foreign_text : (t : Token) → is_foreign t ≡ true → text_token t ≡ None
no_foreign_text (token.String bytes) h = cc
no_foreign_text (token.Word w) h = cc
no_foreign_text _ h = refl

no_foreign_arrow : (divides : Bool) (pending : List PendingForm) (s : Sign) → is_foreign_sign s ≡ true
    → point divides pending (token.Sign s) ≡ None
no_foreign_arrow divides pending sign.Arrow h = cc
no_foreign_arrow divides pending _ h = refl

foreign_from : (divides : Bool) (pending : List PendingForm) (hand : HandForm) (t : Token) → is_foreign t ≡ true
    → step_from divides pending hand t ≡ None
foreign_from divides pending nothing t h = begin_foreign divides pending t h
foreign_from divides pending self_read (token.Sign s) h = no_foreign_arrow divides pending s h
foreign_from divides pending self_read _ h = refl
foreign_from divides pending arrow_read (token.Word w) h = cc
foreign_from divides pending arrow_read _ h = refl
foreign_from divides pending (whole level f) (token.Sign s) h = follow_foreign_sign divides pending level f s h
foreign_from divides pending (whole level f) _ h = refl
foreign_from divides pending (lone a) (token.Sign s) h =
    ap (option_map (λ (op : TextOp). state divides pending (compares op a))) (no_foreign_comparison s h)
foreign_from divides pending (lone a) _ h = refl
foreign_from divides pending (compares op a) t h =
    ap (option_map (λ (b : Text). state divides pending (whole EQUALITY (Compared op a b)))) (no_foreign_text t h)

pub foreign : (s : State) (t : Token) → is_foreign t ≡ true → step s t ≡ None
unfolding step
foreign s t h = foreign_from s.divides s.pending s.hand t h

begin_nothing : (divides : Bool) (pending : List PendingForm) (w : Word) → begins_nothing w ≡ true
    → begin divides pending (token.Word w) ≡ None
begin_nothing divides pending (word.Number v) h = cc
begin_nothing divides pending (word.Text v) h = cc
begin_nothing divides pending (word.Keyword keyword.ThreadLocal) h = cc
begin_nothing divides pending (word.Keyword keyword.Speculation) h = refl
begin_nothing divides pending _ h = refl

nothing_text : (w : Word) → begins_nothing w ≡ true → text_token (token.Word w) ≡ None
nothing_text (word.Text v) h = cc
nothing_text _ h = refl

foreign_word_from : (divides : Bool) (pending : List PendingForm) (hand : HandForm) (w : Word) → wants_at hand ≡ true
    → begins_nothing w ≡ true → step_from divides pending hand (token.Word w) ≡ None
foreign_word_from divides pending nothing w k h = begin_nothing divides pending w h
foreign_word_from divides pending (compares op a) w k h =
    ap (option_map (λ (b : Text). state divides pending (whole EQUALITY (Compared op a b)))) (nothing_text w h)
foreign_word_from divides pending _ w k h = cc

pub foreign_word : (s : State) (w : Word) → wants s ≡ true → begins_nothing w ≡ true → step s (token.Word w) ≡ None
unfolding step
foreign_word s w k h = foreign_word_from s.divides s.pending s.hand w k h

bang_from : (divides : Bool) (pending : List PendingForm) (hand : HandForm)
    → is_some (step_from divides pending hand (token.Sign sign.Bang)) ≡ takes_number_at hand
bang_from divides pending nothing = refl
bang_from divides pending _ = refl

pub bang_goes_on : (s : State) → is_some (step s (token.Sign sign.Bang)) ≡ takes_number s
unfolding step
bang_goes_on s = bang_from s.divides s.pending s.hand

is_some_if : (b : Bool) (s : State) → is_some (if b then Some s else None) ≡ b
is_some_if true s = refl
is_some_if false s = refl

string_from : (divides : Bool) (pending : List PendingForm) (hand : HandForm)
    → is_some (step_from divides pending hand (token.String [])) ≡ takes_text_at pending hand
string_from divides pending nothing = is_some_if (leb (level_next pending) EQUALITY) _
string_from divides pending _ = refl

pub string_goes_on : (s : State) → is_some (step s (token.String [])) ≡ takes_text s
unfolding step
string_goes_on s = string_from s.divides s.pending s.hand

wants_from : (pending : List PendingForm) (hand : HandForm)
    → (takes_number_at hand || takes_text_at pending hand) ≡ wants_at hand
wants_from pending nothing = refl
wants_from pending _ = refl

pub wants_operand : (s : State) → (takes_number s || takes_text s) ≡ wants s
wants_operand s = wants_from s.pending s.hand

done_from_wants : (pending : List PendingForm) (hand : HandForm) (a : ArgForm) → done_from pending hand ≡ Some a
    → wants_at hand ≡ false
done_from_wants pending (whole level f) a h = refl
done_from_wants pending (lone b) a h = refl
done_from_wants pending _ a h = cc

pub done_wants_none : (s : State) (a : ArgForm) → done s ≡ Some a → wants s ≡ false
unfolding done
done_wants_none s a h = done_from_wants s.pending s.hand a h

-- what is read is read once
one_read : (divides : Bool) (ts : List Token) (a b : ArgForm) → IsRead divides ts a → IsRead divides ts b → a ≡ b
one_read divides ts a b h k =
    let same : h.at ≡ k.at = cc (h.runs, k.runs) in
    let both : Some a ≡ Some b = sym h.is_done ∙ ap done same ∙ k.is_done in
    cc

pub one_form : (divides : Bool) (ts : List Token) (f g : Form) → ReadsExpr divides 0 ts f → ReadsExpr divides 0 ts g
    → f ≡ g
one_form divides ts f g h k =
    let same = one_read divides ts (number f) (number g) (complete divides ts f h) (complete divides ts g k) in cc

pub one_argument : (ts : List Token) (a b : ArgForm) → ReadsArgument ts a → ReadsArgument ts b → a ≡ b
one_argument ts a b h k = one_read true ts a b (complete_argument ts a h) (complete_argument ts b k)

pub run_refused : (s : State) (ts us : List Token) → run s ts ≡ None → run s (ts ++ us) ≡ None
run_refused s ts us h = run-append s ts us ∙ ap (option_and_then (λ (next : State). run next us)) h

pub run_beginning : (s next : State) (ts us : List Token) → run s (ts ++ us) ≡ Some next → RunsBy s ts us next
run_beginning s next ts us h = go (run s ts) refl (sym (run-append s ts us) ∙ h)
  where
    go : (o : Option State) → run s ts ≡ o → option_and_then (λ n. run n us) o ≡ Some next → RunsBy s ts us next
    go None e k = cc
    go (Some at) e k = record { at = at; first = e; second = k }

read_by : (divides : Bool) (ts us : List Token) (a : ArgForm) → IsRead divides (ts ++ us) a → IsReadBy divides ts us a
read_by divides ts us a h =
    let by = run_beginning (start divides) h.at ts us h.runs in
    record { at = by.at; end = h.at; first = by.first; second = by.second; is_done = h.is_done }

pub complete_by : (divides : Bool) (ts us : List Token) (f : Form) → ReadsExpr divides 0 (ts ++ us) f
    → IsReadBy divides ts us (number f)
complete_by divides ts us f h = read_by divides ts us (number f) (complete divides (ts ++ us) f h)

pub complete_argument_by : (ts us : List Token) (a : ArgForm) → ReadsArgument (ts ++ us) a → IsReadBy true ts us a
complete_argument_by ts us a h = read_by true ts us a (complete_argument (ts ++ us) a h)

undone_from : (pending : List PendingForm) (hand : HandForm) → wants_at hand ≡ true → done_from pending hand ≡ None
undone_from pending (whole level f) h = cc
undone_from pending (lone a) h = cc
undone_from pending _ h = refl

pub waits_undone : (s : State) → wants s ≡ true → done s ≡ None
unfolding done
waits_undone s h = undone_from s.pending s.hand h
