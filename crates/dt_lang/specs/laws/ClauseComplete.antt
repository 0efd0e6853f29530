-- What is read as a program leads through the states of its reading to its end.
use Rattle.std.proofs.Common.{◌≡◌, ◌≢◌, ℕ, ◌+◌, leb, true, false, ◌&&◌, List, [], ◌∷◌, ◌++◌, length, Option, Some, None}
use Rattle.std.proofs.Common.{◌⊎◌, inl, inr}
use Rattle.std.proofs.Common.{refl, sym, ap, ◌∙◌, append_assoc, ℤ, pos, le-leb, add-zero, suc, arith}
use Rattle.std.specs.Prelude.{option_and_then}
use Rattle.dt_expr.specs.Form.{Form, Num}
use Rattle.dt_program.specs.Description.{DescForm}
use Rattle.dt_program.specs.declared.clause.TheConstants.{FRAMES_MAX}
use Rattle.dt_lang.specs.declared.token.Sign.TheVariants as sign
use Rattle.dt_lang.specs.declared.token.Token.{Token}
use Rattle.dt_lang.specs.declared.token.Token.TheVariants as token
use Rattle.dt_lang.specs.declared.word.Action.{Action}
use Rattle.dt_lang.specs.declared.word.Action.TheVariants as action
use Rattle.dt_lang.specs.declared.word.Function.{Function}
use Rattle.dt_lang.specs.declared.word.Function.TheVariants as function
use Rattle.dt_lang.specs.declared.word.Keyword.TheVariants as keyword
use Rattle.dt_lang.specs.declared.word.Word.TheVariants as word
use Rattle.dt_lang.specs.Expression.{ReadsExpr, ReadsLocal, a_local}
use Rattle.dt_lang.specs.machine.ExpressionState as expression
use Rattle.dt_lang.specs.machine.ExpressionState.{IsRead, ends_argument}
use Rattle.dt_lang.specs.Grammar.{ReadsHead, a_description, another, ReadsOpening, always, ReadsKeys, a_key}
use Rattle.dt_lang.specs.Grammar.{ReadsTarget, bare, ReadsConstant, plain, negative, ReadsBounds, by_one, stepped}
use Rattle.dt_lang.specs.Grammar.{call_of, ReadsCall, counting, of_one, in_levels, IsFrameCount, ReadsStatement}
use Rattle.dt_lang.specs.Grammar.{statement_of, TakesNumber, of_argument, of_stack, of_ustack, aggregating, assigning, drawing, Spot, before_statement, after_statement, ReadsBody}
use Rattle.dt_lang.specs.Grammar.{nothing, stated, separated, ReadsClause, a_clause, ReadsClauses, ReadsProgram}
use Rattle.dt_lang.specs.Grammar as grammar
use Rattle.dt_program.specs.Clause.{ArgForm, number, CallForm, lquantize, StatementForm, aggregate, assign, draw, ClauseForm}
use Rattle.dt_lang.specs.Stand.{HeadStands, BodyStands, KeysStand, TargetStands, Slot, predicate, given, key}
use Rattle.dt_lang.specs.Stand.{value, assignment, divides_in, SlotOpens}
use Rattle.dt_lang.specs.Stand as stand
use Rattle.dt_lang.specs.machine.ClauseState.{BoundForm, at_lower, at_upper, at_step, outside, described, body, keyed, assigned, inside}
use Rattle.dt_lang.specs.machine.ClauseState.{within, bounding, bounded, ProgramState, program_at, headed, ended, entered}
use Rattle.dt_lang.specs.machine.ClauseState.{after_call, function_given, shut, program_step, program_run, program_start, whole, finished}
use Rattle.dt_lang.specs.laws.ExpressionLaws.{complete, complete_argument}
use Rattle.dt_lang.specs.laws.ExpressionLaws as laws
use Rattle.dt_lang.specs.laws.Reading.{split_last, split_two}

pub run-append : (ts us : List Token) (s : ProgramState) → program_run s (ts ++ us)
    ≡ option_and_then (λ next. program_run next us) (program_run s ts)
unfolding program_run
run-append [] us s = refl
run-append (t ∷ ts) us s = go (program_step s t) (λ next. run-append ts us next)
  where
    go : (o : Option ProgramState)
        → ((next : ProgramState) → program_run next (ts ++ us) ≡ option_and_then (λ m. program_run m us) (program_run next ts))
        → option_and_then (λ next. program_run next (ts ++ us)) o
        ≡ option_and_then (λ next. program_run next us) (option_and_then (λ next. program_run next ts) o)
    go None again = refl
    go (Some next) again = again next

-- some tokens, and then others
pub run_on : (s middle last : ProgramState) (ts us : List Token) → program_run s ts ≡ Some middle → program_run middle us ≡ Some last
    → program_run s (ts ++ us) ≡ Some last
run_on s middle last ts us h k = run-append ts us s ∙ rw h k

-- the rest is read where the first tokens lead
pub run_over : (s middle : ProgramState) (ts us : List Token) → program_run s ts ≡ Some middle → program_run s (ts ++ us)
    ≡ program_run middle us
run_over s middle ts us h = run-append ts us s ∙ rw h refl

-- one more token
pub run_step : (s middle last : ProgramState) (ts : List Token) (t : Token) → program_run s ts ≡ Some middle
    → program_step middle t ≡ Some last → program_run s (ts ++ (t ∷ [])) ≡ Some last
unfolding program_run
run_step s middle last ts t h k = run_over s middle ts (t ∷ []) h ∙ rw k refl

pub step_within : (cs : List ClauseForm) (c : ClauseForm) (slot : Slot) (n : ℕ) (e next : expression.State) (t : Token)
    → expression.step e t ≡ Some next
    → program_step (program_at cs c (within slot n e)) t ≡ Some (program_at cs c (within slot (n + 1) next))
unfolding program_step
step_within cs c slot n e next t h = rw h refl

pub step_shut : (cs : List ClauseForm) (c : ClauseForm) (slot : Slot) (n : ℕ) (e : expression.State) (a : ArgForm)
    (t : Token) → expression.step e t ≡ None → expression.done e ≡ Some a
    → program_step (program_at cs c (within slot n e)) t ≡ shut cs c slot t a
unfolding program_step
step_shut cs c slot n e a t h d = rw (h, d) refl

-- what is read for a slot
pub run_within : (cs : List ClauseForm) (c : ClauseForm) (slot : Slot) (ts : List Token) (n : ℕ)
    (e next : expression.State) → expression.run e ts ≡ Some next
    → program_run (program_at cs c (within slot n e)) ts ≡ Some (program_at cs c (within slot (n + length ts) next))
unfolding program_run expression.run
run_within cs c slot [] n e next h =
    let k : e ≡ next = cc in
    rw (k, add-zero n) refl
run_within cs c slot (t ∷ ts) n e next h =
    go (expression.step e t) refl h (λ m r. run_within cs c slot ts (n + 1) m next r)
  where
    go : (o : Option expression.State) → expression.step e t ≡ o
        → option_and_then (λ m. expression.run m ts) o ≡ Some next
        → ((m : expression.State) → expression.run m ts ≡ Some next
        → program_run (program_at cs c (within slot (n + 1) m)) ts
        ≡ Some (program_at cs c (within slot ((n + 1) + length ts) next)))
        → program_run (program_at cs c (within slot n e)) (t ∷ ts)
        ≡ Some (program_at cs c (within slot (n + length (t ∷ ts)) next))
    go (Some m) k r again =
        let i : (n + 1) + length ts ≡ n + suc (length ts) = omega arith in
        rw (step_within cs c slot n e m t k)
        (again m r ∙ ap (λ (x : ℕ). Some (program_at cs c (within slot x next))) i)
    go None k r again = cc

-- what is read for a slot, with the token that ends it
pub slot_over : (cs : List ClauseForm) (c : ClauseForm) (slot : Slot) (ts us : List Token) (a : ArgForm) (t : Token)
    (next : ProgramState) → IsRead (divides_in slot) ts a → ends_argument (divides_in slot) t ≡ true
    → shut cs c slot t a ≡ Some next → program_run (entered cs c slot) (ts ++ (t ∷ us)) ≡ program_run next us
unfolding program_run
slot_over cs c slot ts us a t next h k e =
    let i = laws.ends (divides_in slot) ts h.at a t h.runs h.is_done k in
    let j = run_within cs c slot ts 0 (expression.start (divides_in slot)) h.at h.runs in
    run_over _ _ ts (t ∷ us) j ∙ rw (step_shut cs c slot (0 + length ts) h.at a t i h.is_done, e) refl

-- statements
frames_true : (n : ℕ) → IsFrameCount n → leb 1 n && leb n FRAMES_MAX ≡ true
frames_true n h = rw (le-leb 1 n h.some, le-leb n FRAMES_MAX h.few) refl

given_value : (cs : List ClauseForm) (c : ClauseForm) (name : List ℕ) (keys : List ArgForm) (fn : Function) (f : Form)
    (call : CallForm) → call_of fn f ≡ Some call → function_given cs c name keys fn ≡ entered cs c (value name keys fn)
given_value cs c name keys function.Count f call h = cc
given_value cs c name keys function.Sum f call h = refl
given_value cs c name keys function.Avg f call h = refl
given_value cs c name keys function.Min f call h = refl
given_value cs c name keys function.Max f call h = refl
given_value cs c name keys function.Quantize f call h = refl
given_value cs c name keys function.Lquantize f call h = refl

pub constant_over : (cs : List ClauseForm) (c : ClauseForm) (name : List ℕ) (keys : List ArgForm) (f : Form)
    (b : BoundForm) (ts us : List Token) (z : ℤ) → ReadsConstant ts z
    → program_run (program_at cs c (inside (bounding name keys f b))) (ts ++ us) ≡ program_run (program_at cs c (inside (bounded name keys f b z))) us
unfolding program_run program_step
constant_over cs c name keys f b _ us _ (plain n) = refl
constant_over cs c name keys f b _ us _ (negative n) = refl

-- bounds and the `)` after them, where an `lquantize`'s value was read
bounds_lead : (cs : List ClauseForm) (c : ClauseForm) (name : List ℕ) (keys : List ArgForm) (f : Form)
    (ts us : List Token) (lower upper by : ℤ) → IsRead true ts (number f) → ReadsBounds us lower upper by
    → program_run (entered cs c (value name keys function.Lquantize)) (ts ++ (us ++ (token.Sign sign.CloseParen ∷ [])))
    ≡ Some (ended cs c (aggregate name keys (lquantize f lower upper by)))
unfolding program_run program_step
bounds_lead cs c name keys f ts _ _ _ _ r (by_one vs ws lower upper h k) =
    rw append_assoc
    (slot_over cs c (value name keys function.Lquantize) ts _ (number f) (token.Sign sign.Comma) _ r refl refl
    ∙ constant_over cs c name keys f at_lower vs _ lower h
    ∙ constant_over cs c name keys f (at_upper lower) ws _ upper k)
bounds_lead cs c name keys f ts _ _ _ _ r (stepped vs ws xs lower upper by h k l) =
    rw append_assoc
    (slot_over cs c (value name keys function.Lquantize) ts _ (number f) (token.Sign sign.Comma) _ r refl refl
    ∙ constant_over cs c name keys f at_lower vs _ lower h
    ∙ ap (λ (x : List Token). program_run (program_at cs c (inside (bounding name keys f (at_upper lower)))) x)
    (append_assoc ws (token.Sign sign.Comma ∷ xs) (token.Sign sign.CloseParen ∷ []))
    ∙ constant_over cs c name keys f (at_upper lower) ws _ upper k
    ∙ constant_over cs c name keys f (at_step lower upper) xs _ by l)

call_leads : (cs : List ClauseForm) (c : ClauseForm) (name : List ℕ) (keys : List ArgForm) (ts : List Token)
    (call : CallForm) → ReadsCall ts call
    → program_run (program_at cs c (inside (assigned name keys))) ts ≡ Some (ended cs c (aggregate name keys call))
unfolding program_run program_step
call_leads cs c name keys _ _ counting = refl
call_leads cs c name keys _ _ (of_one fn ts f call m h) =
    rw (given_value cs c name keys fn f call m)
    (slot_over cs c (value name keys fn) ts [] (number f) (token.Sign sign.CloseParen) _ (complete true ts f h) refl
    (rw m refl))
call_leads cs c name keys _ _ (in_levels ts us f lower upper by h k) =
    bounds_lead cs c name keys f ts us lower upper by (complete true ts f h) k

-- where keys lead: into the last of them
pub record KeysLead (cs : List ClauseForm) (c : ClauseForm) (name : List ℕ) (ts : List Token) (keys : List ArgForm) :
    Type 0 where
  pub before : List ArgForm
  pub last : ArgForm
  pub keys_are : keys ≡ before ++ (last ∷ [])
  pub tokens : List Token
  pub read : IsRead true tokens last
  pub count : ℕ
  pub runs : program_run (entered cs c (key name [])) ts ≡ Some (program_at cs c (within (key name before) count read.at))

-- after keys a `,` or a `]` leads on
pub key_ends : (cs : List ClauseForm) (c : ClauseForm) (name : List ℕ) (ts : List Token) (keys : List ArgForm)
    (t : Token) (next : ProgramState) (h : KeysLead cs c name ts keys) → ends_argument true t ≡ true
    → shut cs c (key name h.before) t h.last ≡ Some next
    → program_run (entered cs c (key name [])) (ts ++ (t ∷ [])) ≡ Some next
key_ends cs c name ts keys t next h k e =
    let i = laws.ends true h.tokens h.read.at h.last t h.read.runs h.read.is_done k in
    run_step _ _ next ts t h.runs (step_shut cs c (key name h.before) h.count h.read.at h.last t i h.read.is_done ∙ e)

pub keys_lead : (cs : List ClauseForm) (c : ClauseForm) (name : List ℕ) (ts : List Token) (keys : List ArgForm)
    → ReadsKeys ts keys → KeysLead cs c name ts keys
keys_lead cs c name _ _ (a_key ts a h) =
    let r = complete_argument ts a h in
    record {
      before = [];
      last = a;
      keys_are = refl;
      tokens = ts;
      read = r;
      count = 0 + length ts;
      runs = run_within cs c (key name []) ts 0 _ r.at r.runs;
    }
keys_lead cs c name _ _ (grammar.another ts us keys a h k) =
    let l = keys_lead cs c name ts keys h in
    let r = complete_argument us a k in
    let first : program_run (entered cs c (key name [])) (ts ++ (token.Sign sign.Comma ∷ []))
    ≡ Some (entered cs c (key name keys))
    = key_ends cs c name ts keys (token.Sign sign.Comma) _ l refl
    (ap (λ (x : List ArgForm). Some (entered cs c (key name x))) (sym l.keys_are)) in
    let all : program_run (entered cs c (key name [])) ((ts ++ (token.Sign sign.Comma ∷ [])) ++ us)
    ≡ Some (program_at cs c (within (key name keys) (0 + length us) r.at))
    = run_on _ _ _ (ts ++ (token.Sign sign.Comma ∷ [])) us first
    (run_within cs c (key name keys) us 0 _ r.at r.runs) in
    record {
      before = keys;
      last = a;
      keys_are = refl;
      tokens = us;
      read = r;
      count = 0 + length us;
      runs = rw append_assoc at all;
    }

-- an aggregation with its keys, and `=`
target_over : (cs : List ClauseForm) (c : ClauseForm) (name : List ℕ) (keys : List ArgForm) (ts us : List Token)
    → ReadsTarget ts name keys
    → program_run (program_at cs c (body before_statement)) (ts ++ (token.Sign sign.Equal ∷ us))
    ≡ program_run (program_at cs c (inside (assigned name keys))) us
unfolding program_run program_step
target_over cs c _ _ _ us (bare name) = refl
target_over cs c _ _ _ us (grammar.keyed name ts keys h) =
    let l = keys_lead cs c name ts keys h in
    run_over (entered cs c (key name [])) (program_at cs c (inside (keyed name keys)))
    (ts ++ (token.Sign sign.CloseBracket ∷ []))
    (token.Sign sign.Equal ∷ us)
    (key_ends cs c name ts keys (token.Sign sign.CloseBracket) _ l refl
    (ap (λ (x : List ArgForm). Some (program_at cs c (inside (keyed name x)))) (sym l.keys_are)))

given_argument : (cs : List ClauseForm) (c : ClauseForm) (a : Action) (x : ArgForm) (s : StatementForm)
    → statement_of a x ≡ Some s → after_call a cs c ≡ entered cs c (given a)
given_argument cs c action.Stack x s m = cc
given_argument cs c action.Ustack x s m = cc
given_argument cs c _ x s m = refl

-- a thread-local variable and `=`
local_over : (cs : List ClauseForm) (c : ClauseForm) (name : List ℕ) (ts us : List Token) → ReadsLocal ts name
    → program_run (program_at cs c (body before_statement)) (ts ++ (token.Sign sign.Equal ∷ us))
    ≡ program_run (entered cs c (assignment name)) us
unfolding program_run program_step
local_over cs c _ _ us (a_local w name e) = rw e refl

-- `speculation` and `(` `)`, where a variable's value begins
draw_leads : (cs : List ClauseForm) (c : ClauseForm) (name : List ℕ)
    → program_run (entered cs c (assignment name))
    (token.Word (word.Keyword keyword.Speculation) ∷ token.Sign sign.OpenParen ∷ token.Sign sign.CloseParen ∷ [])
    ≡ Some (ended cs c (draw name))
unfolding program_run program_step expression.step expression.done
draw_leads cs c name = refl

-- what may stand after a statement
abbrev pub IsAfterStatement : Token → Type 0
IsAfterStatement t = (t ≡ token.Sign sign.Semicolon) ⊎ (t ≡ token.Sign sign.CloseBrace)

-- What may stand after a statement is read here as it is there.
abbrev pub EndsAs : (at whole : ProgramState) → Type 0
EndsAs at whole = (t : Token) → IsAfterStatement t → program_step at t ≡ program_step whole t

-- A statement leads to its end, or to where the token after it ends it.
record StatementLeads (cs : List ClauseForm) (c : ClauseForm) (ts : List Token) (s : StatementForm) : Type 0 where
  at : ProgramState
  runs : program_run (program_at cs c (body before_statement)) ts ≡ Some at
  ends : EndsAs at (ended cs c s)

ended_leads : (cs : List ClauseForm) (c : ClauseForm) (ts : List Token) (s : StatementForm)
    → program_run (program_at cs c (body before_statement)) ts ≡ Some (ended cs c s) → StatementLeads cs c ts s
ended_leads cs c ts s runs = record { at = ended cs c s; runs = runs; ends = λ t after. refl }

-- an expression's value is whole where its statement is
value_ends : (cs : List ClauseForm) (c : ClauseForm) (name : List ℕ) (n : ℕ) (us : List Token) (f : Form)
    (r : IsRead true us (number f))
    → EndsAs (program_at cs c (within (assignment name) n r.at)) (ended cs c (assign name f))
unfolding program_step
value_ends cs c name n us f r t (inl e) =
    rw e (step_shut cs c (assignment name) n r.at (number f) _ (laws.ends true us r.at (number f) _ r.runs r.is_done refl)
    r.is_done)
value_ends cs c name n us f r t (inr e) =
    rw e (step_shut cs c (assignment name) n r.at (number f) _ (laws.ends true us r.at (number f) _ r.runs r.is_done refl)
    r.is_done)

assignment_leads : (cs : List ClauseForm) (c : ClauseForm) (ts us : List Token) (name : List ℕ) (f : Form)
    → ReadsLocal ts name → ReadsExpr true 0 us f
    → StatementLeads cs c (ts ++ (token.Sign sign.Equal ∷ us)) (assign name f)
assignment_leads cs c ts us name f h k =
    let r = complete true us f k in
    record {
      at = program_at cs c (within (assignment name) (0 + length us) r.at);
      runs = local_over cs c name ts us h ∙ run_within cs c (assignment name) us 0 (expression.start true) r.at r.runs;
      ends = value_ends cs c name (0 + length us) us f r;
    }

statement_leads : (cs : List ClauseForm) (c : ClauseForm) (ts : List Token) (s : StatementForm) → ReadsStatement ts s
    → StatementLeads cs c ts s
unfolding program_run program_step
statement_leads cs c _ _ (of_argument a ts x s m h) =
    ended_leads cs c _ s (rw (given_argument cs c a x s m)
    (slot_over cs c (given a) ts [] x (token.Sign sign.CloseParen) _ (complete_argument ts x h) refl (rw m refl)))
statement_leads cs c _ _ (of_stack n h) = ended_leads cs c _ _ (rw (frames_true n h) refl)
statement_leads cs c _ _ (of_ustack n h) = ended_leads cs c _ _ (rw (frames_true n h) refl)
statement_leads cs c _ _ (aggregating ts us name keys call h k) =
    ended_leads cs c _ _ (target_over cs c name keys ts us h ∙ call_leads cs c name keys us call k)
statement_leads cs c _ _ (assigning ts us name f h k) = assignment_leads cs c ts us name f h k
statement_leads cs c _ _ (drawing ts name h) =
    ended_leads cs c _ _ (local_over cs c name ts _ h ∙ draw_leads cs c name)

-- bodies
separated_step : (cs : List ClauseForm) (c : ClauseForm) (spot : Spot)
    → program_step (program_at cs c (body spot)) (token.Sign sign.Semicolon) ≡ Some (program_at cs c (body before_statement))
unfolding program_step
separated_step cs c before_statement = refl
separated_step cs c after_statement = refl

closed_step : (cs : List ClauseForm) (c : ClauseForm) (spot : Spot)
    → program_step (program_at cs c (body spot)) (token.Sign sign.CloseBrace)
    ≡ Some (program_at (cs ++ (c ∷ [])) (headed []) outside)
unfolding program_step
closed_step cs c before_statement = refl
closed_step cs c after_statement = refl

-- a clause up to here
abbrev clause_of : List DescForm → Option Form → List StatementForm → ClauseForm
clause_of ds p ss = record { descriptions = ds; predicate = p; statements = ss }

-- a state at such a spot of a body, as far as what may stand after a statement is concerned
abbrev IsAtSpot : List ClauseForm → ClauseForm → Spot → ProgramState → Type 0
IsAtSpot cs c before_statement at = at ≡ program_at cs c (body before_statement)
IsAtSpot cs c after_statement at = EndsAs at (program_at cs c (body after_statement))

-- A body up to a spot leads there.
record BodyLeads (cs : List ClauseForm) (ds : List DescForm) (p : Option Form) (spot : Spot) (ts : List Token)
    (ss : List StatementForm) : Type 0 where
  at : ProgramState
  runs : program_run (program_at cs (clause_of ds p []) (body before_statement)) ts ≡ Some at
  there : IsAtSpot cs (clause_of ds p ss) spot at

-- what may stand after a statement is read at a spot as it is in the state there
spot_step : (cs : List ClauseForm) (c : ClauseForm) (spot : Spot) (at : ProgramState) (t : Token) → IsAtSpot cs c spot at
    → IsAfterStatement t → program_step at t ≡ program_step (program_at cs c (body spot)) t
spot_step cs c before_statement at t h after = ap (λ (x : ProgramState). program_step x t) h
spot_step cs c after_statement at t h after = h t after

body_leads : (cs : List ClauseForm) (ds : List DescForm) (p : Option Form) (spot : Spot) (ts : List Token)
    (ss : List StatementForm) → ReadsBody spot ts ss → BodyLeads cs ds p spot ts ss
unfolding program_run
body_leads cs ds p _ _ _ nothing = record { at = _; runs = refl; there = refl }
body_leads cs ds p _ _ _ (stated ts us ss s h k) =
    let b = body_leads cs ds p before_statement ts ss h in
    let l = statement_leads cs (clause_of ds p ss) us s k in
    record { at = l.at; runs = run_on _ _ _ ts us (b.runs ∙ ap Some b.there) l.runs; there = l.ends }
body_leads cs ds p _ _ _ (separated spot ts ss h) =
    let b = body_leads cs ds p spot ts ss h in
    record {
      at = program_at cs (clause_of ds p ss) (body before_statement);
      runs = run_step _ _ _ ts _ b.runs
          (spot_step cs (clause_of ds p ss) spot b.at _ b.there (inl refl) ∙ separated_step cs (clause_of ds p ss) spot);
      there = refl;
    }

-- heads
head_leads : (cs : List ClauseForm) (c : ClauseForm) (ts : List Token) (ds : List DescForm) → ReadsHead ts ds
    → program_run (program_at cs c outside) ts ≡ Some (program_at cs (headed ds) described)
unfolding program_run program_step
head_leads cs c _ _ (a_description d) = refl
head_leads cs c _ _ (another ts ds d h) = run_on _ _ _ ts _ (head_leads cs c ts ds h) refl

opening_leads : (cs : List ClauseForm) (c : ClauseForm) (ts : List Token) (ds : List DescForm) (p : Option Form)
    → ReadsOpening ts ds p → program_run (program_at cs c outside) ts ≡ Some (program_at cs (clause_of ds p []) (body before_statement))
unfolding program_run program_step
opening_leads cs c _ _ _ (always ts ds h) = run_over _ _ ts _ (head_leads cs c ts ds h)
opening_leads cs c _ _ _ (grammar.guarded ts us ds f h k) =
    run_over _ _ ts _ (head_leads cs c ts ds h)
    ∙ slot_over cs (headed ds) predicate us _ (number f) (token.Sign sign.Slash) _ (complete false us f k) refl refl

-- clauses
clause_leads : (cs : List ClauseForm) (before : ClauseForm) (ts : List Token) (c : ClauseForm) → ReadsClause ts c
    → program_run (program_at cs before outside) ts ≡ Some (program_at (cs ++ (c ∷ [])) (headed []) outside)
clause_leads cs before _ _ (a_clause spot ts us ds p ss h k) =
    let b = body_leads cs ds p spot us ss k in
    run_over _ _ ts _ (opening_leads cs before ts ds p h)
    ∙ run_step _ _ _ us _ b.runs
    (spot_step cs (clause_of ds p ss) spot b.at _ b.there (inr refl) ∙ closed_step cs (clause_of ds p ss) spot)

pub clauses_lead : (ts : List Token) (cs : List ClauseForm) → ReadsClauses ts cs
    → program_run program_start ts ≡ Some (program_at cs (headed []) outside)
unfolding program_run
clauses_lead _ _ grammar.nothing = refl
clauses_lead _ _ (grammar.another ts us cs c h k) =
    run_on _ _ _ ts us (clauses_lead ts cs h) (clause_leads cs (headed []) us c k)

-- a whole program is read to its end
pub record ProgramLeads (ts : List Token) (cs : List ClauseForm) : Type 0 where
  pub at : ProgramState
  pub runs : program_run program_start ts ≡ Some at
  pub is_finished : finished at ≡ Some cs

whole_is : (cs : List ClauseForm) → cs ≢ [] → whole cs ≡ Some cs
whole_is [] n = absurd (n refl)
whole_is (c ∷ cs) n = refl

pub program_leads : (ts : List Token) (cs : List ClauseForm) → ReadsProgram ts cs → ProgramLeads ts cs
unfolding finished
program_leads ts cs h =
    record {
      at = program_at cs (headed []) outside;
      runs = clauses_lead ts cs h.reads;
      is_finished = whole_is cs
          h.some;
    }

-- where a program's beginnings lead
pub head_stands_lead : (ts : List Token) (cs : List ClauseForm) (ds : List DescForm) → HeadStands ts cs ds
    → program_run program_start ts ≡ Some (program_at cs (headed ds) described)
head_stands_lead ts cs ds h =
    rw h.split
    (run_on _ _ _ h.clauses h.head (clauses_lead h.clauses cs h.before) (head_leads cs (headed []) h.head ds h.reads))

pub body_stands_lead : (ts : List Token) (cs : List ClauseForm) (c : ClauseForm) → BodyStands before_statement ts cs c
    → program_run program_start ts ≡ Some (program_at cs c (body before_statement))
body_stands_lead ts cs c h =
    let b = body_leads cs c.descriptions c.predicate before_statement h.body c.statements h.reads in
    rw h.split
    (run_on _ _ _ h.clauses (h.opening ++ h.body) (clauses_lead h.clauses cs h.before)
    (run_on _ _ _ h.opening h.body (opening_leads cs (headed []) h.opening c.descriptions c.predicate h.reads_opening)
    (b.runs ∙ ap Some b.there)))

-- where a program's beginning with an aggregation's keys leads
pub record KeysStandLead (ts : List Token) (cs : List ClauseForm) (c : ClauseForm) (name : List ℕ)
    (keys : List ArgForm) : Type 0 where
  pub back : List Token
  pub keys_lead : KeysLead cs c name back keys
  pub runs : (t : Token) (next : ProgramState) → program_run (entered cs c (key name [])) (back ++ (t ∷ [])) ≡ Some next
      → program_run program_start (ts ++ (t ∷ [])) ≡ Some next

pub keys_stand_lead : (ts : List Token) (cs : List ClauseForm) (c : ClauseForm) (name : List ℕ) (keys : List ArgForm)
    → KeysStand ts cs c name keys → KeysStandLead ts cs c name keys
unfolding program_run program_step
keys_stand_lead ts cs c name keys h = record {
  back = h.back;
  keys_lead = keys_lead cs c name h.back keys h.reads;
  runs = λ t next k. rw (split_last ts h.front _ t h.split)
      (run_over _ _ h.front _ (body_stands_lead h.front cs c h.stands) ∙ k);
}

pub target_stands_lead : (ts us : List Token) (cs : List ClauseForm) (c : ClauseForm) (name : List ℕ)
    (keys : List ArgForm) → TargetStands ts cs c name keys
    → program_run program_start (ts ++ (token.Sign sign.Equal ∷ us)) ≡ program_run (program_at cs c (inside (assigned name keys))) us
target_stands_lead ts us cs c name keys h =
    rw (split_two ts h.front h.back (token.Sign sign.Equal ∷ us) h.split)
    (run_over _ _ h.front _ (body_stands_lead h.front cs c h.stands)
    ∙ target_over cs c name keys h.back us h.reads)

given_other : (cs : List ClauseForm) (c : ClauseForm) (name : List ℕ) (keys : List ArgForm) (fn : Function)
    → fn ≢ function.Count → function_given cs c name keys fn ≡ entered cs c (value name keys fn)
given_other cs c name keys function.Count n = absurd (n refl)
given_other cs c name keys function.Sum n = refl
given_other cs c name keys function.Avg n = refl
given_other cs c name keys function.Min n = refl
given_other cs c name keys function.Max n = refl
given_other cs c name keys function.Quantize n = refl
given_other cs c name keys function.Lquantize n = refl

given_number : (cs : List ClauseForm) (c : ClauseForm) (a : Action) → TakesNumber a
    → after_call a cs c ≡ entered cs c (given a)
given_number cs c a n = let some = n (Num (pos 0)) in given_argument cs c a (number (Num (pos 0))) some.0 some.1

pub slot_leads : (slot : Slot) (ts : List Token) (cs : List ClauseForm) (c : ClauseForm) → SlotOpens slot ts cs c
    → program_run program_start ts ≡ Some (entered cs c slot)
unfolding program_run program_step
slot_leads _ _ _ _ (stand.a_predicate ts cs ds h) = run_over _ _ ts _ (head_stands_lead ts cs ds h)
slot_leads _ _ _ _ (stand.an_argument ts cs c a n h) =
    run_over _ _ ts _ (body_stands_lead ts cs c h) ∙ ap Some (given_number cs c a n)
slot_leads _ _ _ _ (stand.first_key ts cs c name h) = run_over _ _ ts _ (body_stands_lead ts cs c h)
slot_leads _ _ _ _ (stand.a_key ts cs c name keys h) =
    let k = keys_stand_lead ts cs c name keys h in
    k.runs _ _ (key_ends cs c name k.back keys (token.Sign sign.Comma) _ k.keys_lead refl
    (ap (λ (x : List ArgForm). Some (entered cs c (key name x))) (sym k.keys_lead.keys_are)))
slot_leads _ _ _ _ (stand.a_variable ts us cs c name h k) =
    run_over _ _ ts _ (body_stands_lead ts cs c h) ∙ local_over cs c name us [] k
slot_leads _ _ _ _ (stand.a_value ts cs c name keys fn n h) =
    target_stands_lead ts _ cs c name keys h ∙ ap Some (given_other cs c name keys fn n)
