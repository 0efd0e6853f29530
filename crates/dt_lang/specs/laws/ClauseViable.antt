-- Whatever was read of a program goes on to a whole one.
use Rattle.std.proofs.Common.{◌≡◌, ◌≢◌, ℕ, ◌+◌, Bool, true, false, List, [], ◌∷◌, ◌++◌, length, Some, refl, sym, ◌∙◌, ℤ, Ok}
use Rattle.std.proofs.Common.{pos}
use Rattle.dt_expr.specs.Form.{Form}
use Rattle.dt_program.specs.declared.description.Description.{Description}
use Rattle.dt_lang.specs.declared.token.Sign.TheVariants as sign
use Rattle.dt_lang.specs.declared.token.Token.{Token}
use Rattle.dt_lang.specs.declared.token.Token.TheVariants as token
use Rattle.dt_lang.specs.declared.word.Action.{Action}
use Rattle.dt_lang.specs.declared.word.Action.TheVariants as action
use Rattle.dt_lang.specs.declared.word.Function.{Function}
use Rattle.dt_lang.specs.declared.word.Function.TheVariants as function
use Rattle.dt_expr.specs.declared.scene.TextVariable.TheVariants as variables
use Rattle.dt_lang.specs.declared.word.Keyword.TheVariants as keyword
use Rattle.dt_lang.specs.declared.word.Word.TheVariants as word
use Rattle.dt_lang.specs.machine.ExpressionState as expression
use Rattle.dt_lang.specs.machine.ExpressionState.{ends_argument}
use Rattle.dt_lang.specs.Grammar.{TakesNumber, Spot, before_statement, after_statement}
use Rattle.dt_program.specs.Clause.{ArgForm, number, StatementForm, assign, ClauseForm}
use Rattle.dt_lang.specs.Stand.{Slot, predicate, given, key, value, assignment, divides_in, SlotOpens, an_argument, a_value}
use Rattle.dt_lang.specs.machine.ClauseState.{BoundForm, at_lower, at_upper, at_step, PlaceForm, outside, described, listed, InsideForm, inside}
use Rattle.dt_lang.specs.machine.ClauseState.{guarded, body, called, stack_opened, closing, named, keyed, assigned, applied, within}
use Rattle.dt_lang.specs.machine.ClauseState.{self_read, arrow_read, variable, drawing}
use Rattle.dt_lang.specs.machine.ClauseState.{bounding, negating, bounded, ProgramState, program_at, entered, function_given}
use Rattle.dt_lang.specs.machine.ClauseState.{with_statement, shut, program_step, program_run}
use Rattle.dt_lang.specs.laws.ExpressionLaws.{complete, run_beginning}
use Rattle.dt_lang.specs.laws.ExpressionLaws as laws
use Rattle.dt_lang.specs.laws.Reading.{Within, ReadInside, ReadAt, Read}
use Rattle.dt_lang.specs.laws.ClauseSound.{same_some, sound_step}
use Rattle.dt_lang.specs.laws.ClauseComplete.{run_over, run_within, step_shut}

-- From here some tokens lead to the end of a clause.
pub record Completes (s : ProgramState) : Type 0 where
  pub more : List Token
  pub clauses : List ClauseForm
  pub clause : ClauseForm
  pub runs : program_run s more ≡ Some (program_at clauses clause outside)
  pub some : clauses ≢ []

-- one token before
back : (s next : ProgramState) (t : Token) → program_step s t ≡ Some next → Completes next → Completes s
unfolding program_run
back s next t e h = record {
  more = t ∷ h.more;
  clauses = h.clauses;
  clause = h.clause;
  runs = rw e h.runs;
  some = h.some;
}

some_clauses : (cs : List ClauseForm) (c : ClauseForm) → cs ++ (c ∷ []) ≢ []
some_clauses [] c e = cc
some_clauses (first ∷ cs) c e = cc

module _ (cs : List ClauseForm) (c : ClauseForm) where
  whole_clause : (before : ClauseForm) → Completes (program_at (cs ++ (c ∷ [])) before outside)
  unfolding program_run
  whole_clause before = record {
    more = [];
    clauses = cs ++ (c ∷ []);
    clause = before;
    runs = refl;
    some = some_clauses cs c;
  }

  body_completes : (spot : Spot) → Completes (program_at cs c (body spot))
  unfolding program_step
  body_completes before_statement = back _ _ (token.Sign sign.CloseBrace) refl (whole_clause _)
  body_completes after_statement = back _ _ (token.Sign sign.CloseBrace) refl (whole_clause _)

closing_completes : (cs : List ClauseForm) (c : ClauseForm) (s : StatementForm)
    → Completes (program_at cs c (inside (closing s)))
unfolding program_step
closing_completes cs c s = back _ _ (token.Sign sign.CloseParen) refl (body_completes cs _ after_statement)

guarded_completes : (cs : List ClauseForm) (c : ClauseForm) → Completes (program_at cs c guarded)
unfolding program_step
guarded_completes cs c = back _ _ (token.Sign sign.OpenBrace) refl (body_completes cs c before_statement)

described_completes : (cs : List ClauseForm) (c : ClauseForm) → Completes (program_at cs c described)
unfolding program_step
described_completes cs c = back _ _ (token.Sign sign.OpenBrace) refl (body_completes cs c before_statement)

-- the description that asks for nothing
all_probes : Description
all_probes = record { provider = []; «module» = []; function = []; name = [] }

listed_completes : (cs : List ClauseForm) (c : ClauseForm) → Completes (program_at cs c listed)
unfolding program_step
listed_completes cs c = back _ _ (token.Description (Ok all_probes)) refl (described_completes cs _)

outside_completes : (cs : List ClauseForm) (c : ClauseForm) → Completes (program_at cs c outside)
unfolding program_step
outside_completes cs c = back _ _ (token.Description (Ok all_probes)) refl (described_completes cs _)

stack_opened_completes : (cs : List ClauseForm) (c : ClauseForm) (process : Bool)
    → Completes (program_at cs c (inside (stack_opened process)))
unfolding program_step
stack_opened_completes cs c process = back _ _ (token.Number (pos 1)) refl (closing_completes cs c _)

-- aggregations
applied_completes : (cs : List ClauseForm) (c : ClauseForm) (name : List ℕ) (keys : List ArgForm)
    → Completes (program_at cs c (inside (applied name keys function.Count)))
unfolding program_step
applied_completes cs c name keys = back _ _ (token.Sign sign.OpenParen) refl (closing_completes cs c _)

assigned_completes : (cs : List ClauseForm) (c : ClauseForm) (name : List ℕ) (keys : List ArgForm)
    → Completes (program_at cs c (inside (assigned name keys)))
unfolding program_step
assigned_completes cs c name keys =
    back _ _ (token.Word (word.Function function.Count)) refl (applied_completes cs c name keys)

keyed_completes : (cs : List ClauseForm) (c : ClauseForm) (name : List ℕ) (keys : List ArgForm)
    → Completes (program_at cs c (inside (keyed name keys)))
unfolding program_step
keyed_completes cs c name keys = back _ _ (token.Sign sign.Equal) refl (assigned_completes cs c name keys)

named_completes : (cs : List ClauseForm) (c : ClauseForm) (name : List ℕ) → Completes (program_at cs c (inside (named name)))
unfolding program_step
named_completes cs c name = back _ _ (token.Sign sign.Equal) refl (assigned_completes cs c name [])

-- bounds
module _ (cs : List ClauseForm) (c : ClauseForm) (name : List ℕ) (keys : List ArgForm) (f : Form) where
  upper_completes : (lower z : ℤ) → Completes (program_at cs c (inside (bounded name keys f (at_upper lower) z)))
  unfolding program_step
  upper_completes lower z = back _ _ (token.Sign sign.CloseParen) refl (body_completes cs _ after_statement)

  next_completes : (lower : ℤ) → Completes (program_at cs c (inside (bounding name keys f (at_upper lower))))
  unfolding program_step
  next_completes lower = back _ _ (token.Number (pos 0)) refl (upper_completes lower (pos 0))

  bounded_completes : (b : BoundForm) (z : ℤ) → Completes (program_at cs c (inside (bounded name keys f b z)))
  unfolding program_step
  bounded_completes at_lower z = back _ _ (token.Sign sign.Comma) refl (next_completes z)
  bounded_completes (at_upper lower) z = upper_completes lower z
  bounded_completes (at_step lower upper) z = back _ _ (token.Sign sign.CloseParen) refl (body_completes cs _ after_statement)

  bounding_completes : (b : BoundForm) → Completes (program_at cs c (inside (bounding name keys f b)))
  unfolding program_step
  bounding_completes b = back _ _ (token.Number (pos 0)) refl (bounded_completes b (pos 0))

  negating_completes : (b : BoundForm) → Completes (program_at cs c (inside (negating name keys f b)))
  unfolding program_step
  negating_completes b = back _ _ (token.Number (pos 0)) refl (bounded_completes b _)

-- a token that ends a number that was read for a slot, and what it leads to
record Shuts (cs : List ClauseForm) (c : ClauseForm) (slot : Slot) (f : Form) : Type 0 where
  end : Token
  next : ProgramState
  ends_it : ends_argument (divides_in slot) end ≡ true
  leads : shut cs c slot end (number f) ≡ Some next
  completes : Completes next

value_shuts : (cs : List ClauseForm) (c : ClauseForm) (name : List ℕ) (keys : List ArgForm) (fn : Function) (f : Form)
    → fn ≢ function.Count → Shuts cs c (value name keys fn) f
value_shuts cs c name keys function.Count f n = absurd (n refl)
value_shuts cs c name keys function.Lquantize f n = record {
  end = token.Sign sign.Comma;
  next = program_at cs c (inside (bounding name keys f at_lower));
  ends_it = refl;
  leads = refl;
  completes = bounding_completes cs c name keys f at_lower;
}
value_shuts cs c name keys fn f n = record {
  end = token.Sign sign.CloseParen;
  next = _;
  ends_it = refl;
  leads = refl;
  completes = body_completes cs _ after_statement;
}

argument_shuts : (cs : List ClauseForm) (c : ClauseForm) (a : Action) (f : Form) → TakesNumber a → Shuts cs c (given a) f
argument_shuts cs c a f n = record {
  end = token.Sign sign.CloseParen;
  next = program_at cs (with_statement c (n f).0) (body after_statement);
  ends_it = refl;
  leads = rw (n f).1 refl;
  completes = body_completes cs (with_statement c (n f).0) after_statement;
}

slot_shuts : (ts : List Token) (cs : List ClauseForm) (c : ClauseForm) (slot : Slot) (f : Form)
    → SlotOpens slot ts cs c → Shuts cs c slot f
slot_shuts ts cs c predicate f h = record {
  end = token.Sign sign.Slash;
  next = _;
  ends_it = refl;
  leads = refl;
  completes = guarded_completes cs _;
}
slot_shuts ts cs c (given a) f h = argument_shuts cs c a f (takes h)
  where
    takes : {ts : List Token} {cs : List ClauseForm} {c : ClauseForm} {a : Action} → SlotOpens (given a) ts cs c
        → TakesNumber a
    takes (an_argument ts cs c a n h) = n
slot_shuts ts cs c (key name keys) f h = record {
  end = token.Sign sign.CloseBracket;
  next = _;
  ends_it = refl;
  leads = refl;
  completes = keyed_completes cs c name _;
}
slot_shuts ts cs c (assignment name) f h = record {
  end = token.Sign sign.CloseBrace;
  next = _;
  ends_it = refl;
  leads = refl;
  completes = whole_clause cs (with_statement c (assign name f)) _;
}
slot_shuts ts cs c (value name keys fn) f h = value_shuts cs c name keys fn f (takes_value h)
  where
    takes_value : {ts : List Token} {cs : List ClauseForm} {c : ClauseForm} {name : List ℕ} {keys : List ArgForm}
        {fn : Function} → SlotOpens (value name keys fn) ts cs c → fn ≢ function.Count
    takes_value (a_value ts cs c name keys fn n h) = n

-- what was read for a slot goes on to a whole number, and this ends
within_completes : (cs : List ClauseForm) (c : ClauseForm) (slot : Slot) (n : ℕ) (e : expression.State)
    (ts : List Token) → Within ts cs c slot n e → Completes (program_at cs c (within slot n e))
unfolding program_run
within_completes cs c slot n e ts h =
    let v = laws.viable (divides_in slot) h.back e h.runs in
    let r = complete (divides_in slot) (h.back ++ v.more) v.form v.reads in
    let b = run_beginning (expression.start (divides_in slot)) r.at h.back v.more r.runs in
    let same : b.at ≡ e = same_some (sym b.first ∙ h.runs) in
    let on : expression.run e v.more ≡ Some r.at = rw same at b.second in
    let k = slot_shuts h.front cs c slot v.form h.opens in
    let i = laws.ends (divides_in slot) (h.back ++ v.more) r.at (number v.form) k.end r.runs r.is_done k.ends_it in
    let d = k.completes in
    record {
      more = v.more ++ (k.end ∷ d.more);
      clauses = d.clauses;
      clause = d.clause;
      runs = run_over _ _ v.more (k.end ∷ d.more) (run_within cs c slot v.more n e r.at on)
          ∙ rw (step_shut cs c slot (n + length v.more) r.at (number v.form) k.end i r.is_done, k.leads) d.runs;
      some = d.some;
    }

-- what a word or a name leads to goes on where what its `(` leads to does
called_completes : (cs : List ClauseForm) (c : ClauseForm) (a : Action) (ts : List Token)
    → Read (program_at cs c (inside (called a))) ts → Completes (program_at cs c (inside (called a)))
unfolding program_step
called_completes cs c action.Stack ts h = back _ _ (token.Sign sign.OpenParen) refl (stack_opened_completes cs c false)
called_completes cs c action.Ustack ts h = back _ _ (token.Sign sign.OpenParen) refl (stack_opened_completes cs c true)
called_completes cs c a ts h =
    let r = sound_step (program_at cs c (inside (called a))) (entered cs c (given a)) ts (token.Sign sign.OpenParen) h refl in
    back _ _ (token.Sign sign.OpenParen) refl (within_completes cs c (given a) 0 _ _ r)

given_completes : (cs : List ClauseForm) (c : ClauseForm) (name : List ℕ) (keys : List ArgForm) (fn : Function)
    (ts : List Token) → Read (function_given cs c name keys fn) ts → Completes (function_given cs c name keys fn)
given_completes cs c name keys function.Count ts h = closing_completes cs c _
given_completes cs c name keys function.Sum ts h = within_completes cs c _ 0 _ ts h
given_completes cs c name keys function.Avg ts h = within_completes cs c _ 0 _ ts h
given_completes cs c name keys function.Min ts h = within_completes cs c _ 0 _ ts h
given_completes cs c name keys function.Max ts h = within_completes cs c _ 0 _ ts h
given_completes cs c name keys function.Quantize ts h = within_completes cs c _ 0 _ ts h
given_completes cs c name keys function.Lquantize ts h = within_completes cs c _ 0 _ ts h

function_completes : (cs : List ClauseForm) (c : ClauseForm) (name : List ℕ) (keys : List ArgForm) (fn : Function)
    (ts : List Token) → Read (program_at cs c (inside (applied name keys fn))) ts
    → Completes (program_at cs c (inside (applied name keys fn)))
unfolding program_step
function_completes cs c name keys fn ts h =
    let r = sound_step (program_at cs c (inside (applied name keys fn))) (function_given cs c name keys fn) ts
    (token.Sign sign.OpenParen) h refl in
    back _ _ (token.Sign sign.OpenParen) refl (given_completes cs c name keys fn _ r)

-- thread-local variables
drawing_completes : (cs : List ClauseForm) (c : ClauseForm) (name : List ℕ)
    → Completes (program_at cs c (inside (drawing name)))
unfolding program_step
drawing_completes cs c name = back _ _ (token.Sign sign.OpenParen) refl (closing_completes cs c _)

variable_completes : (cs : List ClauseForm) (c : ClauseForm) (name : List ℕ)
    → Completes (program_at cs c (inside (variable name)))
unfolding program_step expression.step expression.done
variable_completes cs c name =
    back _ _ (token.Sign sign.Equal) refl
    (back (entered cs c (assignment name)) _ (token.Word (word.Keyword keyword.Speculation)) refl
    (drawing_completes cs c name))

arrow_completes : (cs : List ClauseForm) (c : ClauseForm) → Completes (program_at cs c (inside arrow_read))
unfolding program_step
arrow_completes cs c = back _ _ (token.Word (word.Text variables.Execname)) refl (variable_completes cs c _)

self_completes : (cs : List ClauseForm) (c : ClauseForm) → Completes (program_at cs c (inside self_read))
unfolding program_step
self_completes cs c = back _ _ (token.Sign sign.Arrow) refl (arrow_completes cs c)

inside_completes : (cs : List ClauseForm) (c : ClauseForm) (p : InsideForm) (ts : List Token) → ReadInside cs c p ts
    → Completes (program_at cs c (inside p))
inside_completes cs c (called a) ts h = called_completes cs c a ts h
inside_completes cs c (stack_opened process) ts h = stack_opened_completes cs c process
inside_completes cs c (closing s) ts h = closing_completes cs c s
inside_completes cs c (named name) ts h = named_completes cs c name
inside_completes cs c (keyed name keys) ts h = keyed_completes cs c name keys
inside_completes cs c (assigned name keys) ts h = assigned_completes cs c name keys
inside_completes cs c (applied name keys fn) ts h = function_completes cs c name keys fn ts h
inside_completes cs c (bounding name keys f b) ts h = bounding_completes cs c name keys f b
inside_completes cs c (negating name keys f b) ts h = negating_completes cs c name keys f b
inside_completes cs c (bounded name keys f b z) ts h = bounded_completes cs c name keys f b z
inside_completes cs c self_read ts h = self_completes cs c
inside_completes cs c arrow_read ts h = arrow_completes cs c
inside_completes cs c (variable name) ts h = variable_completes cs c name
inside_completes cs c (drawing name) ts h = drawing_completes cs c name

place_completes : (cs : List ClauseForm) (c : ClauseForm) (p : PlaceForm) (ts : List Token) → ReadAt cs c p ts
    → Completes (program_at cs c p)
place_completes cs c outside ts h = outside_completes cs c
place_completes cs c described ts h = described_completes cs c
place_completes cs c listed ts h = listed_completes cs c
place_completes cs c guarded ts h = guarded_completes cs c
place_completes cs c (body spot) ts h = body_completes cs c spot
place_completes cs c (inside p) ts h = inside_completes cs c p ts h
place_completes cs c (within slot n e) ts h = within_completes cs c slot n e ts h

-- From each state that was reached some tokens lead to the end of a clause.
pub completes : (s : ProgramState) (ts : List Token) → Read s ts → Completes s
completes s ts h = place_completes s.clauses s.clause s.place ts h
