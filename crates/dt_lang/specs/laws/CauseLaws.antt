-- The laws of refusing: a token is refused for the cause that the state says, and where it says none, none holds. For
-- all
-- tokens `t` and `ts`, and states `s` with `run start ts ≡ Some s`:
--
--     refused    cause_of s t ≡ Some cause → Refused ts t cause
--     unrefused  cause_of s t ≡ None → Holds ts t cause → ⊥
--     one_cause  Refused ts t cause → Refused ts t other → cause ≡ other
use Rattle.std.proofs.Common.{◌≡◌, ◌⊎◌, inl, inr, ℕ, ◌+◌, Bool, true, false, not, ◌&&◌, List, [], ◌∷◌, ◌++◌, Option}
use Rattle.std.proofs.Common.{Some, None, Err, is_some, refl, sym, ap, ◌∙◌, subst, Decides, arith}
use Rattle.std.specs.Option.{option_map}
use Rattle.dt_lang.specs.declared.token.Sign.TheVariants as sign
use Rattle.dt_lang.specs.declared.token.Token.{Token}
use Rattle.dt_lang.specs.declared.token.Token.TheVariants as token
use Rattle.dt_lang.specs.declared.word.Destructive.{Destructive}
use Rattle.dt_lang.specs.declared.word.Function.TheVariants as function
use Rattle.dt_lang.specs.declared.word.Keyword.TheVariants as keyword
use Rattle.dt_lang.specs.declared.word.Word.{Word}
use Rattle.dt_lang.specs.declared.word.Word.TheVariants as word
use Rattle.dt_lang.specs.machine.ExpressionState as expression
use Rattle.dt_lang.specs.Grammar.{before_statement, after_statement, Begins}
use Rattle.dt_program.specs.Clause.{ClauseForm}
use Rattle.dt_lang.specs.Stand.{Slot}
use Rattle.dt_program.specs.declared.description.DescriptionFault.{DescriptionFault}
use Rattle.dt_lang.specs.declared.fault.Flaw.TheVariants.{Syntax, Probe, Action, Variable, TooLong, Range, Spec}
use Rattle.dt_lang.specs.Refused.{Cause, because, destroys, rank, StatementBegins, IsDestructive, NameStands, a_statement, a_function}
use Rattle.dt_lang.specs.Refused.{IsNoAction, VariableStands, a_number, a_text, NamesNoVariable, IsNoVariable}
use Rattle.dt_lang.specs.Refused.{CauseHolds, Refused}
use Rattle.dt_lang.specs.machine.ClauseState.{PlaceForm, body, assigned, within, bounded, arrow_read, at_lower, at_upper, at_step, inside}
use Rattle.dt_lang.specs.machine.ClauseState.{ProgramState, program_at, from_within, program_step_from, program_step, program_run}
use Rattle.dt_lang.specs.machine.ClauseState.{program_start}
use Rattle.dt_lang.specs.machine.Cause.{too_long_at, out_of_range_at, is_word, names_no_variable, destructive_of}
use Rattle.dt_lang.specs.machine.Cause.{description_fault, statement_at, name_may_stand, operand_at, destroys_at, is_excluded_at, cause_of}
use Rattle.dt_lang.specs.machine.Cause.{where_true, too_long_cause, destructive_cause, probe_cause, action_cause, variable_cause}
use Rattle.dt_lang.specs.machine.Cause.{range_cause, spec_cause, syntax_cause}
use Rattle.dt_lang.specs.laws.ExpressionLaws.{foreign}
use Rattle.dt_lang.specs.laws.ClauseSound.{none_some, same_some}
use Rattle.dt_lang.specs.laws.ClauseComplete.{run_on}
use Rattle.dt_lang.specs.laws.ClauseLaws.{Steps, viable, leads, leads_by, two_steps, goes_on, begins_on}
use Rattle.dt_lang.specs.laws.Ends.{goes_within, count_stays}
use Rattle.dt_lang.specs.laws.KindLaws.{excluded_is, excluded_true}
use Rattle.dt_lang.specs.laws.CauseOrder.{Tells, Tests, done, test, not_destructive, refused_by, first_by, unrefused_by}
use Rattle.dt_lang.specs.laws.TakesLaws.{both_left, both_right, wants_where_number, wants_where_text, operand_goes_on}
use Rattle.dt_lang.specs.laws.TooLongLaws.{too_long_is, too_long_true}
use Rattle.dt_lang.specs.laws.RangeLaws.{out_of_range_is, out_of_range_true}

statement_place : (cs : List ClauseForm) (c : ClauseForm) (p : PlaceForm) (next : ProgramState)
    → program_step_from cs c p (token.Aggregation []) ≡ Some next → statement_at p ≡ true
statement_place cs c (body before_statement) next h = refl
statement_place cs c (within slot n e) next h =
    let g = goes_within cs c slot n e (token.Aggregation []) next refl refl h in
    absurd (none_some (sym (foreign e _ refl) ∙ g.steps))
statement_place cs c (inside (bounded name keys f at_lower z)) next h = absurd (none_some h)
statement_place cs c (inside (bounded name keys f (at_upper lower) z)) next h = absurd (none_some h)
statement_place cs c (inside (bounded name keys f (at_step lower upper) z)) next h = absurd (none_some h)
statement_place cs c _ next h = absurd (none_some h)

-- an aggregating function's name, which a `(` follows
abbrev a_function_name : Token
a_function_name = token.Word (word.Function function.Count)

abbrev an_opening : Token
an_opening = token.Sign sign.OpenParen

within_function : (cs : List ClauseForm) (c : ClauseForm) (slot : Slot) (n : ℕ) (e : expression.State)
    (middle next : ProgramState) → from_within cs c slot n e a_function_name ≡ Some middle
    → program_step middle an_opening ≡ Some next → ⊥
unfolding program_step
within_function cs c slot n e middle next h k =
    let g = goes_within cs c slot n e a_function_name middle refl refl h in
    let on : from_within cs c slot (n + 1) g.at an_opening ≡ Some next =
    subst (λ (x : ProgramState). program_step x an_opening ≡ Some next) (sym g.is) k in
    let more = goes_within cs c slot (n + 1) g.at an_opening next refl refl on in
    none_some (sym (count_stays e g.at g.steps) ∙ more.steps)

arrow_function : (cs : List ClauseForm) (c : ClauseForm) (middle next : ProgramState)
    → program_step_from cs c (inside arrow_read) a_function_name ≡ Some middle
    → program_step middle an_opening ≡ Some next → ⊥
unfolding program_step
arrow_function cs c middle next h k =
    none_some (subst (λ (x : ProgramState). program_step x an_opening ≡ Some next) (sym (same_some h)) k)

function_place : (cs : List ClauseForm) (c : ClauseForm) (p : PlaceForm) (middle next : ProgramState)
    → program_step_from cs c p a_function_name ≡ Some middle → program_step middle an_opening ≡ Some next
    → name_may_stand p ≡ true
function_place cs c (body before_statement) middle next h k = refl
function_place cs c (inside (assigned name keys)) middle next h k = refl
function_place cs c (inside arrow_read) middle next h k = absurd (arrow_function cs c middle next h k)
function_place cs c (within slot n e) middle next h k = absurd (within_function cs c slot n e middle next h k)
function_place cs c (inside (bounded name keys f at_lower z)) middle next h k = absurd (none_some h)
function_place cs c (inside (bounded name keys f (at_upper lower) z)) middle next h k = absurd (none_some h)
function_place cs c (inside (bounded name keys f (at_step lower upper) z)) middle next h k = absurd (none_some h)
function_place cs c _ middle next h k = absurd (none_some h)

number_place : (cs : List ClauseForm) (c : ClauseForm) (p : PlaceForm) (next : ProgramState)
    → program_step_from cs c p (token.Sign sign.Bang) ≡ Some next → operand_at p ≡ true
number_place cs c (within slot n e) next h =
    let g = goes_within cs c slot n e (token.Sign sign.Bang) next refl refl h in
    wants_where_number e g.at g.steps
number_place cs c (body before_statement) next h = absurd (none_some h)
number_place cs c (body after_statement) next h = absurd (none_some h)
number_place cs c (inside (bounded name keys f at_lower z)) next h = absurd (none_some h)
number_place cs c (inside (bounded name keys f (at_upper lower) z)) next h = absurd (none_some h)
number_place cs c (inside (bounded name keys f (at_step lower upper) z)) next h = absurd (none_some h)
number_place cs c _ next h = absurd (none_some h)

text_place : (cs : List ClauseForm) (c : ClauseForm) (p : PlaceForm) (next : ProgramState)
    → program_step_from cs c p (token.String []) ≡ Some next → operand_at p ≡ true
text_place cs c (within slot n e) next h =
    let g = goes_within cs c slot n e (token.String []) next refl refl h in
    wants_where_text e g.at g.steps
text_place cs c (body before_statement) next h = absurd (none_some h)
text_place cs c (body after_statement) next h = absurd (none_some h)
text_place cs c (inside (bounded name keys f at_lower z)) next h = absurd (none_some h)
text_place cs c (inside (bounded name keys f (at_upper lower) z)) next h = absurd (none_some h)
text_place cs c (inside (bounded name keys f (at_step lower upper) z)) next h = absurd (none_some h)
text_place cs c _ next h = absurd (none_some h)

-- what steps from places
statement_steps : (cs : List ClauseForm) (c : ClauseForm) (p : PlaceForm) → statement_at p ≡ true
    → Steps (program_at cs c p) (token.Aggregation [])
unfolding program_step
statement_steps cs c (body before_statement) e = record { next = _; steps = refl }
statement_steps cs c _ e = cc

-- The two tokens lead on from the state.
record StepsTwice (s : ProgramState) : Type 0 where
  end : ProgramState
  runs : program_run s (a_function_name ∷ an_opening ∷ []) ≡ Some end

name_steps : (cs : List ClauseForm) (c : ClauseForm) (p : PlaceForm) → name_may_stand p ≡ true
    → Steps (program_at cs c p) (token.Aggregation []) ⊎ StepsTwice (program_at cs c p)
unfolding program_run program_step
name_steps cs c (body before_statement) e = inl (record { next = _; steps = refl })
name_steps cs c (inside (assigned name keys)) e = inr (record { end = _; runs = refl })
name_steps cs c _ e = cc

within_steps : (cs : List ClauseForm) (c : ClauseForm) (slot : Slot) (n : ℕ) (e next : expression.State) (t : Token)
    → expression.step e t ≡ Some next → Steps (program_at cs c (within slot n e)) t
unfolding program_step
within_steps cs c slot n e next t h = record { next = program_at cs c (within slot (n + 1) next); steps = rw h refl }

operand_steps : (cs : List ClauseForm) (c : ClauseForm) (p : PlaceForm) → operand_at p ≡ true
    → Steps (program_at cs c p) (token.Sign sign.Bang) ⊎ Steps (program_at cs c p) (token.String [])
operand_steps cs c (within slot n e) h = elim (operand_goes_on e h) [
  | inl k ↦ inl (within_steps cs c slot n e k.0 _ k.1)
  | inr k ↦ inr (within_steps cs c slot n e k.0 _ k.1)
]
operand_steps cs c _ h = cc

module _ (ts : List Token) (t : Token) (s : ProgramState) (h : program_run program_start ts ≡ Some s) where
  statement_where : StatementBegins ts → statement_at s.place ≡ true
  unfolding program_step
  statement_where b =
      let k = goes_on ts s _ h b in statement_place s.clauses s.clause s.place k.next k.steps

  statement_there : statement_at s.place ≡ true → StatementBegins ts
  statement_there e = begins_on ts s _ h (statement_steps s.clauses s.clause s.place e)

  name_where : NameStands ts → name_may_stand s.place ≡ true
  unfolding program_step
  name_where (a_statement b) = let k =
      goes_on ts s _ h b in from_statement s.place (statement_place s.clauses s.clause s.place k.next k.steps)
    where
      from_statement : (p : PlaceForm) → statement_at p ≡ true → name_may_stand p ≡ true
      from_statement (body before_statement) e = refl
      from_statement _ e = cc
  name_where (a_function b) =
      let l = leads (ts ++ (a_function_name ∷ an_opening ∷ [])) b in
      let k = leads_by ts (a_function_name ∷ an_opening ∷ []) l.at l.runs in
      let on : program_run s (a_function_name ∷ an_opening ∷ []) ≡ Some l.at =
      subst (λ (x : ProgramState). program_run x (a_function_name ∷ an_opening ∷ []) ≡ Some l.at) (same_some (sym k.first ∙ h))
      k.second in
      let two = two_steps s l.at a_function_name an_opening on in
      function_place s.clauses s.clause s.place two.middle l.at two.first two.second

  name_there : name_may_stand s.place ≡ true → NameStands ts
  name_there e = elim (name_steps s.clauses s.clause s.place e) [
    | inl k ↦ a_statement (begins_on ts s _ h k)
    | inr k ↦ a_function (viable _ k.end (run_on program_start s k.end ts _ h k.runs))
  ]

  operand_where : VariableStands ts → operand_at s.place ≡ true
  unfolding program_step
  operand_where (a_number b) =
      let k = goes_on ts s _ h b in number_place s.clauses s.clause s.place k.next k.steps
  operand_where (a_text b) = let k = goes_on ts s _ h b in text_place s.clauses s.clause s.place k.next k.steps

  operand_there : operand_at s.place ≡ true → VariableStands ts
  operand_there e = elim (operand_steps s.clauses s.clause s.place e) [
    | inl k ↦ a_number (begins_on ts s _ h k)
    | inr k ↦ a_text (begins_on ts s _ h k)
  ]

  syntax_decides : Decides (not (is_some (program_step s t))) (Begins (ts ++ (t ∷ [])) → ⊥)
  syntax_decides = (λ e b. go (program_step s t) (goes_on ts s t h b) e, λ n. back (program_step s t) refl n)
    where
      go : (o : Option ProgramState) → Steps s t → not (is_some (program_step s t)) ≡ true → ⊥
      go o k e = let i : not (is_some (program_step s t)) ≡ false =
          ap (λ (x : Option ProgramState). not (is_some x)) k.steps in cc

      back : (o : Option ProgramState) → program_step s t ≡ o → (Begins (ts ++ (t ∷ [])) → ⊥) → not (is_some o) ≡ true
      back None k n = refl
      back (Some next) k n = absurd (n (begins_on ts s t h (record { next = next; steps = k })))

-- tests on tokens alone
is_word_is : (t : Token) → is_word t ≡ true → (w : Word) × (t ≡ token.Word w)
is_word_is (token.Word w) e = (w, refl)
is_word_is _ e = cc

is_word_true : (t : Token) (w : Word) → t ≡ token.Word w → is_word t ≡ true
is_word_true t w e = ap is_word e

no_variable_is : (t : Token) → names_no_variable t ≡ true → NamesNoVariable t
no_variable_is (token.Word (word.Number v)) e = cc
no_variable_is (token.Word (word.Text v)) e = cc
no_variable_is (token.Word (word.Keyword keyword.ThreadLocal)) e = cc
no_variable_is (token.Word (word.Keyword keyword.Speculation)) e = tt
no_variable_is (token.Word w) e = tt
no_variable_is _ e = cc

no_variable_true : (t : Token) → NamesNoVariable t → names_no_variable t ≡ true
no_variable_true (token.Word (word.Number v)) h = absurd h
no_variable_true (token.Word (word.Text v)) h = absurd h
no_variable_true (token.Word (word.Keyword keyword.ThreadLocal)) h = absurd h
no_variable_true (token.Word (word.Keyword keyword.Speculation)) h = refl
no_variable_true (token.Word w) h = refl
no_variable_true _ h = absurd h

description_fault_is : (t : Token) (fault : DescriptionFault) → description_fault t ≡ Some fault
    → t ≡ token.Description (Err fault)
description_fault_is (token.Description (Err other)) fault e =
    ap (λ (x : DescriptionFault). token.Description (Err x)) (same_some e)
description_fault_is _ fault e = absurd (none_some e)

destructive_is : (t : Token) (what : Destructive) → destructive_of t ≡ Some what
    → t ≡ token.Word (word.Destructive what)
destructive_is (token.Word (word.Destructive other)) what e =
    ap (λ (x : Destructive). token.Word (word.Destructive x)) (same_some e)
destructive_is _ what e = absurd (none_some e)

destroys_is : (p : PlaceForm) (t : Token) (what : Destructive) → destroys_at p t ≡ Some what
    → (t ≡ token.Word (word.Destructive what)) × (statement_at p ≡ true)
destroys_is (body before_statement) t what e = (destructive_is t what e, refl)
destroys_is _ t what e = absurd (none_some e)

destroys_true : (p : PlaceForm) (t : Token) (what : Destructive) → t ≡ token.Word (word.Destructive what)
    → statement_at p ≡ true → destroys_at p t ≡ Some what
destroys_true (body before_statement) t what e k = ap destructive_of e
destroys_true _ t what e k = cc

-- what a test tells that gives what was found, and one that only says whether
module _ (ts : List Token) (t : Token) where
  told_by : {A : Type 0} {n : ℕ} (its : A → Cause) (found : Option A) → ((a : A) → rank (its a) ≡ n)
      → ((a : A) → found ≡ Some a → CauseHolds ts t (its a))
      → ((cause : Cause) → rank cause ≡ n → CauseHolds ts t cause → option_map its found ≡ Some cause)
      → Tells ts t n (option_map its found)
  told_by {n = n} its (Some a) ranked holds tells = record {
    ranked = λ cause e. subst (λ (x : Cause). rank x ≡ n) (same_some e) (ranked a);
    holds = λ cause e. subst (λ (x : Cause). CauseHolds ts t x) (same_some e) (holds a refl);
    tells = tells;
  }
  told_by its None ranked holds tells = record {
    ranked = λ cause e. absurd (none_some e);
    holds = λ cause e. absurd (none_some e);
    tells = tells;
  }

  told_where : {n : ℕ} (its : Cause) → rank its ≡ n → (b : Bool) → (b ≡ true → CauseHolds ts t its)
      → ((cause : Cause) → rank cause ≡ n → CauseHolds ts t cause → where_true b its ≡ Some cause)
      → Tells ts t n (where_true b its)
  told_where {n = n} its ranked true holds tells = record {
    ranked = λ cause e. subst (λ (x : Cause). rank x ≡ n) (same_some e) ranked;
    holds = λ cause e. subst (λ (x : Cause). CauseHolds ts t x) (same_some e) (holds refl);
    tells = tells;
  }
  told_where its ranked false holds tells = record {
    ranked = λ cause e. absurd (none_some e);
    holds = λ cause e. absurd (none_some e);
    tells = tells;
  }

false_of_not : (b : Bool) → not b ≡ true → b ≡ true → ⊥
false_of_not true e k = cc
false_of_not false e k = cc

module _ (ts : List Token) (t : Token) (s : ProgramState) (h : program_run program_start ts ≡ Some s) where
  action_is : is_word t && (name_may_stand s.place && not (is_some (program_step s t))) ≡ true → IsNoAction ts t
  action_is e =
      let w = is_word_is t (both_left _ _ e) in
      let k = both_right (is_word t) _ e in
      record {
        word = w.0;
        is_word = w.1;
        stands = name_there ts t s h (both_left _ _ k);
        unfit = (syntax_decides ts t s h).0 (both_right (name_may_stand s.place) _ k);
      }

  action_true : IsNoAction ts t → is_word t && (name_may_stand s.place && not (is_some (program_step s t))) ≡ true
  action_true k =
      let a = is_word_true t k.word k.is_word in
      let b = name_where ts t s h k.stands in
      let c = (syntax_decides ts t s h).1 k.unfit in
      rw (a, b, c) refl

  variable_is : names_no_variable t && (operand_at s.place && not (is_some (program_step s t))) ≡ true
      → IsNoVariable ts t
  variable_is e =
      let k = both_right (names_no_variable t) _ e in
      record {
        unknown = no_variable_is t (both_left _ _ e);
        stands = operand_there ts t s h (both_left _ _ k);
        unfit = (syntax_decides ts t s h).0 (both_right (operand_at s.place) _ k);
      }

  variable_true : IsNoVariable ts t
      → names_no_variable t && (operand_at s.place && not (is_some (program_step s t))) ≡ true
  variable_true k =
      let a = no_variable_true t k.unknown in
      let b = operand_where ts t s h k.stands in
      let c = (syntax_decides ts t s h).1 k.unfit in
      rw (a, b, c) refl

  destructive_there : (what : Destructive) → destroys_at s.place t ≡ Some what → IsDestructive ts t what
  destructive_there what e =
      let k = destroys_is s.place t what e in
      record { names = k.0; stands = statement_there ts t s h k.1 }

  destructive_where : (what : Destructive) → IsDestructive ts t what → destroys_at s.place t ≡ Some what
  destructive_where what k = destroys_true s.place t what k.names (statement_where ts t s h k.stands)

  -- what the test of each rank tells
  tells_too_long : Tells ts t 0 (too_long_cause s.clauses s.clause s.place t)
  tells_too_long = told_by ts t (λ limit. because (TooLong limit)) (too_long_at s.clauses s.clause s.place t) (λ limit. refl)
      (λ limit e. too_long_is ts t s h limit e) only
    where
      only : (cause : Cause) → rank cause ≡ 0 → CauseHolds ts t cause
          → option_map (λ limit. because (TooLong limit)) (too_long_at s.clauses s.clause s.place t) ≡ Some cause
      only (because (TooLong limit)) r k = ap (option_map (λ limit. because (TooLong limit))) (too_long_true ts t s h limit k)
      only _ r k = absurd (omega arith)

  tells_destructive : Tells ts t 1 (destructive_cause s.place t)
  tells_destructive = told_by ts t destroys (destroys_at s.place t) (λ what. refl) destructive_there only
    where
      only : (cause : Cause) → rank cause ≡ 1 → CauseHolds ts t cause
          → option_map destroys (destroys_at s.place t) ≡ Some cause
      only (destroys what) r k = ap (option_map destroys) (destructive_where what k)
      only (because flaw) r k = absurd (not_destructive flaw r)

  tells_probe : Tells ts t 2 (probe_cause t)
  tells_probe = told_by ts t (λ fault. because (Probe fault)) (description_fault t) (λ fault. refl) (description_fault_is t)
      only
    where
      only : (cause : Cause) → rank cause ≡ 2 → CauseHolds ts t cause
          → option_map (λ fault. because (Probe fault)) (description_fault t) ≡ Some cause
      only (because (Probe fault)) r k = ap (λ x. option_map (λ fault. because (Probe fault)) (description_fault x)) k
      only _ r k = absurd (omega arith)

  tells_action : Tells ts t 3 (action_cause s.place t (program_step s t))
  tells_action = told_where ts t (because Action) refl (is_word t && (name_may_stand s.place && not (is_some (program_step s t))))
      action_is only
    where
      only : (cause : Cause) → rank cause ≡ 3 → CauseHolds ts t cause
          → action_cause s.place t (program_step s t) ≡ Some cause
      only (because Action) r k = ap (λ b. where_true b (because Action)) (action_true k)
      only _ r k = absurd (omega arith)

  tells_variable : Tells ts t 4 (variable_cause s.place t (program_step s t))
  tells_variable = told_where ts t (because Variable) refl
      (names_no_variable t && (operand_at s.place && not (is_some (program_step s t)))) variable_is only
    where
      only : (cause : Cause) → rank cause ≡ 4 → CauseHolds ts t cause
          → variable_cause s.place t (program_step s t) ≡ Some cause
      only (because Variable) r k = ap (λ b. where_true b (because Variable)) (variable_true k)
      only _ r k = absurd (omega arith)

  tells_range : Tells ts t 5 (range_cause (out_of_range_at s.place t))
  tells_range = told_by ts t (λ fault. because (Range fault)) (out_of_range_at s.place t) (λ fault. refl)
      (λ fault e. out_of_range_is ts t s h fault e) only
    where
      only : (cause : Cause) → rank cause ≡ 5 → CauseHolds ts t cause
          → range_cause (out_of_range_at s.place t) ≡ Some cause
      only (because (Range fault)) r k =
          ap (option_map (λ fault. because (Range fault))) (out_of_range_true ts t s h fault k)
      only _ r k = absurd (omega arith)

  tells_spec : Tells ts t 6 (spec_cause s.clause s.place t)
  tells_spec = told_where ts t (because Spec) refl (is_excluded_at s.clause s.place t) (excluded_is ts t s h) only
    where
      only : (cause : Cause) → rank cause ≡ 6 → CauseHolds ts t cause → spec_cause s.clause s.place t ≡ Some cause
      only (because Spec) r k = ap (λ b. where_true b (because Spec)) (excluded_true ts t s h k)
      only _ r k = absurd (omega arith)

  tells_syntax : Tells ts t 7 (syntax_cause (program_step s t))
  tells_syntax = told_where ts t (because Syntax) refl (not (is_some (program_step s t))) (syntax_decides ts t s h).0 only
    where
      only : (cause : Cause) → rank cause ≡ 7 → CauseHolds ts t cause → syntax_cause (program_step s t) ≡ Some cause
      only (because Syntax) r k = ap (λ b. where_true b (because Syntax)) ((syntax_decides ts t s h).1 k)
      only _ r k = absurd (omega arith)

  tests : Tests ts t 0 (too_long_cause s.clauses s.clause s.place t ∷ destructive_cause s.place t ∷ probe_cause t
      ∷ action_cause s.place t (program_step s t) ∷ variable_cause s.place t (program_step s t)
      ∷ range_cause (out_of_range_at s.place t) ∷ spec_cause s.clause s.place t ∷ syntax_cause (program_step s t) ∷ [])
  tests = test 0 _ _ tells_too_long (test 1 _ _ tells_destructive (test 2 _ _ tells_probe (test 3 _ _ tells_action
      (test 4 _ _ tells_variable (test 5 _ _ tells_range (test 6 _ _ tells_spec
      (test 7 _ _ tells_syntax done)))))))

  pub refused : (cause : Cause) → cause_of s t ≡ Some cause → Refused ts t cause
  unfolding cause_of
  refused cause e = refused_by ts t _ cause tests e

  pub unrefused : cause_of s t ≡ None → (cause : Cause) → CauseHolds ts t cause → ⊥
  unfolding cause_of
  unrefused e cause k = unrefused_by ts t _ tests e cause k

  -- A token is refused for one cause.
  pub one_cause : (c d : Cause) → Refused ts t c → Refused ts t d → c ≡ d
  one_cause c d r q = same_some (sym (first_by ts t _ c tests r) ∙ first_by ts t _ d tests q)

  -- what is not refused leads on
  pub faultless_steps : ((cause : Cause) → CauseHolds ts t cause → ⊥) → Steps s t
  faultless_steps faultless = go (program_step s t) refl
    where
      go : (o : Option ProgramState) → program_step s t ≡ o → Steps s t
      go None k = absurd (faultless (because Syntax)
          ((syntax_decides ts t s h).0 (ap (λ (x : Option ProgramState). not (is_some x)) k)))
      go (Some next) k = record { next = next; steps = k }

  pub unrefused_steps : cause_of s t ≡ None → Steps s t
  unrefused_steps e = faultless_steps (unrefused e)
