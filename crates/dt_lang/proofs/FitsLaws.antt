-- What isn't refused leaves the lists of a state within the limits.
use Rattle.std.proofs.Common.{◌≡◌, ◌⊎◌, inl, inr, ℕ, ℤ, ◌+◌, ◌<◌, ◌≤◌, leb, Bool, true, false, ◌&&◌, List, [], Ok}
use Rattle.std.proofs.Common.{◌∷◌, ◌++◌, length, Option, Some, None, is_some, refl, sym, ap, ◌∙◌, subst, length-append}
use Rattle.std.proofs.Common.{eqb, arith, leb-false, cond, if◌then◌else◌, pos}
use Rattle.std.specs.Prelude.{option_and_then, option_map}
use Rattle.dt_expr.specs.Form.{Form}
use Rattle.dt_program.specs.declared.clause.TheConstants.{DESCRIPTIONS_MAX, STATEMENTS_MAX, KEYS_MAX, FRAMES_MAX}
use Rattle.dt_program.specs.declared.program.TheConstants.{CLAUSES_MAX, TOKENS_MAX}
use Rattle.dt_lang.specs.declared.token.Sign.TheVariants as sign
use Rattle.dt_lang.specs.declared.token.Token.{Token}
use Rattle.dt_lang.specs.declared.token.Token.TheVariants as token
use Rattle.dt_lang.specs.declared.word.Action.{Action}
use Rattle.dt_lang.specs.declared.word.Action.TheVariants as action
use Rattle.dt_lang.specs.declared.word.Function.{Function}
use Rattle.dt_lang.specs.declared.word.Function.TheVariants as function
use Rattle.dt_lang.specs.declared.word.Keyword.TheVariants as keyword
use Rattle.dt_lang.specs.declared.word.Word.TheVariants as word
use Rattle.dt_lang.specs.machine.ExpressionState as expression
use Rattle.dt_lang.specs.Grammar.{call_of, statement_of, before_statement, after_statement}
use Rattle.dt_program.specs.Clause.{ArgForm, number, CallForm, StatementForm, aggregate, assign, ClauseForm}
use Rattle.dt_lang.specs.Stand.{Slot, predicate, given, key, value, assignment}
use Rattle.dt_lang.specs.machine.ClauseState.{BoundForm, at_lower, at_upper, at_step, PlaceForm, outside, described, listed, InsideForm, inside, inside_step_from}
use Rattle.dt_lang.specs.machine.ClauseState.{guarded, body, called, stack_opened, closing, named, keyed, assigned, applied, within}
use Rattle.dt_lang.specs.machine.ClauseState.{bounding, negating, bounded, ProgramState, program_at, with_statement, ended, entered}
use Rattle.dt_lang.specs.machine.ClauseState.{self_read, arrow_read, variable, drawing, from_self, from_variable, from_drawing}
use Rattle.dt_lang.specs.machine.ClauseState.{shut_assignment, is_speculation, begin_draw, end_within}
use Rattle.dt_lang.specs.machine.ClauseState.{from_outside, from_described, from_listed, from_guarded, from_before_statement, from_after_statement}
use Rattle.dt_lang.specs.machine.ClauseState.{after_call, from_called, stack_of, from_stack_opened, from_closing, from_named, from_keyed}
use Rattle.dt_lang.specs.machine.ClauseState.{from_assigned, function_given, from_applied, shut_predicate, shut_given}
use Rattle.dt_lang.specs.machine.ClauseState.{shut_key, shut_levels, shut_value, shut, go_on, from_within}
use Rattle.dt_lang.specs.machine.ClauseState.{from_bounding, from_negating, from_bounded, program_step_from, program_step}
use Rattle.dt_lang.specs.declared.fault.Limit.{Limit}
use Rattle.dt_lang.specs.declared.fault.Limit.TheVariants as limits
use Rattle.dt_lang.specs.machine.Cause.{is_one_more, limit_within, too_long_at}
use Rattle.dt_lang.specs.machine.Fits.{FitsClause, FitsStatement, FitsTarget, FitsKey, FitsSlot, FitsWithin, FitsInside, FitsAt, Fits}
use Rattle.dt_lang.specs.laws.ClauseSound.{none_some, same_some}
use Rattle.dt_lang.specs.laws.TakesLaws.{or_left}

landed : (s next : ProgramState) → Some s ≡ Some next → Fits s → Fits next
landed s next e h = subst (λ (x : ProgramState). Fits x) (same_some e) h

longer : {A : Type 0} (xs : List A) (x : A) (n : ℕ) → length xs < n → length (xs ++ (x ∷ [])) ≤ n
longer xs x n h = omega (arith, length-append xs (x ∷ []))

some_more : {A : Type 0} (xs : List A) (x : A) → 1 ≤ length (xs ++ (x ∷ []))
some_more xs x = omega (arith, length-append xs (x ∷ []))

left_false : (a : Bool) → a && true ≡ false → a ≡ false
left_false true e = e
left_false false e = refl

-- a limit that isn't passed
unmet : (b : Bool) (limit : Limit) → cond b (Some limit) None ≡ None → b ≡ false
unmet true limit e = cc
unmet false limit e = refl

within_unmet : (tokens keys : Bool) → cond tokens (Some limits.Tokens) (cond keys (Some limits.Keys) None) ≡ None
    → (tokens ≡ false) × (keys ≡ false)
within_unmet true keys e = cc
within_unmet false true e = cc
within_unmet false false e = (refl, refl)

module _ (cs : List ClauseForm) where
  fits_outside : (t : Token) (next : ProgramState) (c : ClauseForm) → too_long_at cs c outside t ≡ None
      → from_outside cs t ≡ Some next → Fits next
  fits_outside (token.Description (Ok d)) next c l e = landed _ _ e (record {
    room = leb-false CLAUSES_MAX (length cs) (unmet _ _ l);
    described = omega arith;
    few_descriptions = omega arith;
    few = omega arith;
  })
  fits_outside _ next c l e = absurd (none_some e)

fits_after_statement : (cs : List ClauseForm) (c : ClauseForm) (t : Token) (next : ProgramState) → FitsClause cs c
    → from_after_statement cs c t ≡ Some next → Fits next
fits_after_statement cs c (token.Sign sign.Semicolon) next h e = landed _ _ e h
fits_after_statement cs c (token.Sign sign.CloseBrace) next h e = landed _ _ e (longer cs c CLAUSES_MAX h.room)
fits_after_statement cs c _ next h e = absurd (none_some e)

module _ (cs : List ClauseForm) (c : ClauseForm) where
  fits_described : (t : Token) (next : ProgramState) → FitsClause cs c → from_described cs c t ≡ Some next → Fits next
  fits_described (token.Sign sign.Comma) next h e = landed _ _ e h
  fits_described (token.Sign sign.Slash) next h e = landed _ _ e (record { fits = h; few = omega arith })
  fits_described (token.Sign sign.OpenBrace) next h e = landed _ _ e h
  fits_described _ next h e = absurd (none_some e)

  fits_listed : (t : Token) (next : ProgramState) → FitsClause cs c → too_long_at cs c listed t ≡ None
      → from_listed cs c t ≡ Some next → Fits next
  fits_listed (token.Description (Ok d)) next h l e = landed _ _ e (record {
    room = h.room;
    described = some_more c.descriptions _;
    few_descriptions = longer c.descriptions _ DESCRIPTIONS_MAX
        (leb-false DESCRIPTIONS_MAX (length c.descriptions) (unmet _ _ l));
    few = h.few;
  })
  fits_listed _ next h l e = absurd (none_some e)

  fits_guarded : (t : Token) (next : ProgramState) → FitsClause cs c → from_guarded cs c t ≡ Some next → Fits next
  fits_guarded (token.Sign sign.OpenBrace) next h e = landed _ _ e h
  fits_guarded _ next h e = absurd (none_some e)

  fits_before_statement : (t : Token) (next : ProgramState) → FitsClause cs c → too_long_at cs c (body before_statement) t ≡ None
      → from_before_statement cs c t ≡ Some next → Fits next
  fits_before_statement (token.Sign sign.Semicolon) next h l e = landed _ _ e h
  fits_before_statement (token.Sign sign.CloseBrace) next h l e = landed _ _ e (longer cs c CLAUSES_MAX h.room)
  fits_before_statement (token.Word (word.Action a)) next h l e =
      landed _ _ e (record { clause = h; room = leb-false STATEMENTS_MAX (length c.statements) (left_false _ (unmet _ _ l)) })
  fits_before_statement (token.Word (word.Keyword keyword.ThreadLocal)) next h l e =
      landed _ _ e (record { clause = h; room = leb-false STATEMENTS_MAX (length c.statements) (left_false _ (unmet _ _ l)) })
  fits_before_statement (token.Aggregation name) next h l e =
      landed _ _ e (record { clause = h; room = leb-false STATEMENTS_MAX (length c.statements) (left_false _ (unmet _ _ l)) })
  fits_before_statement _ next h l e = absurd (none_some e)

  fits_ended : (s : StatementForm) → FitsStatement cs c → Fits (ended cs c s)
  fits_ended s h = record {
    room = h.clause.room;
    described = h.clause.described;
    few_descriptions = h.clause.few_descriptions;
    few = longer c.statements s STATEMENTS_MAX h.room;
  }

  fits_after_call : (a : Action) → FitsStatement cs c → Fits (after_call a cs c)
  fits_after_call action.Stack h = h
  fits_after_call action.Ustack h = h
  fits_after_call _ h = record { fits = h; few = omega arith }

  fits_called : (a : Action) (t : Token) (next : ProgramState) → FitsStatement cs c → from_called cs c a t ≡ Some next
      → Fits next
  fits_called a (token.Sign sign.OpenParen) next h e = landed _ _ e (fits_after_call a h)
  fits_called a _ next h e = absurd (none_some e)

  fits_frames : (process : Bool) (n : ℕ) (few : Bool) (next : ProgramState) → FitsStatement cs c
      → (if few then Some (program_at cs c (inside (closing (stack_of process n)))) else None) ≡ Some next → Fits next
  fits_frames process n true next h e = landed _ _ e h
  fits_frames process n false next h e = absurd (none_some e)

  fits_stack_opened : (process : Bool) (t : Token) (next : ProgramState) → FitsStatement cs c
      → from_stack_opened cs c process t ≡ Some next → Fits next
  fits_stack_opened process (token.Number (pos n)) next h e = fits_frames process n (leb 1 n && leb n FRAMES_MAX) next h e
  fits_stack_opened process _ next h e = absurd (none_some e)

  fits_closing : (s : StatementForm) (t : Token) (next : ProgramState) → FitsStatement cs c
      → from_closing cs c s t ≡ Some next → Fits next
  fits_closing s (token.Sign sign.CloseParen) next h e = landed _ _ e (fits_ended s h)
  fits_closing s _ next h e = absurd (none_some e)

  -- a key may begin: nothing was read for it
  fits_key_begins : (name : List ℕ) (keys : List ArgForm) → FitsTarget cs c keys → Fits (entered cs c (key name keys))
  unfolding expression.done
  fits_key_begins name keys h = record { fits = record { target = h; room = inr (refl, refl) }; few = omega arith }

  fits_named : (name : List ℕ) (t : Token) (next : ProgramState) → FitsStatement cs c
      → from_named cs c name t ≡ Some next → Fits next
  fits_named name (token.Sign sign.OpenBracket) next h e =
      landed _ _ e (fits_key_begins name [] (record { statement = h; few = omega arith }))
  fits_named name (token.Sign sign.Equal) next h e = landed _ _ e (record { statement = h; few = omega arith })
  fits_named name _ next h e = absurd (none_some e)

  fits_keyed : (name : List ℕ) (keys : List ArgForm) (t : Token) (next : ProgramState) → FitsTarget cs c keys
      → from_keyed cs c name keys t ≡ Some next → Fits next
  fits_keyed name keys (token.Sign sign.Equal) next h e = landed _ _ e h
  fits_keyed name keys _ next h e = absurd (none_some e)

  fits_assigned : (name : List ℕ) (keys : List ArgForm) (t : Token) (next : ProgramState) → FitsTarget cs c keys
      → from_assigned cs c name keys t ≡ Some next → Fits next
  fits_assigned name keys (token.Word (word.Function fn)) next h e = landed _ _ e h
  fits_assigned name keys _ next h e = absurd (none_some e)

  fits_given : (name : List ℕ) (keys : List ArgForm) (fn : Function) → FitsTarget cs c keys
      → Fits (function_given cs c name keys fn)
  fits_given name keys function.Count h = h.statement
  fits_given name keys function.Sum h = record { fits = h; few = omega arith }
  fits_given name keys function.Avg h = record { fits = h; few = omega arith }
  fits_given name keys function.Min h = record { fits = h; few = omega arith }
  fits_given name keys function.Max h = record { fits = h; few = omega arith }
  fits_given name keys function.Quantize h = record { fits = h; few = omega arith }
  fits_given name keys function.Lquantize h = record { fits = h; few = omega arith }

  fits_applied : (name : List ℕ) (keys : List ArgForm) (fn : Function) (t : Token) (next : ProgramState)
      → FitsTarget cs c keys → from_applied cs c name keys fn t ≡ Some next → Fits next
  fits_applied name keys fn (token.Sign sign.OpenParen) next h e = landed _ _ e (fits_given name keys fn h)
  fits_applied name keys fn _ next h e = absurd (none_some e)

  fits_predicate : (a : ArgForm) (t : Token) (next : ProgramState) → FitsClause cs c
      → shut_predicate cs c a t ≡ Some next → Fits next
  fits_predicate (number f) (token.Sign sign.Slash) next h e = landed _ _ e (record {
    room = h.room;
    described = h.described;
    few_descriptions = h.few_descriptions;
    few = h.few;
  })
  fits_predicate _ _ next h e = absurd (none_some e)

  fits_statement : (s : Option StatementForm) (next : ProgramState) → FitsStatement cs c
      → option_and_then (λ s. Some (ended cs c s)) s ≡ Some next → Fits next
  fits_statement (Some s) next h e = landed _ _ e (fits_ended _ h)
  fits_statement None next h e = absurd (none_some e)

  fits_argument : (action : Action) (a : ArgForm) (t : Token) (next : ProgramState) → FitsStatement cs c
      → shut_given cs c action a t ≡ Some next → Fits next
  fits_argument action a (token.Sign sign.CloseParen) next h e = fits_statement (statement_of action a) next h e
  fits_argument action a _ next h e = absurd (none_some e)

  -- one key more
  fits_more : (keys : List ArgForm) (a : ArgForm) (n : ℕ) (x : expression.State) → FitsKey cs c keys n x
      → expression.done x ≡ Some a → FitsTarget cs c (keys ++ (a ∷ []))
  fits_more keys a n x h d = record { statement = h.target.statement; few = longer keys a KEYS_MAX (room h.room) }
    where
      room : (length keys < KEYS_MAX) ⊎ ((n ≡ 0) × (expression.done x ≡ None)) → length keys < KEYS_MAX
      room (inl r) = r
      room (inr r) = absurd (none_some (sym r.1 ∙ d))

  fits_key : (name : List ℕ) (keys : List ArgForm) (a : ArgForm) (n : ℕ) (x : expression.State) (t : Token)
      (next : ProgramState) → FitsKey cs c keys n x → expression.done x ≡ Some a
      → shut_key cs c name keys a t ≡ Some next → Fits next
  fits_key name keys a n x (token.Sign sign.Comma) next h d e =
      landed _ _ e (fits_key_begins name (keys ++ (a ∷ [])) (fits_more keys a n x h d))
  fits_key name keys a n x (token.Sign sign.CloseBracket) next h d e = landed _ _ e (fits_more keys a n x h d)
  fits_key name keys a n x _ next h d e = absurd (none_some e)

  fits_call : (name : List ℕ) (keys : List ArgForm) (call : Option CallForm) (next : ProgramState)
      → FitsTarget cs c keys
      → option_and_then (λ call. Some (ended cs c (aggregate name keys call))) call ≡ Some next → Fits next
  fits_call name keys (Some call) next h e = landed _ _ e (fits_ended _ h.statement)
  fits_call name keys None next h e = absurd (none_some e)

  fits_levels : (name : List ℕ) (keys : List ArgForm) (fn : Function) (f : Form) (next : ProgramState)
      → FitsTarget cs c keys → shut_levels cs c name keys fn f ≡ Some next → Fits next
  fits_levels name keys function.Lquantize f next h e = landed _ _ e h
  fits_levels name keys _ f next h e = absurd (none_some e)

  fits_value : (name : List ℕ) (keys : List ArgForm) (fn : Function) (a : ArgForm) (t : Token) (next : ProgramState)
      → FitsTarget cs c keys → shut_value cs c name keys fn a t ≡ Some next → Fits next
  fits_value name keys fn (number f) (token.Sign sign.CloseParen) next h e =
      fits_call name keys (call_of fn f) next h e
  fits_value name keys fn (number f) (token.Sign sign.Comma) next h e = fits_levels name keys fn f next h e
  fits_value name keys fn _ _ next h e = absurd (none_some e)

  fits_assignment : (name : List ℕ) (a : ArgForm) (t : Token) (next : ProgramState) → FitsStatement cs c
      → shut_assignment cs c name a t ≡ Some next → Fits next
  fits_assignment name (number f) t next h e =
      fits_after_statement cs (with_statement c (assign name f)) t next (fits_ended (assign name f) h) e
  fits_assignment name _ t next h e = absurd (none_some e)

  fits_drawn : (b : Bool) (name : List ℕ) (next : ProgramState) → FitsStatement cs c
      → (if b then Some (program_at cs c (inside (drawing name))) else None) ≡ Some next → Fits next
  fits_drawn true name next h e = landed _ _ e h
  fits_drawn false name next h e = absurd (none_some e)

  fits_begin_draw : (slot : Slot) (n : ℕ) (x : expression.State) (t : Token) (next : ProgramState)
      → FitsSlot cs c slot n x → begin_draw cs c slot n t ≡ Some next → Fits next
  fits_begin_draw (assignment name) n x t next h e = fits_drawn (eqb n 0 && is_speculation t) name next h e
  fits_begin_draw _ n x t next h e = absurd (none_some e)

  fits_shut : (slot : Slot) (a : ArgForm) (n : ℕ) (x : expression.State) (t : Token) (next : ProgramState)
      → FitsSlot cs c slot n x → expression.done x ≡ Some a → shut cs c slot t a ≡ Some next → Fits next
  fits_shut predicate a n x t next h d e = fits_predicate a t next h e
  fits_shut (given action) a n x t next h d e = fits_argument action a t next h e
  fits_shut (key name keys) a n x t next h d e = fits_key name keys a n x t next h d e
  fits_shut (value name keys fn) a n x t next h d e = fits_value name keys fn a t next h e
  fits_shut (assignment name) a n x t next h d e = fits_assignment name a t next h e

  fits_done : (slot : Slot) (n : ℕ) (x : expression.State) (t : Token) (next : ProgramState) (d : Option ArgForm)
      → expression.done x ≡ d → FitsSlot cs c slot n x → end_within cs c slot n t d ≡ Some next → Fits next
  fits_done slot n x t next (Some a) d h e = fits_shut slot a n x t next h d e
  fits_done slot n x t next None d h e = fits_begin_draw slot n x t next h e

  key_room : (name : List ℕ) (keys : List ArgForm) (n : ℕ) (x : expression.State) → FitsKey cs c keys n x
      → limit_within (key name keys) n ≡ None → length keys < KEYS_MAX
  key_room name keys n x h l = go h.room
    where
      go : (length keys < KEYS_MAX) ⊎ ((n ≡ 0) × (expression.done x ≡ None)) → length keys < KEYS_MAX
      go (inl r) = r
      go (inr r) =
          let i : limit_within (key name keys) 0 ≡ None = rw r.0 at l in
          leb-false KEYS_MAX (length keys) (within_unmet false _ i).1

  fits_more_of : (slot : Slot) (n : ℕ) (x next : expression.State) → FitsSlot cs c slot n x
      → limit_within slot n ≡ None
      → FitsSlot cs c slot (n + 1) next
  fits_more_of predicate n x next h l = h
  fits_more_of (given a) n x next h l = h
  fits_more_of (key name keys) n x next h l = record { target = h.target; room = inl (key_room name keys n x h l) }
  fits_more_of (value name keys fn) n x next h l = h
  fits_more_of (assignment name) n x next h l = h

  few_more : (slot : Slot) (n : ℕ) → limit_within slot n ≡ None → n + 1 ≤ TOKENS_MAX
  few_more slot n l = let i = leb-false TOKENS_MAX n (within_unmet (leb TOKENS_MAX n) _ l).0 in omega arith

  fits_go_on : (slot : Slot) (n : ℕ) (x : expression.State) (t : Token) (next : ProgramState)
      (o : Option expression.State) → expression.step x t ≡ o → FitsWithin cs c slot n x
      → too_long_at cs c (within slot n x) t ≡ None → go_on cs c slot n x t o ≡ Some next → Fits next
  fits_go_on slot n x t next (Some m) k h l e =
      let i : is_one_more x t ≡ true = or_left (is_some (expression.step x t)) _ (ap is_some k) in
      let j : limit_within slot n ≡ None = rw i at l in
      landed _ _ e (record { fits = fits_more_of slot n x m h.fits j; few = few_more slot n j })
  fits_go_on slot n x t next None k h l e = fits_done slot n x t next (expression.done x) refl h.fits e

  fits_within : (slot : Slot) (n : ℕ) (x : expression.State) (t : Token) (next : ProgramState)
      → FitsWithin cs c slot n x → too_long_at cs c (within slot n x) t ≡ None
      → from_within cs c slot n x t ≡ Some next → Fits next
  fits_within slot n x t next h l e = fits_go_on slot n x t next (expression.step x t) refl h l e

  module _ (name : List ℕ) (keys : List ArgForm) (f : Form) (h : FitsTarget cs c keys) where
    fits_bounding : (b : BoundForm) (t : Token) (next : ProgramState) → from_bounding cs c name keys f b t ≡ Some next
        → Fits next
    fits_bounding b (token.Number (pos n)) next e = landed _ _ e h
    fits_bounding b (token.Sign sign.Minus) next e = landed _ _ e h
    fits_bounding b _ next e = absurd (none_some e)

    fits_negating : (b : BoundForm) (t : Token) (next : ProgramState) → from_negating cs c name keys f b t ≡ Some next
        → Fits next
    fits_negating b (token.Number (pos n)) next e = landed _ _ e h
    fits_negating b _ next e = absurd (none_some e)

    fits_bounded : (b : BoundForm) (z : ℤ) (t : Token) (next : ProgramState)
        → from_bounded cs c name keys f b z t ≡ Some next → Fits next
    fits_bounded at_lower z (token.Sign sign.Comma) next e = landed _ _ e h
    fits_bounded (at_upper lower) z (token.Sign sign.Comma) next e = landed _ _ e h
    fits_bounded (at_upper lower) z (token.Sign sign.CloseParen) next e = landed _ _ e (fits_ended _ h.statement)
    fits_bounded (at_step lower upper) z (token.Sign sign.CloseParen) next e = landed _ _ e (fits_ended _ h.statement)
    fits_bounded _ z _ next e = absurd (none_some e)

  fits_self : (t : Token) (next : ProgramState) → FitsStatement cs c → from_self cs c t ≡ Some next → Fits next
  fits_self (token.Sign sign.Arrow) next h e = landed _ _ e h
  fits_self _ next h e = absurd (none_some e)

  fits_name : (o : Option (List ℕ)) (next : ProgramState) → FitsStatement cs c
      → option_map (λ name. program_at cs c (inside (variable name))) o ≡ Some next → Fits next
  fits_name (Some name) next h e = landed _ _ e h
  fits_name None next h e = absurd (none_some e)

  fits_variable : (name : List ℕ) (t : Token) (next : ProgramState) → FitsStatement cs c
      → from_variable cs c name t ≡ Some next → Fits next
  fits_variable name (token.Sign sign.Equal) next h e = landed _ _ e (record { fits = h; few = omega arith })
  fits_variable name _ next h e = absurd (none_some e)

  fits_drawing : (name : List ℕ) (t : Token) (next : ProgramState) → FitsStatement cs c
      → from_drawing cs c name t ≡ Some next → Fits next
  fits_drawing name (token.Sign sign.OpenParen) next h e = landed _ _ e h
  fits_drawing name _ next h e = absurd (none_some e)

  fits_inside : (p : InsideForm) (t : Token) (next : ProgramState) → FitsInside cs c p
      → inside_step_from cs c p t ≡ Some next → Fits next
  fits_inside (called a) t next h e = fits_called a t next h e
  fits_inside (stack_opened process) t next h e = fits_stack_opened process t next h e
  fits_inside (closing s) t next h e = fits_closing s t next h e
  fits_inside (named name) t next h e = fits_named name t next h e
  fits_inside (keyed name keys) t next h e = fits_keyed name keys t next h e
  fits_inside (assigned name keys) t next h e = fits_assigned name keys t next h e
  fits_inside (applied name keys fn) t next h e = fits_applied name keys fn t next h e
  fits_inside (bounding name keys f b) t next h e = fits_bounding name keys f h b t next e
  fits_inside (negating name keys f b) t next h e = fits_negating name keys f h b t next e
  fits_inside (bounded name keys f b z) t next h e = fits_bounded name keys f h b z t next e
  fits_inside self_read t next h e = fits_self t next h e
  fits_inside arrow_read t next h e = fits_name (expression.name_of_token t) next h e
  fits_inside (variable name) t next h e = fits_variable name t next h e
  fits_inside (drawing name) t next h e = fits_drawing name t next h e

  fits_from : (p : PlaceForm) (t : Token) (next : ProgramState) → FitsAt cs c p → too_long_at cs c p t ≡ None
      → program_step_from cs c p t ≡ Some next → Fits next
  fits_from outside t next h l e = fits_outside cs t next c l e
  fits_from described t next h l e = fits_described t next h e
  fits_from listed t next h l e = fits_listed t next h l e
  fits_from guarded t next h l e = fits_guarded t next h e
  fits_from (body before_statement) t next h l e = fits_before_statement t next h l e
  fits_from (body after_statement) t next h l e = fits_after_statement cs c t next h e
  fits_from (inside p) t next h l e = fits_inside p t next h e
  fits_from (within slot n x) t next h l e = fits_within slot n x t next h l e

-- What isn't one too many leaves the lists of the state within the limits.
pub fits_step : (s next : ProgramState) (t : Token) → Fits s → too_long_at s.clauses s.clause s.place t ≡ None
    → program_step s t ≡ Some next → Fits next
unfolding program_step
fits_step s next t h l e = fits_from s.clauses s.clause s.place t next h l e
