-- What a step of the reading of programs says of the tokens that were read.
use Rattle.std.proofs.Common.{◌≡◌, ◌≢◌, ℕ, ◌+◌, leb, Bool, true, false, ◌&&◌, List, [], ◌∷◌, ◌++◌, Option, Some, None, Ok}
use Rattle.std.proofs.Common.{refl, sym, ap, ◌∙◌, subst, append_assoc, append-nil, length-append, ℤ, pos, leb-true}
use Rattle.std.proofs.Common.{if◌then◌else◌, length, eqb, eqb-true, arith}
use Rattle.std.specs.Prelude.{option_and_then, option_map}
use Rattle.dt_expr.specs.Form.{Form}
use Rattle.dt_program.specs.declared.clause.TheConstants.{FRAMES_MAX}
use Rattle.dt_lang.specs.declared.token.Sign.TheVariants as sign
use Rattle.dt_lang.specs.declared.token.Token.{Token}
use Rattle.dt_lang.specs.declared.token.Token.TheVariants as token
use Rattle.dt_lang.specs.declared.word.Action.{Action}
use Rattle.dt_lang.specs.declared.word.Action.TheVariants as action
use Rattle.dt_lang.specs.declared.word.Function.{Function}
use Rattle.dt_lang.specs.declared.word.Function.TheVariants as function
use Rattle.dt_lang.specs.declared.word.Keyword.TheVariants as keyword
use Rattle.dt_lang.specs.declared.word.Word.{Word}
use Rattle.dt_lang.specs.declared.word.Word.TheVariants as word
use Rattle.dt_lang.specs.Word.{word_bytes}
use Rattle.dt_lang.specs.Expression.{ReadsExpr, ReadsArgument, a_local}
use Rattle.dt_lang.specs.machine.ExpressionState as expression
use Rattle.dt_lang.specs.Grammar.{ReadsBounds, by_one, stepped, call_of, ReadsCall, counting, of_one, in_levels}
use Rattle.dt_lang.specs.Grammar.{statement_of, IsFrameCount, ReadsStatement, of_argument, of_stack, of_ustack, aggregating}
use Rattle.dt_lang.specs.Grammar.{assigning}
use Rattle.dt_lang.specs.Grammar.{before_statement, after_statement, ReadsClauses}
use Rattle.dt_lang.specs.Grammar as grammar
use Rattle.dt_program.specs.Clause.{ArgForm, number, CallForm, count, lquantize, StatementForm, aggregate, assign}
use Rattle.dt_program.specs.Clause.{ClauseForm}
use Rattle.dt_lang.specs.Stand.{HeadStands, BodyStands, KeysStand, TargetStands, Slot, predicate, given, key}
use Rattle.dt_lang.specs.Stand.{value, assignment, divides_in, SlotOpens, a_predicate, an_argument, first_key, a_key}
use Rattle.dt_lang.specs.Stand.{a_value, a_variable}
use Rattle.dt_lang.specs.machine.ClauseState.{BoundForm, at_lower, at_upper, at_step, PlaceForm, outside, described, listed, InsideForm, inside, inside_step_from}
use Rattle.dt_lang.specs.machine.ClauseState.{guarded, body, called, stack_opened, closing, named, keyed, assigned, applied, within}
use Rattle.dt_lang.specs.machine.ClauseState.{self_read, arrow_read, variable, drawing, from_self, from_arrow, from_variable, from_drawing}
use Rattle.dt_lang.specs.machine.ClauseState.{shut_assignment, begin_draw, end_within, is_speculation}
use Rattle.dt_lang.specs.machine.ClauseState.{bounding, negating, bounded, ProgramState, program_at, headed, with_statement}
use Rattle.dt_lang.specs.machine.ClauseState.{ended, entered, from_outside, from_described, from_listed, from_guarded}
use Rattle.dt_lang.specs.machine.ClauseState.{from_before_statement, from_after_statement, after_call, from_called, stack_of, from_stack_opened, from_closing}
use Rattle.dt_lang.specs.machine.ClauseState.{from_named, from_keyed, from_assigned, function_given, from_applied}
use Rattle.dt_lang.specs.machine.ClauseState.{shut_predicate, shut_given, shut_key, shut_levels, shut_value, shut}
use Rattle.dt_lang.specs.machine.ClauseState.{go_on, from_within, from_bounding, from_negating, from_bounded, program_step_from}
use Rattle.dt_lang.specs.machine.ClauseState.{program_step, program_run, program_start}
use Rattle.dt_lang.specs.laws.ExpressionLaws.{sound, sound_argument, run-append}
use Rattle.dt_lang.specs.laws.Reading.{HeadRead, ListRead, GuardRead, Follows, FollowsTarget, FollowsLocal, Closing, Within, BoundsBegin}
use Rattle.dt_lang.specs.laws.Reading.{Levels, Bounded, stack_action, ReadInside, ReadAt, Read, split_last, split_three, split_four}
use Rattle.dt_lang.specs.laws.Reading.{split_value, split_draw, split_levels, head_begins, head_goes_on, body_begins, guarded_body_begins}
use Rattle.dt_lang.specs.laws.Reading.{body_separated, body_stated, body_closed}

pub none_some : {A : Type 0} {x : A} → None ≡ Some x → ⊥
none_some e = cc

pub same_some : {A : Type 0} {x y : A} → Some x ≡ Some y → x ≡ y
same_some e = cc

landed : (ts : List Token) (s next : ProgramState) → Some s ≡ Some next → Read s ts → Read next ts
landed ts s next e h = subst (λ (x : ProgramState). Read x ts) (same_some e) h

-- heads
sound_outside : (cs : List ClauseForm) (ts : List Token) (t : Token) (next : ProgramState) → ReadsClauses ts cs
    → from_outside cs t ≡ Some next → Read next (ts ++ (t ∷ []))
sound_outside cs ts (token.Description (Ok d)) next h e = landed _ _ _ e (head_begins ts cs d h)
sound_outside cs ts t next h e = absurd (none_some e)

-- a slot's beginning, with nothing read for it yet
pub enters : (ts : List Token) (cs : List ClauseForm) (c : ClauseForm) (slot : Slot) → SlotOpens slot ts cs c
    → Read (entered cs c slot) ts
unfolding expression.run
enters ts cs c slot h = record {
  front = ts;
  back = [];
  split = sym (append-nil ts);
  opens = h;
  runs = refl;
  counts = refl;
}

predicate_opens : (ts : List Token) (cs : List ClauseForm) (c : ClauseForm) → HeadRead ts cs c
    → SlotOpens predicate (ts ++ (token.Sign sign.Slash ∷ [])) cs c
predicate_opens ts cs c h =
    subst (λ (x : ClauseForm). SlotOpens predicate (ts ++ (token.Sign sign.Slash ∷ [])) cs x) (sym h.fresh)
    (a_predicate ts cs c.descriptions h.stands)

sound_described : (cs : List ClauseForm) (c : ClauseForm) (ts : List Token) (t : Token) (next : ProgramState)
    → HeadRead ts cs c → from_described cs c t ≡ Some next → Read next (ts ++ (t ∷ []))
sound_described cs c ts (token.Sign sign.Comma) next h e =
    landed _ _ _ e (record { front = ts; split = refl; head = h })
sound_described cs c ts (token.Sign sign.Slash) next h e =
    landed _ _ _ e (enters _ _ _ predicate (predicate_opens ts cs c h))
sound_described cs c ts (token.Sign sign.OpenBrace) next h e = landed _ _ _ e (body_begins ts cs c h)
sound_described cs c ts t next h e = absurd (none_some e)

sound_listed : (cs : List ClauseForm) (c : ClauseForm) (ts : List Token) (t : Token) (next : ProgramState)
    → ListRead ts cs c → from_listed cs c t ≡ Some next → Read next (ts ++ (t ∷ []))
sound_listed cs c ts (token.Description (Ok d)) next h e = landed _ _ _ e (head_goes_on ts cs c d h)
sound_listed cs c ts t next h e = absurd (none_some e)

sound_guarded : (cs : List ClauseForm) (c : ClauseForm) (ts : List Token) (t : Token) (next : ProgramState)
    → GuardRead ts cs c → from_guarded cs c t ≡ Some next → Read next (ts ++ (t ∷ []))
sound_guarded cs c ts (token.Sign sign.OpenBrace) next h e = landed _ _ _ e (guarded_body_begins ts cs c h)
sound_guarded cs c ts t next h e = absurd (none_some e)

-- bodies
sound_before_statement : (cs : List ClauseForm) (c : ClauseForm) (ts : List Token) (t : Token) (next : ProgramState)
    → BodyStands before_statement ts cs c → from_before_statement cs c t ≡ Some next → Read next (ts ++ (t ∷ []))
sound_before_statement cs c ts (token.Sign sign.Semicolon) next h e = landed _ _ _ e (body_separated before_statement ts cs c h)
sound_before_statement cs c ts (token.Sign sign.CloseBrace) next h e = landed _ _ _ e (body_closed before_statement ts cs c h)
sound_before_statement cs c ts (token.Word (word.Action a)) next h e =
    landed _ _ _ e (record { front = ts; split = refl; stands = h })
sound_before_statement cs c ts (token.Word (word.Keyword keyword.ThreadLocal)) next h e =
    landed _ _ _ e (record { front = ts; split = refl; stands = h })
sound_before_statement cs c ts (token.Aggregation name) next h e =
    landed _ _ _ e (record { front = ts; split = refl; stands = h })
sound_before_statement cs c ts t next h e = absurd (none_some e)

sound_after_statement : (cs : List ClauseForm) (c : ClauseForm) (ts : List Token) (t : Token) (next : ProgramState)
    → BodyStands after_statement ts cs c → from_after_statement cs c t ≡ Some next → Read next (ts ++ (t ∷ []))
sound_after_statement cs c ts (token.Sign sign.Semicolon) next h e = landed _ _ _ e (body_separated after_statement ts cs c h)
sound_after_statement cs c ts (token.Sign sign.CloseBrace) next h e = landed _ _ _ e (body_closed after_statement ts cs c h)
sound_after_statement cs c ts t next h e = absurd (none_some e)

-- statements
follows_one : (tail ts : List Token) (t : Token) (cs : List ClauseForm) (c : ClauseForm) → Follows tail ts cs c
    → Follows (tail ++ (t ∷ [])) (ts ++ (t ∷ [])) cs c
follows_one tail ts t cs c h =
    record { front = h.front; split = split_last ts h.front tail t h.split; stands = h.stands }

opens_in : (slot : Slot) (tail ts : List Token) (cs : List ClauseForm) (c : ClauseForm) (h : Follows tail ts cs c)
    → SlotOpens slot (h.front ++ tail) cs c → SlotOpens slot ts cs c
opens_in slot tail ts cs c h k = subst (λ (x : List Token). SlotOpens slot x cs c) (sym h.split) k

read_opened : (cs : List ClauseForm) (c : ClauseForm) (ts : List Token) (a : Action)
    → Follows (token.Word (word.Action a) ∷ token.Sign sign.OpenParen ∷ []) ts cs c → Read (after_call a cs c) ts
read_opened cs c ts action.Stack h = h
read_opened cs c ts action.Ustack h = h
read_opened cs c ts a h =
    enters _ _ _ (given a) (opens_in (given a) _ ts cs c h (an_argument h.front cs c a (λ f. (_, refl)) h.stands))

sound_called : (cs : List ClauseForm) (c : ClauseForm) (a : Action) (ts : List Token) (t : Token) (next : ProgramState)
    → Follows (token.Word (word.Action a) ∷ []) ts cs c → from_called cs c a t ≡ Some next
    → Read next (ts ++ (t ∷ []))
sound_called cs c a ts (token.Sign sign.OpenParen) next h e =
    landed _ _ _ e (read_opened cs c _ a (follows_one _ ts _ cs c h))
sound_called cs c a ts t next h e = absurd (none_some e)

reads_stack : (process : Bool) (n : ℕ) → IsFrameCount n
    → ReadsStatement (token.Word (word.Action (stack_action process)) ∷ token.Sign sign.OpenParen
    ∷ token.Number (pos n)
    ∷ token.Sign sign.CloseParen ∷ []) (stack_of process n)
reads_stack true n h = of_ustack n h
reads_stack false n h = of_stack n h

stack_opened_closes : (cs : List ClauseForm) (c : ClauseForm) (process : Bool) (ts : List Token) (n : ℕ) → IsFrameCount n
    → Follows (token.Word (word.Action (stack_action process)) ∷ token.Sign sign.OpenParen ∷ []) ts cs c
    → Closing (ts ++ (token.Number (pos n) ∷ [])) cs c (stack_of process n)
stack_opened_closes cs c process ts n k h = record {
  front = h.front;
  back = token.Word (word.Action (stack_action process)) ∷ token.Sign sign.OpenParen ∷ token.Number (pos n) ∷ [];
  split = split_last ts h.front _ _ h.split;
  stands = h.stands;
  reads = reads_stack process n k;
}

both_left : (a b : Bool) → a && b ≡ true → a ≡ true
both_left true b e = refl
both_left false b e = e

both_right : (a b : Bool) → a && b ≡ true → b ≡ true
both_right true b e = e
both_right false b e = cc

are_frames : (n : ℕ) → leb 1 n && leb n FRAMES_MAX ≡ true → IsFrameCount n
are_frames n e =
    record { some = leb-true 1 n (both_left _ _ e); few = leb-true n FRAMES_MAX (both_right (leb 1 n) _ e) }

sound_frames : (cs : List ClauseForm) (c : ClauseForm) (process : Bool) (ts : List Token) (n : ℕ) (next : ProgramState)
    (few : Bool) → leb 1 n && leb n FRAMES_MAX ≡ few
    → Follows (token.Word (word.Action (stack_action process)) ∷ token.Sign sign.OpenParen ∷ []) ts cs c
    → (if few then Some (program_at cs c (inside (closing (stack_of process n)))) else None) ≡ Some next
    → Read next (ts ++ (token.Number (pos n) ∷ []))
sound_frames cs c process ts n next true k h e = landed _ _ _ e (stack_opened_closes cs c process ts n (are_frames n k) h)
sound_frames cs c process ts n next false k h e = absurd (none_some e)

sound_stack_opened : (cs : List ClauseForm) (c : ClauseForm) (process : Bool) (ts : List Token) (t : Token)
    (next : ProgramState)
    → Follows (token.Word (word.Action (stack_action process)) ∷ token.Sign sign.OpenParen ∷ []) ts cs c
    → from_stack_opened cs c process t ≡ Some next → Read next (ts ++ (t ∷ []))
sound_stack_opened cs c process ts (token.Number (pos n)) next h e = sound_frames cs c process ts n next _ refl h e
sound_stack_opened cs c process ts t next h e = absurd (none_some e)

sound_closing : (cs : List ClauseForm) (c : ClauseForm) (s : StatementForm) (ts : List Token) (t : Token)
    (next : ProgramState) → Closing ts cs c s → from_closing cs c s t ≡ Some next → Read next (ts ++ (t ∷ []))
sound_closing cs c s ts (token.Sign sign.CloseParen) next h e =
    landed _ _ _ e (body_stated _ h.front _ cs c s (split_last ts h.front h.back _ h.split) h.stands h.reads)
sound_closing cs c s ts t next h e = absurd (none_some e)

-- aggregations
bare_target : (ts : List Token) (cs : List ClauseForm) (c : ClauseForm) (name : List ℕ)
    → Follows (token.Aggregation name ∷ []) ts cs c → TargetStands ts cs c name []
bare_target ts cs c name h = record {
  front = h.front;
  back = token.Aggregation name ∷ [];
  split = h.split;
  stands = h.stands;
  reads = grammar.bare name;
}

sound_named : (cs : List ClauseForm) (c : ClauseForm) (name : List ℕ) (ts : List Token) (t : Token)
    (next : ProgramState) → Follows (token.Aggregation name ∷ []) ts cs c → from_named cs c name t ≡ Some next
    → Read next (ts ++ (t ∷ []))
sound_named cs c name ts (token.Sign sign.OpenBracket) next h e =
    let k = follows_one _ ts (token.Sign sign.OpenBracket) cs c h in
    landed _ _ _ e
    (enters _ _ _ (key name []) (opens_in (key name []) _ _ cs c k (first_key k.front cs c name k.stands)))
sound_named cs c name ts (token.Sign sign.Equal) next h e =
    landed _ _ _ e (record { front = ts; split = refl; stands = bare_target ts cs c name h })
sound_named cs c name ts t next h e = absurd (none_some e)

sound_keyed : (cs : List ClauseForm) (c : ClauseForm) (name : List ℕ) (keys : List ArgForm) (ts : List Token)
    (t : Token) (next : ProgramState) → TargetStands ts cs c name keys → from_keyed cs c name keys t ≡ Some next
    → Read next (ts ++ (t ∷ []))
sound_keyed cs c name keys ts (token.Sign sign.Equal) next h e =
    landed _ _ _ e (record { front = ts; split = refl; stands = h })
sound_keyed cs c name keys ts t next h e = absurd (none_some e)

sound_assigned : (cs : List ClauseForm) (c : ClauseForm) (name : List ℕ) (keys : List ArgForm) (ts : List Token)
    (t : Token) (next : ProgramState) → FollowsTarget (token.Sign sign.Equal ∷ []) ts cs c name keys
    → from_assigned cs c name keys t ≡ Some next → Read next (ts ++ (t ∷ []))
sound_assigned cs c name keys ts (token.Word (word.Function fn)) next h e =
    landed _ _ _ e (record { front = h.front; split = split_last ts h.front _ _ h.split; stands = h.stands })
sound_assigned cs c name keys ts t next h e = absurd (none_some e)

-- an aggregation with what it is given is a statement
aggregated : (ts front us : List Token) (cs : List ClauseForm) (c : ClauseForm) (name : List ℕ) (keys : List ArgForm)
    (call : CallForm) → TargetStands front cs c name keys → ReadsCall us call
    → ts ≡ front ++ (token.Sign sign.Equal ∷ us) → BodyStands after_statement ts cs (with_statement c (aggregate name keys call))
aggregated ts front us cs c name keys call h k e =
    body_stated ts h.front (h.back ++ (token.Sign sign.Equal ∷ us)) cs c _
    (rw (e, h.split) (simp append_assoc)) h.stands
    (aggregating h.back us name keys call h.reads k)

counting_closes : (cs : List ClauseForm) (c : ClauseForm) (name : List ℕ) (keys : List ArgForm) (ts : List Token)
    → FollowsTarget
    (token.Sign sign.Equal ∷ token.Word (word.Function function.Count) ∷ token.Sign sign.OpenParen ∷ []) ts
    cs c name keys
    → Closing ts cs c (aggregate name keys count)
counting_closes cs c name keys ts h =
    let s = h.stands in
    record {
      front = s.front;
      back = s.back ++ (token.Sign sign.Equal ∷ token.Word (word.Function function.Count) ∷ token.Sign
          sign.OpenParen ∷ []);
      split = rw (h.split, s.split) (simp append_assoc);
      stands = s.stands;
      reads = rw append_assoc (aggregating s.back _ name keys count s.reads counting);
    }

-- what is given to a function begins
value_opens : (cs : List ClauseForm) (c : ClauseForm) (name : List ℕ) (keys : List ArgForm) (fn : Function)
    (ts : List Token) → fn ≢ function.Count
    → FollowsTarget (token.Sign sign.Equal ∷ token.Word (word.Function fn) ∷ token.Sign sign.OpenParen ∷ []) ts
    cs c name keys
    → Read (entered cs c (value name keys fn)) ts
value_opens cs c name keys fn ts n h =
    let k : SlotOpens (value name keys fn)
    (h.front ++ (token.Sign sign.Equal ∷ token.Word (word.Function fn) ∷ token.Sign sign.OpenParen ∷ [])) cs c
    = a_value h.front cs c name keys fn n h.stands in
    enters ts cs c (value name keys fn)
    (subst (λ (x : List Token). SlotOpens (value name keys fn) x cs c) (sym h.split) k)

read_given : (cs : List ClauseForm) (c : ClauseForm) (name : List ℕ) (keys : List ArgForm) (fn : Function)
    (ts : List Token)
    → FollowsTarget (token.Sign sign.Equal ∷ token.Word (word.Function fn) ∷ token.Sign sign.OpenParen ∷ []) ts
    cs c name keys
    → Read (function_given cs c name keys fn) ts
read_given cs c name keys function.Count ts h = counting_closes cs c name keys ts h
read_given cs c name keys function.Sum ts h = value_opens cs c name keys _ ts (λ e. cc) h
read_given cs c name keys function.Avg ts h = value_opens cs c name keys _ ts (λ e. cc) h
read_given cs c name keys function.Min ts h = value_opens cs c name keys _ ts (λ e. cc) h
read_given cs c name keys function.Max ts h = value_opens cs c name keys _ ts (λ e. cc) h
read_given cs c name keys function.Quantize ts h = value_opens cs c name keys _ ts (λ e. cc) h
read_given cs c name keys function.Lquantize ts h = value_opens cs c name keys _ ts (λ e. cc) h

sound_applied : (cs : List ClauseForm) (c : ClauseForm) (name : List ℕ) (keys : List ArgForm) (fn : Function)
    (ts : List Token) (t : Token) (next : ProgramState)
    → FollowsTarget (token.Sign sign.Equal ∷ token.Word (word.Function fn) ∷ []) ts cs c name keys
    → from_applied cs c name keys fn t ≡ Some next → Read next (ts ++ (t ∷ []))
sound_applied cs c name keys fn ts (token.Sign sign.OpenParen) next h e =
    landed _ _ _ e (read_given cs c name keys fn _
    (record { front = h.front; split = split_last ts h.front _ _ h.split; stands = h.stands }))
sound_applied cs c name keys fn ts t next h e = absurd (none_some e)

-- what was read for a slot, with one more token
pub run_last : (e first next : expression.State) (ts : List Token) (t : Token) → expression.run first ts ≡ Some e
    → expression.step e t ≡ Some next → expression.run first (ts ++ (t ∷ [])) ≡ Some next
unfolding expression.run
run_last e first next ts t r k = run-append first ts (t ∷ []) ∙ rw (r, k) refl

within_more : (cs : List ClauseForm) (c : ClauseForm) (slot : Slot) (n : ℕ) (e next : expression.State)
    (ts : List Token) (t : Token) → Within ts cs c slot n e → expression.step e t ≡ Some next
    → Within (ts ++ (t ∷ [])) cs c slot (n + 1) next
within_more cs c slot n e next ts t h k = record {
  front = h.front;
  back = h.back ++ (t ∷ []);
  split = split_last ts h.front h.back t h.split;
  opens = h.opens;
  runs = run_last e _ next h.back t h.runs k;
  counts = rw h.counts (sym (length-append h.back (t ∷ [])));
}

-- where a slot begins
pub record PredicateOpens (ts : List Token) (cs : List ClauseForm) (c : ClauseForm) : Type 0 where
  pub front : List Token
  pub split : ts ≡ front ++ (token.Sign sign.Slash ∷ [])
  pub stands : HeadStands front cs c.descriptions
  pub fresh : c ≡ headed c.descriptions

opens_predicate : {ts : List Token} {cs : List ClauseForm} {c : ClauseForm} → SlotOpens predicate ts cs c
    → PredicateOpens ts cs c
opens_predicate (a_predicate ts cs ds h) = record { front = ts; split = refl; stands = h; fresh = refl }

opens_given : {ts : List Token} {cs : List ClauseForm} {c : ClauseForm} {a : Action} → SlotOpens (given a) ts cs c
    → Follows (token.Word (word.Action a) ∷ token.Sign sign.OpenParen ∷ []) ts cs c
opens_given (an_argument ts cs c a n h) = record { front = ts; split = refl; stands = h }

opens_value : {ts : List Token} {cs : List ClauseForm} {c : ClauseForm} {name : List ℕ} {keys : List ArgForm}
    {fn : Function} → SlotOpens (value name keys fn) ts cs c
    → FollowsTarget (token.Sign sign.Equal ∷ token.Word (word.Function fn) ∷ token.Sign sign.OpenParen ∷ []) ts
    cs c name keys
opens_value (a_value ts cs c name keys fn n h) = record { front = ts; split = refl; stands = h }

key_read : {front : List Token} {cs : List ClauseForm} {c : ClauseForm} {name : List ℕ} {keys : List ArgForm}
    (ts back : List Token) (a : ArgForm) → SlotOpens (key name keys) front cs c → ts ≡ front ++ back
    → ReadsArgument back a → KeysStand ts cs c name (keys ++ (a ∷ []))
key_read ts back a (first_key us cs c name h) e r = record {
  front = us;
  back = back;
  split = rw e (append_assoc us _ back);
  stands = h;
  reads = grammar.a_key back a r;
}
key_read ts back a (a_key us cs c name keys h) e r = record {
  front = h.front;
  back = h.back ++ (token.Sign sign.Comma ∷ back);
  split = rw (e, h.split) (simp append_assoc);
  stands = h.stands;
  reads = grammar.another h.back back keys a h.reads r;
}

keys_end : (ts : List Token) (cs : List ClauseForm) (c : ClauseForm) (name : List ℕ) (keys : List ArgForm)
    → KeysStand ts cs c name keys → TargetStands (ts ++ (token.Sign sign.CloseBracket ∷ [])) cs c name keys
keys_end ts cs c name keys h = record {
  front = h.front;
  back = token.Aggregation name ∷ token.Sign sign.OpenBracket ∷ (h.back ++ (token.Sign sign.CloseBracket ∷ []));
  split = split_last ts h.front _ _ h.split;
  stands = h.stands;
  reads = grammar.keyed name h.back keys h.reads;
}

-- a number that was read for a slot
expression_of : (ts : List Token) (cs : List ClauseForm) (c : ClauseForm) (slot : Slot) (n : ℕ)
    (e : expression.State) (f : Form) (h : Within ts cs c slot n e) → expression.done e ≡ Some (number f)
    → ReadsExpr (divides_in slot) 0 h.back f
expression_of ts cs c slot n e f h d = sound (divides_in slot) h.back e f h.runs d

sound_predicate : (cs : List ClauseForm) (c : ClauseForm) (n : ℕ) (e : expression.State) (ts : List Token)
    (a : ArgForm) (t : Token) (next : ProgramState) → Within ts cs c predicate n e → expression.done e ≡ Some a
    → shut_predicate cs c a t ≡ Some next → Read next (ts ++ (t ∷ []))
sound_predicate cs c n e ts (number f) (token.Sign sign.Slash) next h d k =
    let o = opens_predicate h.opens in
    let q : c.statements ≡ [] = ap (λ (x : ClauseForm). x.statements) o.fresh in
    landed _ _ _ k (record {
      front = o.front;
      back = h.back;
      form = f;
      split = split_three ts h.front h.back o.front _ _ h.split o.split;
      stands = o.stands;
      reads = expression_of ts cs c predicate n e f h d;
      fresh = rw q refl;
    })
sound_predicate cs c n e ts a t next h d k = absurd (none_some k)

-- an action with what it is given, whole
given_read : (cs : List ClauseForm) (c : ClauseForm) (a : Action) (n : ℕ) (e : expression.State) (ts : List Token)
    (x : ArgForm) (next : ProgramState) (s : Option StatementForm) → statement_of a x ≡ s
    → Within ts cs c (given a) n e → expression.done e ≡ Some x
    → option_and_then (λ s. Some (ended cs c s)) s ≡ Some next → Read next (ts ++ (token.Sign sign.CloseParen ∷ []))
given_read cs c a n e ts x next (Some s) m h d k =
    let o = opens_given h.opens in
    landed _ _ _ k
    (body_stated _ o.front _ cs c s (split_three ts h.front h.back o.front _ _ h.split o.split) o.stands
    (of_argument a h.back x s m (sound_argument h.back e x h.runs d)))
given_read cs c a n e ts x next None m h d k = absurd (none_some k)

sound_given : (cs : List ClauseForm) (c : ClauseForm) (a : Action) (n : ℕ) (e : expression.State) (ts : List Token)
    (x : ArgForm) (t : Token) (next : ProgramState) → Within ts cs c (given a) n e → expression.done e ≡ Some x
    → shut_given cs c a x t ≡ Some next → Read next (ts ++ (t ∷ []))
sound_given cs c a n e ts x (token.Sign sign.CloseParen) next h d k = given_read cs c a n e ts x next _ refl h d k
sound_given cs c a n e ts x t next h d k = absurd (none_some k)

sound_key : (cs : List ClauseForm) (c : ClauseForm) (name : List ℕ) (keys : List ArgForm) (n : ℕ)
    (e : expression.State) (ts : List Token) (a : ArgForm) (t : Token) (next : ProgramState)
    → Within ts cs c (key name keys) n e → expression.done e ≡ Some a
    → shut_key cs c name keys a t ≡ Some next → Read next (ts ++ (t ∷ []))
sound_key cs c name keys n e ts a (token.Sign sign.Comma) next h d k =
    let r = key_read ts h.back a h.opens h.split (sound_argument h.back e a h.runs d) in
    landed _ _ _ k (enters _ _ _ (key name (keys ++ (a ∷ []))) (a_key ts cs c name (keys ++ (a ∷ [])) r))
sound_key cs c name keys n e ts a (token.Sign sign.CloseBracket) next h d k =
    let r = key_read ts h.back a h.opens h.split (sound_argument h.back e a h.runs d) in
    landed _ _ _ k (keys_end ts cs c name (keys ++ (a ∷ [])) r)
sound_key cs c name keys n e ts a t next h d k = absurd (none_some k)

-- a function of one value, whole
value_read : (cs : List ClauseForm) (c : ClauseForm) (name : List ℕ) (keys : List ArgForm) (fn : Function) (n : ℕ)
    (e : expression.State) (ts : List Token) (f : Form) (next : ProgramState) (call : Option CallForm)
    → call_of fn f ≡ call → Within ts cs c (value name keys fn) n e → expression.done e ≡ Some (number f)
    → option_and_then (λ call. Some (ended cs c (aggregate name keys call))) call ≡ Some next
    → Read next (ts ++ (token.Sign sign.CloseParen ∷ []))
value_read cs c name keys fn n e ts f next (Some call) m h d k =
    let o = opens_value h.opens in
    let r = expression_of ts cs c (value name keys fn) n e f h d in
    landed _ _ _ k
    (aggregated _ o.front _ cs c name keys call o.stands (of_one fn h.back f call m r)
    (split_three ts h.front h.back o.front _ _ h.split o.split))
value_read cs c name keys fn n e ts f next None m h d k = absurd (none_some k)

levels_begin : (cs : List ClauseForm) (c : ClauseForm) (name : List ℕ) (keys : List ArgForm) (fn : Function) (n : ℕ)
    (e : expression.State) (ts : List Token) (f : Form) (next : ProgramState)
    → Within ts cs c (value name keys fn) n e → expression.done e ≡ Some (number f)
    → shut_levels cs c name keys fn f ≡ Some next → Read next (ts ++ (token.Sign sign.Comma ∷ []))
levels_begin cs c name keys function.Lquantize n e ts f next h d k =
    landed _ _ _ k (record {
      front = h.front;
      middle = h.back;
      back = token.Sign sign.Comma ∷ [];
      split = split_last ts h.front h.back _ h.split;
      opens = h.opens;
      reads = expression_of ts cs c (value name keys function.Lquantize) n e f h d;
      bounds = refl;
    })
levels_begin cs c name keys fn n e ts f next h d k = absurd (none_some k)

sound_value : (cs : List ClauseForm) (c : ClauseForm) (name : List ℕ) (keys : List ArgForm) (fn : Function) (n : ℕ)
    (e : expression.State) (ts : List Token) (a : ArgForm) (t : Token) (next : ProgramState)
    → Within ts cs c (value name keys fn) n e → expression.done e ≡ Some a
    → shut_value cs c name keys fn a t ≡ Some next → Read next (ts ++ (t ∷ []))
sound_value cs c name keys fn n e ts (number f) (token.Sign sign.CloseParen) next h d k =
    value_read cs c name keys fn n e ts f next _ refl h d k
sound_value cs c name keys fn n e ts (number f) (token.Sign sign.Comma) next h d k =
    levels_begin cs c name keys fn n e ts f next h d k
sound_value cs c name keys fn n e ts a t next h d k = absurd (none_some k)

-- a thread-local variable's value
opens_assignment : {ts : List Token} {cs : List ClauseForm} {c : ClauseForm} {name : List ℕ}
    → SlotOpens (assignment name) ts cs c → FollowsLocal (token.Sign sign.Equal ∷ []) ts cs c name
opens_assignment (a_variable ts us cs c name h r) =
    record { front = ts; back = us; split = refl; stands = h; reads = r }

assigned_whole : (cs : List ClauseForm) (c : ClauseForm) (name : List ℕ) (n : ℕ) (e : expression.State)
    (ts : List Token) (f : Form) → Within ts cs c (assignment name) n e → expression.done e ≡ Some (number f)
    → BodyStands after_statement ts cs (with_statement c (assign name f))
assigned_whole cs c name n e ts f h d =
    let o = opens_assignment h.opens in
    body_stated ts o.front (o.back ++ (token.Sign sign.Equal ∷ h.back)) cs c (assign name f)
    (split_value ts h.front h.back o.front o.back _ h.split o.split) o.stands
    (assigning o.back h.back name f o.reads (expression_of ts cs c (assignment name) n e f h d))

sound_assignment : (cs : List ClauseForm) (c : ClauseForm) (name : List ℕ) (n : ℕ) (e : expression.State)
    (ts : List Token) (a : ArgForm) (t : Token) (next : ProgramState) → Within ts cs c (assignment name) n e
    → expression.done e ≡ Some a → shut_assignment cs c name a t ≡ Some next → Read next (ts ++ (t ∷ []))
sound_assignment cs c name n e ts (number f) t next h d k =
    sound_after_statement cs (with_statement c (assign name f)) ts t next (assigned_whole cs c name n e ts f h d) k
sound_assignment cs c name n e ts a t next h d k = absurd (none_some k)

-- `speculation` where a variable's value begins
if_met : {A : Type 0} (b : Bool) (x y : A) → (if b then Some x else None) ≡ Some y → (b ≡ true) × (x ≡ y)
if_met true x y e = (refl, same_some e)
if_met false x y e = absurd (none_some e)

speculation_is : (t : Token) → is_speculation t ≡ true → t ≡ token.Word (word.Keyword keyword.Speculation)
speculation_is (token.Word (word.Keyword keyword.Speculation)) e = refl
speculation_is _ e = cc

nothing_read : (ts : List Token) (n : ℕ) → n ≡ length ts → eqb n 0 ≡ true → ts ≡ []
nothing_read [] n c e = refl
nothing_read (t ∷ ts) n c e = let k = eqb-true n 0 e in absurd (omega arith)

draw_begins : (cs : List ClauseForm) (c : ClauseForm) (name : List ℕ) (n : ℕ) (e : expression.State) (ts : List Token)
    (t : Token) → Within ts cs c (assignment name) n e → eqb n 0 && is_speculation t ≡ true
    → Read (program_at cs c (inside (drawing name))) (ts ++ (t ∷ []))
draw_begins cs c name n e ts t h k =
    let o = opens_assignment h.opens in
    let none : h.back ≡ [] = nothing_read h.back n h.counts (both_left _ _ k) in
    let is = speculation_is t (both_right (eqb n 0) _ k) in
    record {
      front = o.front;
      back = o.back;
      split = split_draw ts h.front h.back o.front o.back _ t h.split none o.split
          ∙ ap (λ (x : Token). o.front ++ (o.back ++ (token.Sign sign.Equal ∷ x ∷ []))) is;
      stands = o.stands;
      reads = o.reads;
    }

sound_begin_draw : (cs : List ClauseForm) (c : ClauseForm) (slot : Slot) (n : ℕ) (e : expression.State)
    (ts : List Token) (t : Token) (next : ProgramState) → Within ts cs c slot n e
    → begin_draw cs c slot n t ≡ Some next → Read next (ts ++ (t ∷ []))
sound_begin_draw cs c (assignment name) n e ts t next h k =
    let m = if_met (eqb n 0 && is_speculation t) (program_at cs c (inside (drawing name))) next k in
    subst (λ (x : ProgramState). Read x (ts ++ (t ∷ []))) m.1 (draw_begins cs c name n e ts t h m.0)
sound_begin_draw cs c _ n e ts t next h k = absurd (none_some k)

sound_shut : (cs : List ClauseForm) (c : ClauseForm) (slot : Slot) (n : ℕ) (e : expression.State) (ts : List Token)
    (a : ArgForm) (t : Token) (next : ProgramState) → Within ts cs c slot n e → expression.done e ≡ Some a
    → shut cs c slot t a ≡ Some next → Read next (ts ++ (t ∷ []))
sound_shut cs c predicate n e ts a t next h d k = sound_predicate cs c n e ts a t next h d k
sound_shut cs c (given action) n e ts a t next h d k = sound_given cs c action n e ts a t next h d k
sound_shut cs c (key name keys) n e ts a t next h d k = sound_key cs c name keys n e ts a t next h d k
sound_shut cs c (value name keys fn) n e ts a t next h d k = sound_value cs c name keys fn n e ts a t next h d k
sound_shut cs c (assignment name) n e ts a t next h d k = sound_assignment cs c name n e ts a t next h d k

sound_done : (cs : List ClauseForm) (c : ClauseForm) (slot : Slot) (n : ℕ) (e : expression.State) (ts : List Token)
    (t : Token) (next : ProgramState) (d : Option ArgForm) → expression.done e ≡ d → Within ts cs c slot n e
    → end_within cs c slot n t d ≡ Some next → Read next (ts ++ (t ∷ []))
sound_done cs c slot n e ts t next (Some a) m h k = sound_shut cs c slot n e ts a t next h m k
sound_done cs c slot n e ts t next None m h k = sound_begin_draw cs c slot n e ts t next h k

sound_go_on : (cs : List ClauseForm) (c : ClauseForm) (slot : Slot) (n : ℕ) (e : expression.State) (ts : List Token)
    (t : Token) (next : ProgramState) (o : Option expression.State) → expression.step e t ≡ o
    → Within ts cs c slot n e → go_on cs c slot n e t o ≡ Some next → Read next (ts ++ (t ∷ []))
sound_go_on cs c slot n e ts t next (Some f) m h k = landed _ _ _ k (within_more cs c slot n e f ts t h m)
sound_go_on cs c slot n e ts t next None m h k = sound_done cs c slot n e ts t next _ refl h k

sound_within : (cs : List ClauseForm) (c : ClauseForm) (slot : Slot) (n : ℕ) (e : expression.State) (ts : List Token)
    (t : Token) (next : ProgramState) → Within ts cs c slot n e → from_within cs c slot n e t ≡ Some next
    → Read next (ts ++ (t ∷ []))
sound_within cs c slot n e ts t next h k = sound_go_on cs c slot n e ts t next (expression.step e t) refl h k

-- bounds
levels_more : (tail ts : List Token) (t : Token) (cs : List ClauseForm) (c : ClauseForm) (name : List ℕ)
    (keys : List ArgForm) (f : Form) (b : BoundForm) → Levels tail ts cs c name keys f b
    → Levels (tail ++ (t ∷ [])) (ts ++ (t ∷ [])) cs c name keys f b
levels_more tail ts t cs c name keys f b h = record {
  front = h.front;
  middle = h.middle;
  back = h.back;
  split = split_four ts h.front h.middle h.back tail (t ∷ []) h.split;
  opens = h.opens;
  reads = h.reads;
  bounds = h.bounds;
}

sound_bounding : (cs : List ClauseForm) (c : ClauseForm) (name : List ℕ) (keys : List ArgForm) (f : Form)
    (b : BoundForm) (ts : List Token) (t : Token) (next : ProgramState) → Levels [] ts cs c name keys f b
    → from_bounding cs c name keys f b t ≡ Some next → Read next (ts ++ (t ∷ []))
sound_bounding cs c name keys f b ts (token.Number (pos n)) next h k =
    landed _ _ _ k (record {
      tail = token.Number (pos n) ∷ [];
      levels = levels_more [] ts (token.Number (pos n)) cs c name keys f b h;
      reads = grammar.plain n;
    })
sound_bounding cs c name keys f b ts (token.Sign sign.Minus) next h k =
    landed _ _ _ k (levels_more [] ts (token.Sign sign.Minus) cs c name keys f b h)
sound_bounding cs c name keys f b ts t next h k = absurd (none_some k)

sound_negating : (cs : List ClauseForm) (c : ClauseForm) (name : List ℕ) (keys : List ArgForm) (f : Form)
    (b : BoundForm) (ts : List Token) (t : Token) (next : ProgramState)
    → Levels (token.Sign sign.Minus ∷ []) ts cs c name keys f b
    → from_negating cs c name keys f b t ≡ Some next → Read next (ts ++ (t ∷ []))
sound_negating cs c name keys f b ts (token.Number (pos n)) next h k =
    landed _ _ _ k (record {
      tail = token.Sign sign.Minus ∷ token.Number (pos n) ∷ [];
      levels = levels_more _ ts (token.Number (pos n)) cs c name keys f b h;
      reads = grammar.negative n;
    })
sound_negating cs c name keys f b ts t next h k = absurd (none_some k)

-- the next of an `lquantize`'s bounds begins
bound_begins : (ts tail : List Token) (cs : List ClauseForm) (c : ClauseForm) (name : List ℕ) (keys : List ArgForm)
    (f : Form) (b next : BoundForm) (h : Levels tail ts cs c name keys f b)
    → BoundsBegin next (h.back ++ (tail ++ (token.Sign sign.Comma ∷ [])))
    → Levels [] (ts ++ (token.Sign sign.Comma ∷ [])) cs c name keys f next
bound_begins ts tail cs c name keys f b next h k = record {
  front = h.front;
  middle = h.middle;
  back = h.back ++ (tail ++ (token.Sign sign.Comma ∷ []));
  split = split_four ts h.front h.middle h.back tail _ h.split
      ∙ ap (λ (x : List Token). h.front ++ (h.middle ++ x)) (sym (append-nil _));
  opens = h.opens;
  reads = h.reads;
  bounds = k;
}

-- an `lquantize` is whole
levels_end : (ts tail : List Token) (cs : List ClauseForm) (c : ClauseForm) (name : List ℕ) (keys : List ArgForm)
    (f : Form) (b : BoundForm) (lower upper by : ℤ) (h : Levels tail ts cs c name keys f b)
    → ReadsBounds (h.back ++ tail) lower upper by
    → BodyStands after_statement (ts ++ (token.Sign sign.CloseParen ∷ [])) cs
    (with_statement c (aggregate name keys (lquantize f lower upper by)))
levels_end ts tail cs c name keys f b lower upper by h k =
    let o = opens_value h.opens in
    aggregated _ o.front _ cs c name keys _ o.stands (in_levels h.middle (h.back ++ tail) f lower upper by h.reads k)
    (split_levels ts h.front h.middle h.back tail o.front _ _ h.split o.split)

sound_at_lower : (cs : List ClauseForm) (c : ClauseForm) (name : List ℕ) (keys : List ArgForm) (f : Form) (z : ℤ)
    (ts : List Token) (t : Token) (next : ProgramState) → Bounded ts cs c name keys f at_lower z
    → from_bounded cs c name keys f at_lower z t ≡ Some next → Read next (ts ++ (t ∷ []))
sound_at_lower cs c name keys f z ts (token.Sign sign.Comma) next h k =
    let l = h.levels in
    landed _ _ _ k
    (bound_begins ts h.tail cs c name keys f at_lower (at_upper z) l (h.tail, rw l.bounds refl, h.reads))
sound_at_lower cs c name keys f z ts t next h k = absurd (none_some k)

sound_at_upper : (cs : List ClauseForm) (c : ClauseForm) (name : List ℕ) (keys : List ArgForm) (f : Form)
    (lower z : ℤ) (ts : List Token) (t : Token) (next : ProgramState) → Bounded ts cs c name keys f (at_upper lower) z
    → from_bounded cs c name keys f (at_upper lower) z t ≡ Some next → Read next (ts ++ (t ∷ []))
sound_at_upper cs c name keys f lower z ts (token.Sign sign.Comma) next h k =
    let l = h.levels in
    let (us, e, r) = l.bounds in
    landed _ _ _ k
    (bound_begins ts h.tail cs c name keys f (at_upper lower) (at_step lower z) l
    (us, h.tail, rw e (simp append_assoc), r, h.reads))
sound_at_upper cs c name keys f lower z ts (token.Sign sign.CloseParen) next h k =
    let l = h.levels in
    let (us, e, r) = l.bounds in
    let i : l.back ++ h.tail ≡ token.Sign sign.Comma ∷ (us ++ (token.Sign sign.Comma ∷ h.tail)) =
    rw e (simp append_assoc) in
    landed _ _ _ k
    (levels_end ts h.tail cs c name keys f (at_upper lower) lower z (pos 1) l
    (rw i (by_one us h.tail lower z r h.reads)))
sound_at_upper cs c name keys f lower z ts t next h k = absurd (none_some k)

sound_at_step : (cs : List ClauseForm) (c : ClauseForm) (name : List ℕ) (keys : List ArgForm) (f : Form)
    (lower upper z : ℤ) (ts : List Token) (t : Token) (next : ProgramState)
    → Bounded ts cs c name keys f (at_step lower upper) z
    → from_bounded cs c name keys f (at_step lower upper) z t ≡ Some next → Read next (ts ++ (t ∷ []))
sound_at_step cs c name keys f lower upper z ts (token.Sign sign.CloseParen) next h k =
    let l = h.levels in
    let (us, vs, e, r, q) = l.bounds in
    let i : l.back ++ h.tail
    ≡ token.Sign sign.Comma ∷ (us ++ (token.Sign sign.Comma ∷ (vs ++ (token.Sign sign.Comma ∷ h.tail))))
    = rw e (simp append_assoc) in
    landed _ _ _ k
    (levels_end ts h.tail cs c name keys f (at_step lower upper) lower upper z l
    (rw i (stepped us vs h.tail lower upper z r q h.reads)))
sound_at_step cs c name keys f lower upper z ts t next h k = absurd (none_some k)

sound_bounded : (cs : List ClauseForm) (c : ClauseForm) (name : List ℕ) (keys : List ArgForm) (f : Form)
    (b : BoundForm) (z : ℤ) (ts : List Token) (t : Token) (next : ProgramState) → Bounded ts cs c name keys f b z
    → from_bounded cs c name keys f b z t ≡ Some next → Read next (ts ++ (t ∷ []))
sound_bounded cs c name keys f at_lower z ts t next h k = sound_at_lower cs c name keys f z ts t next h k
sound_bounded cs c name keys f (at_upper lower) z ts t next h k =
    sound_at_upper cs c name keys f lower z ts t next h k
sound_bounded cs c name keys f (at_step lower upper) z ts t next h k =
    sound_at_step cs c name keys f lower upper z ts t next h k

-- thread-local variables
sound_self : (cs : List ClauseForm) (c : ClauseForm) (ts : List Token) (t : Token) (next : ProgramState)
    → Follows (token.Word (word.Keyword keyword.ThreadLocal) ∷ []) ts cs c → from_self cs c t ≡ Some next
    → Read next (ts ++ (t ∷ []))
sound_self cs c ts (token.Sign sign.Arrow) next h k = landed _ _ _ k (follows_one _ ts _ cs c h)
sound_self cs c ts t next h k = absurd (none_some k)

arrow_word : (cs : List ClauseForm) (c : ClauseForm) (w : Word) (ts : List Token) (next : ProgramState)
    (o : Option (List ℕ)) → word_bytes w ≡ o
    → Follows (token.Word (word.Keyword keyword.ThreadLocal) ∷ token.Sign sign.Arrow ∷ []) ts cs c
    → option_map (λ name. program_at cs c (inside (variable name))) o ≡ Some next
    → Read next (ts ++ (token.Word w ∷ []))
arrow_word cs c w ts next (Some name) e h k = landed _ _ _ k (record {
  front = h.front;
  back = token.Word (word.Keyword keyword.ThreadLocal) ∷ token.Sign sign.Arrow ∷ token.Word w ∷ [];
  split = rw h.split (simp (append_assoc, append-nil));
  stands = h.stands;
  reads = a_local w name e;
})
arrow_word cs c w ts next None e h k = absurd (none_some k)

sound_arrow : (cs : List ClauseForm) (c : ClauseForm) (ts : List Token) (t : Token) (next : ProgramState)
    → Follows (token.Word (word.Keyword keyword.ThreadLocal) ∷ token.Sign sign.Arrow ∷ []) ts cs c
    → from_arrow cs c t ≡ Some next → Read next (ts ++ (t ∷ []))
sound_arrow cs c ts (token.Word w) next h k = arrow_word cs c w ts next (word_bytes w) refl h k
sound_arrow cs c ts t next h k = absurd (none_some k)

sound_variable : (cs : List ClauseForm) (c : ClauseForm) (name : List ℕ) (ts : List Token) (t : Token)
    (next : ProgramState) → FollowsLocal [] ts cs c name → from_variable cs c name t ≡ Some next
    → Read next (ts ++ (t ∷ []))
sound_variable cs c name ts (token.Sign sign.Equal) next h k =
    let o : SlotOpens (assignment name) (h.front ++ (h.back ++ (token.Sign sign.Equal ∷ []))) cs c =
    a_variable h.front h.back cs c name h.stands h.reads in
    let e : ts ++ (token.Sign sign.Equal ∷ []) ≡ h.front ++ (h.back ++ (token.Sign sign.Equal ∷ [])) =
    rw h.split (simp (append_assoc, append-nil)) in
    landed _ _ _ k (enters _ _ _ (assignment name)
    (subst (λ (x : List Token). SlotOpens (assignment name) x cs c) (sym e) o))
sound_variable cs c name ts t next h k = absurd (none_some k)

sound_drawing : (cs : List ClauseForm) (c : ClauseForm) (name : List ℕ) (ts : List Token) (t : Token)
    (next : ProgramState)
    → FollowsLocal (token.Sign sign.Equal ∷ token.Word (word.Keyword keyword.Speculation) ∷ []) ts cs c name
    → from_drawing cs c name t ≡ Some next → Read next (ts ++ (t ∷ []))
sound_drawing cs c name ts (token.Sign sign.OpenParen) next h k = landed _ _ _ k (record {
  front = h.front;
  back = h.back ++ (token.Sign sign.Equal ∷ token.Word (word.Keyword keyword.Speculation) ∷ token.Sign sign.OpenParen
      ∷ []);
  split = rw h.split (simp append_assoc);
  stands = h.stands;
  reads = rw append_assoc (grammar.drawing h.back name h.reads);
})
sound_drawing cs c name ts t next h k = absurd (none_some k)

sound_inside : (cs : List ClauseForm) (c : ClauseForm) (p : InsideForm) (ts : List Token) (t : Token)
    (next : ProgramState)
    → ReadInside cs c p ts → inside_step_from cs c p t ≡ Some next → Read next (ts ++ (t ∷ []))
sound_inside cs c (called a) ts t next h k = sound_called cs c a ts t next h k
sound_inside cs c (stack_opened process) ts t next h k = sound_stack_opened cs c process ts t next h k
sound_inside cs c (closing s) ts t next h k = sound_closing cs c s ts t next h k
sound_inside cs c (named name) ts t next h k = sound_named cs c name ts t next h k
sound_inside cs c (keyed name keys) ts t next h k = sound_keyed cs c name keys ts t next h k
sound_inside cs c (assigned name keys) ts t next h k = sound_assigned cs c name keys ts t next h k
sound_inside cs c (applied name keys fn) ts t next h k = sound_applied cs c name keys fn ts t next h k
sound_inside cs c (bounding name keys f b) ts t next h k = sound_bounding cs c name keys f b ts t next h k
sound_inside cs c (negating name keys f b) ts t next h k = sound_negating cs c name keys f b ts t next h k
sound_inside cs c (bounded name keys f b z) ts t next h k = sound_bounded cs c name keys f b z ts t next h k
sound_inside cs c self_read ts t next h k = sound_self cs c ts t next h k
sound_inside cs c arrow_read ts t next h k = sound_arrow cs c ts t next h k
sound_inside cs c (variable name) ts t next h k = sound_variable cs c name ts t next h k
sound_inside cs c (drawing name) ts t next h k = sound_drawing cs c name ts t next h k

sound_from : (cs : List ClauseForm) (c : ClauseForm) (p : PlaceForm) (ts : List Token) (t : Token)
    (next : ProgramState)
    → ReadAt cs c p ts → program_step_from cs c p t ≡ Some next → Read next (ts ++ (t ∷ []))
sound_from cs c outside ts t next h k = sound_outside cs ts t next h k
sound_from cs c described ts t next h k = sound_described cs c ts t next h k
sound_from cs c listed ts t next h k = sound_listed cs c ts t next h k
sound_from cs c guarded ts t next h k = sound_guarded cs c ts t next h k
sound_from cs c (body before_statement) ts t next h k = sound_before_statement cs c ts t next h k
sound_from cs c (body after_statement) ts t next h k = sound_after_statement cs c ts t next h k
sound_from cs c (inside p) ts t next h k = sound_inside cs c p ts t next h k
sound_from cs c (within slot n e) ts t next h k = sound_within cs c slot n e ts t next h k

-- a step reads one more token
pub sound_step : (s next : ProgramState) (ts : List Token) (t : Token) → Read s ts → program_step s t ≡ Some next
    → Read next (ts ++ (t ∷ []))
unfolding program_step
sound_step s next ts t h k = sound_from s.clauses s.clause s.place ts t next h k

sound_then : (s next : ProgramState) (o : Option ProgramState) (ts us : List Token) (t : Token) → program_step s t ≡ o
    → Read s ts → option_and_then (λ m. program_run m us) o ≡ Some next
    → ((m : ProgramState) → Read m (ts ++ (t ∷ [])) → program_run m us ≡ Some next → Read next ((ts ++ (t ∷ [])) ++ us))
    → Read next (ts ++ (t ∷ us))
sound_then s next (Some m) ts us t e h k go =
    let r = go m (sound_step s m ts t h e) k in rw (append_assoc ts (t ∷ []) us) at r
sound_then s next None ts us t e h k go = absurd (none_some k)

-- a run reads all of its tokens
pub sound_run : (us ts : List Token) (s next : ProgramState) → Read s ts → program_run s us ≡ Some next → Read next (ts ++ us)
unfolding program_run
sound_run [] ts s next h k = rw (append-nil ts) (landed ts s next k h)
sound_run (t ∷ us) ts s next h k =
    sound_then s next (program_step s t) ts us t refl h k (λ m r q. sound_run us (ts ++ (t ∷ [])) m next r q)

-- before the first token nothing is read
pub starts : Read program_start []
starts = grammar.nothing
