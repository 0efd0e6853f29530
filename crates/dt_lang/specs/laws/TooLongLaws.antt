-- A token passes a limit exactly where the state of the reading says so.
use Rattle.std.proofs.Common.{◌≡◌, ◌⊎◌, inl, inr, ℕ, ◌+◌, ◌≤◌, leb, eqb, Bool, true, false, cond, ◌&&◌, List, [], ◌∷◌, ◌++◌}
use Rattle.std.proofs.Common.{length, Option, Some, None, refl, sym, ◌∙◌, subst, arith, leb-true, le-leb, eqb-true}
use Rattle.std.proofs.Common.{append-nil, append_assoc}
use Rattle.dt_program.specs.declared.clause.TheConstants.{DESCRIPTIONS_MAX, STATEMENTS_MAX, KEYS_MAX}
use Rattle.dt_program.specs.declared.program.TheConstants.{CLAUSES_MAX, TOKENS_MAX}
use Rattle.dt_lang.specs.declared.token.Sign.TheVariants as sign
use Rattle.dt_lang.specs.declared.token.Token.{Token}
use Rattle.dt_lang.specs.declared.token.Token.TheVariants as token
use Rattle.dt_lang.specs.declared.word.Word.TheVariants as word
use Rattle.dt_lang.specs.machine.ExpressionState as expression
use Rattle.dt_lang.specs.machine.ExpressionState.{HandForm, arrow_read, is_long_word, is_long_name_at}
use Rattle.dt_lang.specs.Grammar.{before_statement, after_statement, ReadsClauses, Begins}
use Rattle.dt_program.specs.Clause.{ArgForm, ClauseForm}
use Rattle.dt_lang.specs.Stand.{BodyStands, Slot, predicate, given, key, value, assignment, divides_in, SlotOpens}
use Rattle.dt_lang.specs.Stand.{first_key, a_key}
use Rattle.dt_lang.specs.Refused.{GoesOn, IsForStatement, IsTooLong, a_clause, a_description, a_statement, a_token, a_local_name}
use Rattle.dt_lang.specs.Refused as refused
use Rattle.dt_lang.specs.machine.ClauseState.{PlaceForm, outside, described, listed, body}
use Rattle.dt_lang.specs.machine.ClauseState.{within, inside, bounded, at_lower, at_upper, at_step, program_step_from}
use Rattle.dt_lang.specs.machine.ClauseState as place
use Rattle.dt_lang.specs.machine.ClauseState.{ProgramState, program_at, headed, program_step, program_run, program_start}
use Rattle.dt_lang.specs.declared.fault.Limit.{Limit}
use Rattle.dt_lang.specs.declared.fault.Limit.TheVariants as limits
use Rattle.dt_lang.specs.machine.Cause.{is_for_statement, is_one_more, keys_full, limit_within, too_long_at}
use Rattle.dt_lang.specs.laws.Reading.{ListRead, Within, ReadAt}
use Rattle.dt_lang.specs.laws.ClauseSound.{none_some, same_some}
use Rattle.dt_lang.specs.laws.ClauseComplete.{run_on, run_step, run_within, clauses_lead, head_stands_lead}
use Rattle.dt_lang.specs.laws.ClauseComplete.{body_stands_lead, slot_leads}
use Rattle.dt_lang.specs.laws.ClauseLaws.{read, viable, leads, leads_by, steps_to}
use Rattle.dt_lang.specs.laws.Ends.{goes_within, arrow_leads}
use Rattle.dt_lang.specs.laws.ExpressionSound.{Holds, run_reaches}
use Rattle.dt_lang.specs.laws.TakesLaws.{both_left, both_right, goes_on_takes, takes_goes_on}

is_for_statement_is : (t : Token) → is_for_statement t ≡ true → IsForStatement t
is_for_statement_is (token.Word w) h = tt
is_for_statement_is (token.Aggregation name) h = tt
is_for_statement_is _ h = cc

is_for_statement_true : (t : Token) → IsForStatement t → is_for_statement t ≡ true
is_for_statement_true (token.Word w) h = refl
is_for_statement_true (token.Aggregation name) h = refl
is_for_statement_true _ h = absurd h

-- a limit that is passed where a test is met
met : (b : Bool) (its limit : Limit) → cond b (Some its) None ≡ Some limit → (b ≡ true) × (its ≡ limit)
met true its limit e = (refl, same_some e)
met false its limit e = absurd (none_some e)

-- what the state says holds
outside_too_long : (ts : List Token) (cs : List ClauseForm) (c : ClauseForm) (t : Token) (limit : Limit)
    → ReadsClauses ts cs → too_long_at cs c outside t ≡ Some limit → IsTooLong ts t limit
outside_too_long ts cs c (token.Description d) limit h e =
    let m = met (leb CLAUSES_MAX (length cs)) limits.Clauses limit e in
    subst (IsTooLong ts (token.Description d)) m.1 (a_clause ts cs d h (leb-true CLAUSES_MAX (length cs) m.0))
outside_too_long ts cs c t limit h e = absurd (none_some e)

listed_too_long : (ts : List Token) (cs : List ClauseForm) (c : ClauseForm) (t : Token) (limit : Limit)
    → ListRead ts cs c → too_long_at cs c listed t ≡ Some limit → IsTooLong ts t limit
listed_too_long ts cs c (token.Description d) limit h e =
    let m = met (leb DESCRIPTIONS_MAX (length c.descriptions)) limits.Descriptions limit e in
    subst (IsTooLong ts (token.Description d)) m.1
    (rw h.split
    (a_description h.front cs c.descriptions d h.head.stands (leb-true DESCRIPTIONS_MAX (length c.descriptions) m.0)))
listed_too_long ts cs c t limit h e = absurd (none_some e)

before_statement_too_long : (ts : List Token) (cs : List ClauseForm) (c : ClauseForm) (t : Token) (limit : Limit)
    → BodyStands before_statement ts cs c → too_long_at cs c (body before_statement) t ≡ Some limit → IsTooLong ts t limit
before_statement_too_long ts cs c t limit h e =
    let m = met (leb STATEMENTS_MAX (length c.statements) && is_for_statement t) limits.Statements limit e in
    subst (IsTooLong ts t) m.1
    (a_statement ts cs c t h (leb-true STATEMENTS_MAX (length c.statements) (both_left _ _ m.0))
    (is_for_statement_is t (both_right (leb STATEMENTS_MAX (length c.statements)) _ m.0)))

-- a slot for a further key of too many
key_too_long : {ts : List Token} {cs : List ClauseForm} {c : ClauseForm} {name : List ℕ} {keys : List ArgForm}
    (t : Token) → SlotOpens (key name keys) ts cs c → leb KEYS_MAX (length keys) ≡ true → GoesOn true [] t
    → IsTooLong ts t limits.Keys
key_too_long t (first_key ts cs c name h) e g = cc
key_too_long t (a_key ts cs c name keys h) e g =
    refused.a_key ts cs c name keys t h (leb-true KEYS_MAX (length keys) e) g

no_tokens : (ts : List Token) (n : ℕ) → n ≡ length ts → eqb n 0 ≡ true → ts ≡ []
no_tokens [] n c e = refl
no_tokens (t ∷ ts) n c e = let k = eqb-true n 0 e in absurd (omega arith)

slot_too_long : (ts back : List Token) (cs : List ClauseForm) (c : ClauseForm) (slot : Slot) (t : Token)
    → SlotOpens slot ts cs c → back ≡ [] → keys_full slot ≡ true → GoesOn (divides_in slot) back t
    → IsTooLong (ts ++ back) t limits.Keys
slot_too_long ts back cs c (key name keys) t h e k g =
    rw (e, append-nil ts) (key_too_long t h k (rw e at g))
slot_too_long ts back cs c predicate t h e k g = cc
slot_too_long ts back cs c (given a) t h e k g = cc
slot_too_long ts back cs c (value name keys fn) t h e k g = cc
slot_too_long ts back cs c (assignment name) t h e k g = cc

-- the limit that is passed within a slot: of tokens, or of keys
which_limit : (tokens keys : Bool) (limit : Limit)
    → cond tokens (Some limits.Tokens) (cond keys (Some limits.Keys) None) ≡ Some limit
    → ((tokens ≡ true) × (limits.Tokens ≡ limit)) ⊎ ((keys ≡ true) × (limits.Keys ≡ limit))
which_limit true keys limit e = inl (refl, same_some e)
which_limit false true limit e = inr (refl, same_some e)
which_limit false false limit e = absurd (none_some e)

-- it is passed by one token more, or by a variable's name
more_or_name : (more long : Bool) (o : Option Limit) (limit : Limit)
    → cond more o (cond long (Some limits.LocalBytes) None) ≡ Some limit
    → ((more ≡ true) × (o ≡ Some limit)) ⊎ ((long ≡ true) × (limits.LocalBytes ≡ limit))
more_or_name true long o limit e = inl (refl, e)
more_or_name false true o limit e = inr (refl, same_some e)
more_or_name false false o limit e = absurd (none_some e)

-- a variable's name
abbrev long_name : Token
long_name = token.Word (word.Unknown None)

long_word_is : (t : Token) → is_long_word t ≡ true → t ≡ long_name
long_word_is (token.Word (word.Unknown None)) h = refl
long_word_is _ h = cc

long_name_is : (hand : HandForm) (t : Token) → is_long_name_at hand t ≡ true → (hand ≡ arrow_read) × (t ≡ long_name)
long_name_is arrow_read t h = (refl, long_word_is t h)
long_name_is _ t h = cc

name_too_long : (ts front : List Token) (t : Token) → ts ≡ front ++ (token.Sign sign.Arrow ∷ []) → Begins ts → t ≡ long_name
    → IsTooLong ts t limits.LocalBytes
name_too_long ts front t e b is =
    subst (λ (x : Token). IsTooLong ts x limits.LocalBytes) (sym is)
    (subst (λ (x : List Token). IsTooLong x long_name limits.LocalBytes) (sym e)
    (a_local_name front (subst (λ (x : List Token). Begins x) e b)))

arrow_last : (ts front back mid : List Token) (t u : Token) → ts ≡ front ++ back → back ≡ mid ++ (t ∷ u ∷ [])
    → ts ≡ (front ++ (mid ++ (t ∷ []))) ++ (u ∷ [])
arrow_last ts front back mid t u e f = rw (e, f) (simp append_assoc)

within_name : (ts : List Token) (cs : List ClauseForm) (c : ClauseForm) (slot : Slot) (n : ℕ) (e : expression.State)
    (t : Token) → Within ts cs c slot n e → Begins ts → is_long_name_at e.hand t ≡ true
    → IsTooLong ts t limits.LocalBytes
within_name ts cs c slot n e t h b k =
    let is = long_name_is e.hand t k in
    let there : Holds (divides_in slot) e.divides e.pending e.hand h.back = run_reaches (divides_in slot) e h.back h.runs in
    let local : Holds (divides_in slot) e.divides e.pending arrow_read h.back =
    subst (λ (x : HandForm). Holds (divides_in slot) e.divides e.pending x h.back) is.0 there in
    name_too_long ts _ t (arrow_last ts h.front h.back local.front _ _ h.split local.tokens) b is.1

within_too_long : (ts : List Token) (cs : List ClauseForm) (c : ClauseForm) (slot : Slot) (n : ℕ)
    (e : expression.State) (t : Token) (limit : Limit) → Within ts cs c slot n e
    → is_one_more e t ≡ true → limit_within slot n ≡ Some limit → IsTooLong ts t limit
within_too_long ts cs c slot n e t limit h k m =
    let g = takes_goes_on (divides_in slot) h.back e t h.runs k in
    elim (which_limit (leb TOKENS_MAX n) (eqb n 0 && keys_full slot) limit m) [
      | inl i ↦ let most : TOKENS_MAX ≤ length h.back = rw h.counts at (leb-true TOKENS_MAX n i.0) in
          subst (IsTooLong ts t) i.1 (rw h.split (a_token slot h.front h.back cs c t h.opens most g))
      | inr i ↦ let z = no_tokens h.back n h.counts (both_left _ _ i.0) in
          subst (IsTooLong ts t) i.1
          (rw h.split (slot_too_long h.front h.back cs c slot t h.opens z (both_right (eqb n 0) _ i.0) g))
    ]

slot_limit : (ts : List Token) (cs : List ClauseForm) (c : ClauseForm) (slot : Slot) (n : ℕ)
    (e : expression.State) (t : Token) (limit : Limit) → Within ts cs c slot n e → Begins ts
    → too_long_at cs c (within slot n e) t ≡ Some limit → IsTooLong ts t limit
slot_limit ts cs c slot n e t limit h b k =
    elim (more_or_name (is_one_more e t) (is_long_name_at e.hand t) (limit_within slot n) limit k) [
      | inl m ↦ within_too_long ts cs c slot n e t limit h m.0 m.1
      | inr m ↦ subst (IsTooLong ts t) m.1 (within_name ts cs c slot n e t h b m.0)
    ]

arrow_limit : (ts : List Token) (cs : List ClauseForm) (c : ClauseForm) (t : Token) (limit : Limit)
    → ReadAt cs c (inside place.arrow_read) ts → Begins ts → too_long_at cs c (inside place.arrow_read) t ≡ Some limit
    → IsTooLong ts t limit
arrow_limit ts cs c t limit h b k =
    let m = met (is_long_word t) limits.LocalBytes limit k in
    subst (IsTooLong ts t) m.1
    (name_too_long ts _ t (arrow_last ts h.front _ [] _ _ h.split refl) b (long_word_is t m.0))

read_too_long : (ts : List Token) (cs : List ClauseForm) (c : ClauseForm) (p : PlaceForm) (t : Token) (limit : Limit)
    → ReadAt cs c p ts → Begins ts → too_long_at cs c p t ≡ Some limit → IsTooLong ts t limit
read_too_long ts cs c outside t limit h b e = outside_too_long ts cs c t limit h e
read_too_long ts cs c listed t limit h b e = listed_too_long ts cs c t limit h e
read_too_long ts cs c (body before_statement) t limit h b e = before_statement_too_long ts cs c t limit h e
read_too_long ts cs c (inside place.arrow_read) t limit h b e = arrow_limit ts cs c t limit h b e
read_too_long ts cs c (within slot n x) t limit h b e = slot_limit ts cs c slot n x t limit h b e
read_too_long ts cs c (body after_statement) t limit h b e = absurd (none_some e)
read_too_long ts cs c _ t limit h b e = absurd (none_some e)

-- the state that the tokens lead to, and the limit that the token passes there
pub record TooLongThere (ts : List Token) (t : Token) (limit : Limit) : Type 0 where
  pub at : ProgramState
  pub runs : program_run program_start ts ≡ Some at
  pub says : too_long_at at.clauses at.clause at.place t ≡ Some limit

listed_step : (cs : List ClauseForm) (c : ClauseForm)
    → program_step (program_at cs c described) (token.Sign sign.Comma) ≡ Some (program_at cs c listed)
unfolding program_step
listed_step cs c = refl

-- what is taken before anything was read
takes_first : (t : Token) → GoesOn true [] t → is_one_more (expression.start true) t ≡ true
unfolding expression.run
takes_first t g =
    let k = goes_on_takes true [] t g in
    let same : expression.start true ≡ k.at = same_some k.runs in
    rw (sym same) at k.takes_it

-- a variable's name may be too long after `->`
abbrev SaysNameLong : ProgramState → Type 0
SaysNameLong s = too_long_at s.clauses s.clause s.place long_name ≡ Some limits.LocalBytes

arrow_within : (cs : List ClauseForm) (c : ClauseForm) (slot : Slot) (n : ℕ) (divides : Bool)
    (pending : List expression.PendingForm)
    → SaysNameLong (program_at cs c (within slot n (expression.state divides pending arrow_read)))
unfolding expression.step
arrow_within cs c slot n divides pending = refl

arrow_says : (cs : List ClauseForm) (c : ClauseForm) (p : PlaceForm) (next : ProgramState)
    → program_step_from cs c p (token.Sign sign.Arrow) ≡ Some next → SaysNameLong next
arrow_says cs c (inside place.self_read) next h = subst (λ (x : ProgramState). SaysNameLong x) (same_some h) refl
arrow_says cs c (within slot n e) next h =
    let g = goes_within cs c slot n e (token.Sign sign.Arrow) next refl refl h in
    let m = arrow_leads e g.at g.steps in
    subst (λ (x : ProgramState). SaysNameLong x) g.is
    (subst (λ (x : expression.State). SaysNameLong (program_at cs c (within slot (n + 1) x))) m
    (arrow_within cs c slot (n + 1) e.divides e.pending))
arrow_says cs c (inside (bounded name keys f at_lower z)) next h = absurd (none_some h)
arrow_says cs c (inside (bounded name keys f (at_upper lower) z)) next h = absurd (none_some h)
arrow_says cs c (inside (bounded name keys f (at_step lower upper) z)) next h = absurd (none_some h)
arrow_says cs c (body before_statement) next h = absurd (none_some h)
arrow_says cs c (body after_statement) next h = absurd (none_some h)
arrow_says cs c _ next h = absurd (none_some h)

arrow_says_at : (s next : ProgramState) → program_step s (token.Sign sign.Arrow) ≡ Some next → SaysNameLong next
unfolding program_step
arrow_says_at s next h = arrow_says s.clauses s.clause s.place next h

too_long_there : (ts : List Token) (t : Token) (limit : Limit) → IsTooLong ts t limit → TooLongThere ts t limit
unfolding program_run
too_long_there _ _ _ (a_clause ts cs d r n) =
    record { at = _; runs = clauses_lead ts cs r; says = rw (le-leb CLAUSES_MAX (length cs) n) refl }
too_long_there _ _ _ (a_description ts cs ds d r n) = record {
  at = _;
  runs = run_step _ _ _ ts _ (head_stands_lead ts cs ds r) (listed_step cs (headed ds));
  says = rw (le-leb DESCRIPTIONS_MAX (length ds) n) refl;
}
too_long_there _ _ _ (a_statement ts cs c t r n k) = record {
  at = _;
  runs = body_stands_lead ts cs c r;
  says = rw (le-leb STATEMENTS_MAX (length c.statements) n, is_for_statement_true t k) refl;
}
too_long_there _ _ _ (refused.a_key ts cs c name keys t r n g) = record {
  at = _;
  runs = slot_leads (key name keys) _ cs c (a_key ts cs c name keys r);
  says = rw (takes_first t g, le-leb KEYS_MAX (length keys) n) refl;
}
too_long_there _ _ _ (a_token slot ts us cs c t r n g) =
    let k = goes_on_takes (divides_in slot) us t g in
    let w = run_within cs c slot us 0 (expression.start (divides_in slot)) k.at k.runs in
    let m : leb TOKENS_MAX (0 + length us) ≡ true = le-leb TOKENS_MAX (0 + length us) (omega arith) in
    record { at = _; runs = run_on _ _ _ ts us (slot_leads slot ts cs c r) w; says = rw (k.takes_it, m) refl }
too_long_there _ _ _ (a_local_name ts b) =
    let l = leads (ts ++ (token.Sign sign.Arrow ∷ [])) b in
    let k = leads_by ts (token.Sign sign.Arrow ∷ []) l.at l.runs in
    let s = steps_to k.at l.at (token.Sign sign.Arrow) k.second in
    record { at = l.at; runs = l.runs; says = arrow_says_at k.at l.at s }

module _ (ts : List Token) (t : Token) (s : ProgramState) (h : program_run program_start ts ≡ Some s) where
  pub too_long_is : (limit : Limit) → too_long_at s.clauses s.clause s.place t ≡ Some limit → IsTooLong ts t limit
  too_long_is limit e = read_too_long ts s.clauses s.clause s.place t limit (read ts s h) (viable ts s h) e

  pub too_long_true : (limit : Limit) → IsTooLong ts t limit → too_long_at s.clauses s.clause s.place t ≡ Some limit
  too_long_true limit k =
      let there = too_long_there ts t limit k in
      subst (λ (x : ProgramState). too_long_at x.clauses x.clause x.place t ≡ Some limit)
      (same_some (sym there.runs ∙ h)) there.says
