-- Each text has one reading.
use native.Mathlib.Decide.{dec_le}
use Rattle.std.proofs.Common.{◌≡◌, ◌≢◌, ◌⊎◌, inl, inr, ℕ, zero, suc, ◌+◌, ◌≤◌, List, [], ◌∷◌, ◌++◌, length, Option}
use Rattle.std.proofs.Common.{Some, None, refl, sym, ap, ◌∙◌, subst, append_assoc, append-nil, length-append, arith}
use Rattle.dt_lang.specs.declared.fault.Flaw.TheVariants.{Syntax, TooLong}
use Rattle.dt_lang.specs.declared.fault.Limit.{Limit}
use Rattle.dt_lang.specs.Fault.{why_of}
use Rattle.dt_lang.specs.declared.lexer.Lexeme.{Lexeme}
use Rattle.dt_lang.specs.declared.lexer.Lexeme.TheVariants as lexeme
use Rattle.dt_lang.specs.declared.mode.LexerMode.{LexerMode}
use Rattle.dt_lang.specs.declared.mode.LexerMode.TheVariants.{Head}
use Rattle.dt_lang.specs.declared.token.Token.{Token}
use Rattle.dt_lang.specs.Lexeme.{Lexes, LiesWithin}
use Rattle.dt_lang.specs.Mode.{mode_after}
use Rattle.dt_program.specs.Clause.{ClauseForm}
use Rattle.dt_lang.specs.Grammar.{ReadsProgram}
use Rattle.dt_lang.specs.Refused.{Cause, because, destroys, CauseHolds, Refused, NoneRefused}
use Rattle.dt_lang.specs.Reads.{TokensTo, none, another, IsRefusedProgram, a_token, overlong, stray, unfinished}
use Rattle.dt_lang.specs.Reads.{IsProgram, Reading, program, fault, destructive, Reads}
use Rattle.dt_lang.specs.machine.ClauseState.{ProgramState, program_step, program_run, program_start, finished}
use Rattle.dt_lang.specs.machine.Cause.{cause_of}
use Rattle.dt_lang.specs.laws.ClauseSound.{none_some, same_some}
use Rattle.dt_lang.specs.laws.ClauseComplete.{run_step, program_leads}
use Rattle.dt_lang.specs.laws.ClauseLaws.{sound_program, one_program}
use Rattle.dt_lang.specs.laws.CauseLaws.{refused, unrefused, unrefused_steps, faultless_steps, one_cause}

-- what is said of lexemes
pub record LexemeLaws (text : List ℕ) : Type 0 where
  pub one : (mode : LexerMode) (from : ℕ) (a b : Lexeme) → Lexes text mode from a → Lexes text mode from b → a ≡ b
  pub some : (mode : LexerMode) (from : ℕ) → from ≤ length text → (l : Lexeme) × Lexes text mode from l
  pub within : (mode : LexerMode) (from : ℕ) (l : Lexeme) → from ≤ length text → Lexes text mode from l
      → LiesWithin from l (length text)

-- how the reading of a text stops: with a program, or refused between these places
pub data Stop : Type 0 where
  whole : List ClauseForm → Stop
  refused_there : (at end : ℕ) → Cause → Stop

-- After these tokens the reading of a text stops so.
pub data Stops (text : List ℕ) (mode : LexerMode) (ts : List Token) (from : ℕ) : Stop → Type 0 where
  at_token : (t : Token) (at to : ℕ) (cause : Cause) → Lexes text mode from (lexeme.Token at t to)
      → Refused ts t cause → Stops text mode ts from (refused_there at to cause)
  at_overlong : (at to : ℕ) (limit : Limit) → Lexes text mode from (lexeme.Overlong at limit to)
      → Stops text mode ts from (refused_there at to (because (TooLong limit)))
  at_stray : (at : ℕ) → Lexes text mode from (lexeme.Stray at)
      → Stops text mode ts from (refused_there at at (because Syntax))
  at_end : (at : ℕ) → Lexes text mode from (lexeme.End at) → ((cs : List ClauseForm) → ReadsProgram ts cs → ⊥)
      → Stops text mode ts from (refused_there at at (because Syntax))
  at_whole : (at : ℕ) (cs : List ClauseForm) → Lexes text mode from (lexeme.End at) → ReadsProgram ts cs
      → Stops text mode ts from (whole cs)

-- the tokens that are read of a text, and how the reading stops
pub record Stopped (text : List ℕ) (stop : Stop) : Type 0 where
  pub mode : LexerMode
  pub tokens : List Token
  pub from : ℕ
  pub stand : TokensTo text mode tokens from
  pub unrefused : NoneRefused tokens
  pub stops : Stops text mode tokens from stop

stopped_refusal : {text : List ℕ} {at end : ℕ} {cause : Cause} → IsRefusedProgram text at end cause
    → Stopped text (refused_there at end cause)
stopped_refusal (a_token mode ts t from at to cause k n l r) = record {
  mode = mode;
  tokens = ts;
  from = from;
  stand = k;
  unrefused = n;
  stops = at_token t at to cause l r;
}
stopped_refusal (overlong mode ts from at to limit k n l) =
    record { mode = mode; tokens = ts; from = from; stand = k; unrefused = n; stops = at_overlong at to limit l }
stopped_refusal (stray mode ts from at k n l) =
    record { mode = mode; tokens = ts; from = from; stand = k; unrefused = n; stops = at_stray at l }
stopped_refusal (unfinished mode ts from at k n l e) =
    record { mode = mode; tokens = ts; from = from; stand = k; unrefused = n; stops = at_end at l e }

stopped_whole : {text : List ℕ} {cs : List ClauseForm} → IsProgram text cs → Stopped text (whole cs)
stopped_whole {cs = cs} h = record {
  mode = h.mode;
  tokens = h.tokens;
  from = h.from;
  stand = h.stand;
  unrefused = h.unrefused;
  stops = at_whole h.at cs h.end h.reads;
}

-- where other tokens of the text end, seen from where these do
data Ahead (text : List ℕ) (mode : LexerMode) (ts : List Token) (from : ℕ) : LexerMode → List Token → ℕ → Type 0 where
  here : Ahead text mode ts from mode ts from
  there : (t : Token) (at to : ℕ) (rest : List Token) (other : LexerMode) (n : ℕ)
      → Lexes text mode from (lexeme.Token at t to) → Ahead text mode ts from other (ts ++ (t ∷ rest)) n

-- tokens that are as many are the same
record Same (mode other : LexerMode) (ts us : List Token) (from n : ℕ) : Type 0 where
  modes : mode ≡ other
  tokens : ts ≡ us
  ends : from ≡ n

length_last : (ts : List Token) (t : Token) → length (ts ++ (t ∷ [])) ≡ suc (length ts)
length_last ts t = omega (arith, length-append ts (t ∷ []))

none_ahead : (text : List ℕ) (mode : LexerMode) (ts : List Token) (from : ℕ) → TokensTo text mode ts from
    → length ts ≤ 0 → Ahead text mode ts from Head [] 0
none_ahead text _ _ _ none s = here
none_ahead text _ _ _ (another mode ts t from at to h l) s = absurd (omega (arith, length_last ts t))

one_more : (text : List ℕ) (mode other : LexerMode) (ts us : List Token) (from n : ℕ) (t : Token) (at to : ℕ) (next : LexerMode)
    → Ahead text mode ts from other us n → Lexes text other n (lexeme.Token at t to)
    → Ahead text mode ts from next (us ++ (t ∷ [])) to
one_more text mode _ ts _ from _ t at to next here l = there t at to [] next to l
one_more text mode _ ts _ from _ t at to next (there x a b rest other n k) l =
    let e : (ts ++ (x ∷ rest)) ++ (t ∷ []) ≡ ts ++ (x ∷ (rest ++ (t ∷ []))) = append_assoc ts (x ∷ rest) (t ∷ []) in
    subst (λ (y : List Token). Ahead text mode ts from next y to) (sym e)
    (there x a b (rest ++ (t ∷ [])) next to k)

same_last : (mode other : LexerMode) (ts us : List Token) (from n : ℕ) (t u : Token) (at a to b : ℕ)
    → Same mode other ts us from n → lexeme.Token at t to ≡ lexeme.Token a u b
    → Same (mode_after mode t) (mode_after other u) (ts ++ (t ∷ [])) (us ++ (u ∷ [])) to b
same_last mode other ts us from n t u at a to b s e =
    let i : t ≡ u = cc in
    let j : to ≡ b = cc in
    record { modes = rw (s.modes, i) refl; tokens = rw (s.tokens, i) refl; ends = j }

-- tokens of which none is refused lead to a state
leads : (ts front rest : List Token) (s : ProgramState) → NoneRefused ts → ts ≡ front ++ rest
    → program_run program_start front ≡ Some s → (last : ProgramState) × (program_run program_start ts ≡ Some last)
leads ts front [] s n e h = (s, ap (program_run program_start) (e ∙ append-nil front) ∙ h)
leads ts front (t ∷ rest) s n e h =
    let k = faultless_steps front t s h (λ cause. n front rest t cause e) in
    leads ts (front ++ (t ∷ [])) rest k.next n (e ∙ sym (append_assoc front (t ∷ []) rest))
    (run_step program_start s k.next front t h k.steps)

all_lead : (ts : List Token) → NoneRefused ts → (last : ProgramState) × (program_run program_start ts ≡ Some last)
unfolding program_run
all_lead ts n = leads ts [] ts program_start n refl refl

module _ (text : List ℕ) (laws : LexemeLaws text) where
  as_many : (mode other : LexerMode) (ts us : List Token) (from n : ℕ) → TokensTo text mode ts from
      → TokensTo text other us n → length ts ≡ length us → Same mode other ts us from n
  as_many _ _ _ _ _ _ none none e = record { modes = refl; tokens = refl; ends = refl }
  as_many _ _ _ _ _ _ none (another other us u n a b k m) e = absurd (omega (arith, length_last us u))
  as_many _ _ _ _ _ _ (another mode ts t from at to h l) none e = absurd (omega (arith, length_last ts t))
  as_many _ _ _ _ _ _ (another mode ts t from at to h l) (another other us u n a b k m) e =
      let s = as_many mode other ts us from n h k (omega (arith, length_last ts t, length_last us u)) in
      let l2 : Lexes text other n (lexeme.Token at t to) = rw (s.modes, s.ends) at l in
      same_last mode other ts us from n t u at a to b s (laws.one other n _ _ l2 m)

  ahead : (mode other : LexerMode) (ts us : List Token) (from n : ℕ) → TokensTo text mode ts from
      → TokensTo text other us n → length ts ≤ length us → Ahead text mode ts from other us n
  ahead mode _ ts _ from _ h none s = none_ahead text mode ts from h s
  ahead mode _ ts _ from _ h (another other us u n a b k m) s = elim (dec_le (length ts) (length us)) [
    | yes i ↦ one_more text mode other ts us from n u a b (mode_after other u) (ahead mode other ts us from n h k i) m
    | no i ↦ same_ahead (as_many mode _ ts _ from _ h (another other us u n a b k m)
        (omega (arith, length_last us u, i)))
  ]
    where
      same_ahead : {mode other : LexerMode} {ts us : List Token} {from n : ℕ} → Same mode other ts us from n
          → Ahead text mode ts from other us n
      same_ahead s = rw (s.modes, s.tokens, s.ends) here

  -- where the reading stops, no unrefused token stands
  none_beyond : (mode : LexerMode) (ts : List Token) (from : ℕ) (t : Token) (at to : ℕ) (rest : List Token) (a : Stop)
      → Lexes text mode from (lexeme.Token at t to) → NoneRefused (ts ++ (t ∷ rest)) → Stops text mode ts from a → ⊥
  none_beyond mode ts from t at to rest _ l n (at_token u b c cause k r) =
      let e = laws.one mode from _ _ k l in
      let i : u ≡ t = cc in
      n ts rest t cause refl (rw i at r.holds)
  none_beyond mode ts from t at to rest _ l n (at_overlong b c limit k) = let e = laws.one mode from _ _ k l in cc
  none_beyond mode ts from t at to rest _ l n (at_stray b k) = let e = laws.one mode from _ _ k l in cc
  none_beyond mode ts from t at to rest _ l n (at_end b k r) = let e = laws.one mode from _ _ k l in cc
  none_beyond mode ts from t at to rest _ l n (at_whole b cs k r) = let e = laws.one mode from _ _ k l in cc

  same_refusal : (ts : List Token) (t u : Token) (at a to b : ℕ) (c d : Cause)
      → NoneRefused ts → lexeme.Token at t to ≡ lexeme.Token a u b → Refused ts t c → Refused ts u d
      → refused_there at to c ≡ refused_there a b d
  same_refusal ts t u at a to b c d unrefused_all e r q =
      let i : u ≡ t = cc in
      let j : at ≡ a = cc in
      let to_same : to ≡ b = cc in
      let last = all_lead ts unrefused_all in
      let k = one_cause ts t last.0 last.1 c d r (rw i at q) in
      rw (j, to_same, k) refl

  same_stop : (mode : LexerMode) (ts : List Token) (from : ℕ) (a b : Stop) → NoneRefused ts → Stops text mode ts from a
      → Stops text mode ts from b → a ≡ b
  same_stop mode ts from _ _ unrefused_all (at_token t at to c l r) (at_token u b n d k q) =
      same_refusal ts t u at b to n c d unrefused_all (laws.one mode from _ _ l k) r q
  same_stop mode ts from _ _ unrefused_all (at_token t at to c l r) (at_overlong b n limit2 k) = let e = laws.one mode from _ _ l k in cc
  same_stop mode ts from _ _ unrefused_all (at_token t at to c l r) (at_stray b k) = let e = laws.one mode from _ _ l k in cc
  same_stop mode ts from _ _ unrefused_all (at_token t at to c l r) (at_end b k q) = let e = laws.one mode from _ _ l k in cc
  same_stop mode ts from _ _ unrefused_all (at_token t at to c l r) (at_whole b ds k q) = let e = laws.one mode from _ _ l k in cc
  same_stop mode ts from _ _ unrefused_all (at_overlong at to limit l) (at_token u b n d k q) = let e = laws.one mode from _ _ l k in cc
  same_stop mode ts from _ _ unrefused_all (at_overlong at to limit l) (at_overlong b n limit2 k) = let e = laws.one mode from _ _ l k in cc
  same_stop mode ts from _ _ unrefused_all (at_overlong at to limit l) (at_stray b k) = let e = laws.one mode from _ _ l k in cc
  same_stop mode ts from _ _ unrefused_all (at_overlong at to limit l) (at_end b k q) = let e = laws.one mode from _ _ l k in cc
  same_stop mode ts from _ _ unrefused_all (at_overlong at to limit l) (at_whole b ds k q) = let e = laws.one mode from _ _ l k in cc
  same_stop mode ts from _ _ unrefused_all (at_stray at l) (at_token u b n d k q) = let e = laws.one mode from _ _ l k in cc
  same_stop mode ts from _ _ unrefused_all (at_stray at l) (at_overlong b n limit2 k) = let e = laws.one mode from _ _ l k in cc
  same_stop mode ts from _ _ unrefused_all (at_stray at l) (at_stray b k) = let e = laws.one mode from _ _ l k in cc
  same_stop mode ts from _ _ unrefused_all (at_stray at l) (at_end b k q) = let e = laws.one mode from _ _ l k in cc
  same_stop mode ts from _ _ unrefused_all (at_stray at l) (at_whole b ds k q) = let e = laws.one mode from _ _ l k in cc
  same_stop mode ts from _ _ unrefused_all (at_end at l r) (at_token u b n d k q) = let e = laws.one mode from _ _ l k in cc
  same_stop mode ts from _ _ unrefused_all (at_end at l r) (at_overlong b n limit2 k) = let e = laws.one mode from _ _ l k in cc
  same_stop mode ts from _ _ unrefused_all (at_end at l r) (at_stray b k) = let e = laws.one mode from _ _ l k in cc
  same_stop mode ts from _ _ unrefused_all (at_end at l r) (at_end b k q) = let e = laws.one mode from _ _ l k in cc
  same_stop mode ts from _ _ unrefused_all (at_end at l r) (at_whole b ds k q) = absurd (r ds q)
  same_stop mode ts from _ _ unrefused_all (at_whole at cs l r) (at_token u b n d k q) = let e = laws.one mode from _ _ l k in cc
  same_stop mode ts from _ _ unrefused_all (at_whole at cs l r) (at_overlong b n limit2 k) = let e = laws.one mode from _ _ l k in cc
  same_stop mode ts from _ _ unrefused_all (at_whole at cs l r) (at_stray b k) = let e = laws.one mode from _ _ l k in cc
  same_stop mode ts from _ _ unrefused_all (at_whole at cs l r) (at_end b k q) = absurd (q cs r)
  same_stop mode ts from _ _ unrefused_all (at_whole at cs l r) (at_whole b ds k q) = ap whole (one_program ts cs ds r q)

  meet : (mode other : LexerMode) (ts us : List Token) (from n : ℕ) (a b : Stop) → Ahead text mode ts from other us n
      → NoneRefused us → Stops text mode ts from a → Stops text other us n b → a ≡ b
  meet mode _ ts _ from _ a b here r s q = same_stop mode ts from a b r s q
  meet mode _ ts _ from _ a b (there t at to rest other n l) r s q =
      absurd (none_beyond mode ts from t at to rest a l r s)

  one_stopped : (a b : Stop) → Stopped text a → Stopped text b → a ≡ b
  one_stopped a b h k = elim (dec_le (length h.tokens) (length k.tokens)) [
    | yes i ↦ meet _ _ _ _ _ _ a b (ahead _ _ _ _ _ _ h.stand k.stand i) k.unrefused h.stops k.stops
    | no i ↦ sym (meet _ _ _ _ _ _ b a (ahead _ _ _ _ _ _ k.stand h.stand (omega (arith, i))) h.unrefused
        k.stops h.stops)
  ]

  -- A text is refused at one place at most, and for one cause.
  pub one_refusal : (at end at2 end2 : ℕ) (cause cause2 : Cause) → IsRefusedProgram text at end cause
      → IsRefusedProgram text at2 end2 cause2 → (at ≡ at2) × (end ≡ end2) × (cause ≡ cause2)
  one_refusal at end at2 end2 cause cause2 h k =
      let same = one_stopped _ _ (stopped_refusal h) (stopped_refusal k) in
      (cc, cc, cc)

  never_both : (cs : List ClauseForm) (at end : ℕ) (cause : Cause) → IsProgram text cs
      → IsRefusedProgram text at end cause → ⊥
  never_both cs at end cause h k = let same = one_stopped _ _ (stopped_whole h) (stopped_refusal k) in cc

  -- A text has at most one reading.
  pub one_reading : (a b : Reading) → Reads text a → Reads text b → a ≡ b
  one_reading (program cs) (program ds) h k =
      let same = one_stopped _ _ (stopped_whole h) (stopped_whole k) in
      ap program (cc)
  one_reading (program cs) (fault at why) h k = absurd (never_both cs at k.0 _ h k.3)
  one_reading (program cs) (destructive at what) h k = absurd (never_both cs at k.0 _ h k.1)
  one_reading (fault at why) (program ds) h k = absurd (never_both ds at h.0 _ k h.3)
  one_reading (fault at why) (fault at2 why2) h k =
      let same = one_refusal at h.0 at2 k.0 _ _ h.3 k.3 in
      let place = same.0 in
      let flaw : h.1 ≡ k.1 = cc in
      let its : why ≡ why2 = h.2 ∙ ap why_of flaw ∙ sym k.2 in
      rw (place, its) refl
  one_reading (fault at why) (destructive at2 what) h k =
      let same = one_refusal at h.0 at2 k.0 _ _ h.3 k.1 in
      let other = same.2 in cc
  one_reading (destructive at what) (program ds) h k = absurd (never_both ds at h.0 _ k h.1)
  one_reading (destructive at what) (fault at2 why) h k =
      let same = one_refusal at h.0 at2 k.0 _ _ h.1 k.3 in
      let other = same.2 in cc
  one_reading (destructive at what) (destructive at2 what2) h k =
      let same = one_refusal at h.0 at2 k.0 _ _ h.1 k.1 in
      let place = same.0 in
      let its : what ≡ what2 = cc in
      rw (place, its) refl

-- What was read of a text so far: tokens of which none is refused, and the state that they lead to.
pub record Going (text : List ℕ) (mode : LexerMode) (ts : List Token) (from : ℕ) (s : ProgramState) : Type 0 where
  pub stand : TokensTo text mode ts from
  pub unrefused : NoneRefused ts
  pub runs : program_run program_start ts ≡ Some s

-- a token of some tokens and one more is one of these, or the last
split_end : (before ts after : List Token) (t u : Token) → ts ++ (t ∷ []) ≡ before ++ (u ∷ after)
    → ((before ≡ ts) × (u ≡ t)) ⊎ ((rest : List Token) × (ts ≡ before ++ (u ∷ rest)))
split_end [] [] after t u e = let i : u ≡ t = cc in inl (refl, i)
split_end [] (x ∷ ts) after t u e = let i : x ≡ u = cc in inr (ts, rw i refl)
split_end (y ∷ before) [] after t u e = let i : [] ≡ before ++ (u ∷ after) = cc in absurd (no_rest before i)
  where
    no_rest : (before : List Token) → [] ≢ before ++ (u ∷ after)
    no_rest [] e = cc
    no_rest (x ∷ before) e = cc
split_end (y ∷ before) (x ∷ ts) after t u e =
    let i : x ≡ y = cc in
    let j : ts ++ (t ∷ []) ≡ before ++ (u ∷ after) = cc in
    elim (split_end before ts after t u j) [
      | inl k ↦ inl (rw (i, k.0) refl, k.1)
      | inr k ↦ inr (k.0, rw (i, k.1) refl)
    ]

none_refused : NoneRefused []
none_refused [] after t cause e h = cc
none_refused (x ∷ before) after t cause e h = cc

one_unrefused : (ts : List Token) (t : Token) → NoneRefused ts → ((cause : Cause) → CauseHolds ts t cause → ⊥)
    → NoneRefused (ts ++ (t ∷ []))
one_unrefused ts t n m before after u cause e h = elim (split_end before ts after t u e) [
  | inl k ↦ m cause (moved k.0 k.1 h)
  | inr k ↦ n before k.0 u cause k.1 h
]
  where
    moved : before ≡ ts → u ≡ t → CauseHolds before u cause → CauseHolds ts t cause
    moved p q h =
        let first : CauseHolds ts u cause = subst (λ (x : List Token). CauseHolds x u cause) p h in
        subst (λ (x : Token). CauseHolds ts x cause) q first

module _ (text : List ℕ) where
  -- nothing was read
  pub going_first : Going text Head [] 0 program_start
  unfolding program_run
  going_first = record { stand = none; unrefused = none_refused; runs = refl }

  module _ (mode : LexerMode) (ts : List Token) (from : ℕ) (s : ProgramState) (g : Going text mode ts from s) where
    -- one more token that isn't refused
    pub going_on : (t : Token) (at to : ℕ) (next : ProgramState) → Lexes text mode from (lexeme.Token at t to)
        → cause_of s t ≡ None → program_step s t ≡ Some next → Going text (mode_after mode t) (ts ++ (t ∷ [])) to next
    going_on t at to next l e k = record {
      stand = another mode ts t from at to g.stand l;
      unrefused = one_unrefused ts t g.unrefused (unrefused ts t s g.runs e);
      runs = run_step program_start s next ts t g.runs k;
    }

    -- a token that is refused
    pub refused_at : (t : Token) (at to : ℕ) (cause : Cause) → Lexes text mode from (lexeme.Token at t to)
        → cause_of s t ≡ Some cause → IsRefusedProgram text at to cause
    refused_at t at to cause l e =
        a_token mode ts t from at to cause g.stand g.unrefused l (refused ts t s g.runs cause e)

    pub overlong_at : (at to : ℕ) (limit : Limit) → Lexes text mode from (lexeme.Overlong at limit to)
        → IsRefusedProgram text at to (because (TooLong limit))
    overlong_at at to limit l = overlong mode ts from at to limit g.stand g.unrefused l

    pub stray_at : (at : ℕ) → Lexes text mode from (lexeme.Stray at) → IsRefusedProgram text at at (because Syntax)
    stray_at at l = stray mode ts from at g.stand g.unrefused l

    -- the text's end
    pub ended_whole : (at : ℕ) (cs : List ClauseForm) → Lexes text mode from (lexeme.End at)
        → finished s ≡ Some cs → IsProgram text cs
    ended_whole at cs l e = record {
      mode = mode;
      tokens = ts;
      from = from;
      stand = g.stand;
      unrefused = g.unrefused;
      at = at;
      end = l;
      reads = sound_program ts s cs g.runs e;
    }

    pub ended_early : (at : ℕ) → Lexes text mode from (lexeme.End at) → finished s ≡ None
        → IsRefusedProgram text at at (because Syntax)
    ended_early at l e = unfinished mode ts from at g.stand g.unrefused l none_read
      where
        none_read : (cs : List ClauseForm) → ReadsProgram ts cs → ⊥
        none_read cs r =
            let p = program_leads ts cs r in
            let same : s ≡ p.at = same_some (sym g.runs ∙ p.runs) in
            none_some (sym e ∙ ap finished same ∙ p.is_finished)

-- a reading of the text
SomeReading : List ℕ → Type 0
SomeReading text = (r : Reading) × Reads text r

reads_refusal : (text : List ℕ) (at end : ℕ) (cause : Cause) → IsRefusedProgram text at end cause → SomeReading text
unfolding SomeReading
reads_refusal text at end (because flaw) h = (fault at (why_of flaw), (end, flaw, refl, h))
reads_refusal text at end (destroys what) h = (destructive at what, (end, h))

reads_program : (text : List ℕ) (cs : List ClauseForm) → IsProgram text cs → SomeReading text
unfolding SomeReading
reads_program text cs h = (program cs, h)

module _ (text : List ℕ) (laws : LexemeLaws text) where
  -- what is left of the text is read, given how it is after one more token
  read_lexeme : (mode : LexerMode) (ts : List Token) (from : ℕ) (s : ProgramState) (l : Lexeme)
      → Going text mode ts from s → Lexes text mode from l
      → ((t : Token) (at to : ℕ) (next : ProgramState) → Lexes text mode from (lexeme.Token at t to)
      → Going text (mode_after mode t) (ts ++ (t ∷ [])) to next → SomeReading text) → SomeReading text
  read_lexeme mode ts from s (lexeme.Token at t to) g l again = go (cause_of s t) refl
    where
      go : (o : Option Cause) → cause_of s t ≡ o → SomeReading text
      go (Some cause) e = reads_refusal text at to cause (refused_at text mode ts from s g t at to cause l e)
      go None e =
          let k = unrefused_steps ts t s g.runs e in
          again t at to k.next l (going_on text mode ts from s g t at to k.next l e k.steps)
  read_lexeme mode ts from s (lexeme.Overlong at limit to) g l again =
      reads_refusal text at to _ (overlong_at text mode ts from s g at to limit l)
  read_lexeme mode ts from s (lexeme.Stray at) g l again =
      reads_refusal text at at _ (stray_at text mode ts from s g at l)
  read_lexeme mode ts from s (lexeme.End at) g l again = go (finished s) refl
    where
      go : (o : Option (List ClauseForm)) → finished s ≡ o → SomeReading text
      go (Some cs) e = reads_program text cs (ended_whole text mode ts from s g at cs l e)
      go None e = reads_refusal text at at _ (ended_early text mode ts from s g at l e)

  read_rest : (left : ℕ) (mode : LexerMode) (ts : List Token) (from : ℕ) (s : ProgramState) → from ≤ length text
      → length text ≤ from + left → Going text mode ts from s → SomeReading text
  read_rest zero mode ts from s w m g =
      let l = laws.some mode from w in
      read_lexeme mode ts from s l.0 g l.1
      (λ t at to next k h. let i = laws.within mode from (lexeme.Token at t to) w k in absurd (omega arith))
  read_rest (suc left) mode ts from s w m g =
      let l = laws.some mode from w in
      read_lexeme mode ts from s l.0 g l.1
      (λ t at to next k h. let i = laws.within mode from (lexeme.Token at t to) w k in
      read_rest left (mode_after mode t) (ts ++ (t ∷ [])) to next (omega arith) (omega arith) h)

  -- A text has a reading.
  pub some_reading : (r : Reading) × Reads text r
  unfolding SomeReading
  some_reading = read_rest (length text) Head [] 0 program_start (omega arith) (omega arith) (going_first text)
