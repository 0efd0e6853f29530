-- The cause of a token is the one that it shows at its place, or else what comes of it says it.
use Rattle.std.proofs.Common.{◌≡◌, ◌⊎◌, inl, inr, ℕ, Bool, true, false, not, ◌&&◌, is_some, if◌then◌else◌, List, [], ◌∷◌, ◌++◌, Option, Some, None, Ok, Err, refl}
use Rattle.std.proofs.Common.{sym, ap, ◌∙◌, subst}
use Rattle.std.specs.Option.{option_map}
use Rattle.dt_lang.specs.declared.fault.TokenRefusal.{TokenRefusal}
use Rattle.dt_lang.specs.declared.fault.TokenRefusal.TheVariants as refusal
use Rattle.dt_program.specs.declared.clause.BoundsFault.{BoundsFault}
use Rattle.dt_lang.specs.declared.fault.Flaw.{Flaw}
use Rattle.dt_lang.specs.declared.fault.Flaw.TheVariants as flaw
use Rattle.dt_lang.specs.declared.fault.Flaw.TheVariants.{Action, Variable, Spec}
use Rattle.dt_lang.specs.declared.fault.Limit.{Limit}
use Rattle.dt_lang.specs.declared.token.Token.{Token}
use Rattle.dt_lang.specs.declared.token.Token.TheVariants as token
use Rattle.dt_lang.specs.declared.word.Keyword.TheVariants as keyword
use Rattle.dt_lang.specs.declared.word.Word.{Word}
use Rattle.dt_lang.specs.declared.word.Word.TheVariants as word
use Rattle.dt_lang.specs.machine.ExpressionState as expression
use Rattle.dt_lang.specs.Grammar.{before_statement}
use Rattle.dt_program.specs.Clause.{ArgForm, ClauseForm}
use Rattle.dt_lang.specs.Refused.{Cause, because}
use Rattle.dt_lang.specs.Stand.{Slot}
use Rattle.dt_lang.specs.machine.ClauseState.{PlaceForm, body, assigned, within, draws, from_within, ProgramState, program_step_from, program_step, inside}
use Rattle.dt_lang.specs.machine.Cause.{is_word, names_no_variable, is_excluded, spec_cause, too_long_at, out_of_range_at, where_true, destructive_cause}
use Rattle.dt_lang.specs.machine.Cause.{probe_cause, action_cause, variable_cause, range_cause, syntax_cause, first_of, cause_of}
use Rattle.dt_lang.specs.machine.ShownCause.{cause_of_refusal, shown_elsewhere, shown_within, shown_at, ShownOutcome, AnswersToken}
use Rattle.dt_lang.specs.machine.Fits.{Fits}
use Rattle.dt_lang.specs.laws.ClauseSound.{none_some}
use Rattle.dt_lang.specs.laws.Ends.{begin_draw_is}
use Rattle.dt_lang.specs.laws.ExpressionLaws.{foreign_word, waits_undone}
use Rattle.dt_lang.proofs.FitsLaws.{fits_step}

-- the causes that a token shows at its place, of which the step that it makes tells the action's and the variable's
abbrev ShownTests : ClauseForm → PlaceForm → Token → Option ProgramState → List (Option Cause)
ShownTests c p t next = destructive_cause p t ∷ probe_cause t ∷ action_cause p t next ∷ variable_cause p t next
    ∷ spec_cause c p t ∷ []

-- where no name stands, and no operand
abbrev NoneShown : Token → Bool → List (Option Cause)
NoneShown t wants = None ∷ probe_cause t ∷ where_true (is_word t && false) (because Action)
    ∷ where_true (names_no_variable t && wants) (because Variable) ∷ None ∷ []

elsewhere_is : (t : Token) → shown_elsewhere t ≡ first_of (NoneShown t false)
elsewhere_is (token.Description (Err fault)) = refl
elsewhere_is (token.Description (Ok d)) = refl
elsewhere_is (token.Word w) = word_case w
  where
    word_case : (w : Word) → None
        ≡ first_of (where_true (names_no_variable (token.Word w) && false) (because Variable) ∷ None ∷ [])
    word_case (word.Number v) = refl
    word_case (word.Text v) = refl
    word_case (word.Keyword keyword.ThreadLocal) = refl
    word_case (word.Keyword keyword.Speculation) = refl
    word_case _ = refl
elsewhere_is _ = refl

-- whether a word that no operand begins with may stand where an operand does
word_steps : (cs : List ClauseForm) (c : ClauseForm) (slot : Slot) (n : ℕ) (e : expression.State) (w : Word)
    → expression.wants e ≡ true → expression.begins_nothing w ≡ true
    → is_some (from_within cs c slot n e (token.Word w)) ≡ draws slot n (token.Word w)
word_steps cs c slot n e w h k =
    rw (foreign_word e w h k, waits_undone e h) (begin_draw_is cs c slot n (token.Word w))

-- it is refused there, but where it is drawn
word_shown : (w : Word) (drawn : Bool) → expression.begins_nothing w ≡ true
    → shown_within (not drawn) (token.Word w) ≡ first_of (NoneShown (token.Word w) (not drawn))
word_shown w true k = elsewhere_is (token.Word w)
word_shown (word.Number v) false k = cc
word_shown (word.Text v) false k = cc
word_shown (word.Keyword keyword.ThreadLocal) false k = cc
word_shown (word.Keyword keyword.Speculation) false k = refl
word_shown _ false k = refl

-- what may begin an operand shows nothing there, nor does what is no word
other_shown : (t : Token) (drawn wants : Bool) → names_no_variable t ≡ false
    → shown_within (not drawn) t ≡ first_of (NoneShown t wants)
other_shown (token.Description (Err fault)) true wants h = refl
other_shown (token.Description (Err fault)) false wants h = refl
other_shown (token.Description (Ok d)) true wants h = refl
other_shown (token.Description (Ok d)) false wants h = refl
other_shown (token.Word (word.Number v)) true wants h = refl
other_shown (token.Word (word.Number v)) false wants h = refl
other_shown (token.Word (word.Text v)) true wants h = refl
other_shown (token.Word (word.Text v)) false wants h = refl
other_shown (token.Word (word.Keyword keyword.ThreadLocal)) true wants h = refl
other_shown (token.Word (word.Keyword keyword.ThreadLocal)) false wants h = refl
other_shown (token.Word (word.Keyword keyword.Speculation)) drawn wants h = cc
other_shown (token.Word w) drawn wants h = cc
other_shown _ true wants h = refl
other_shown _ false wants h = refl

operand_is : (cs : List ClauseForm) (c : ClauseForm) (slot : Slot) (n : ℕ) (e : expression.State) (t : Token)
    → expression.wants e ≡ true
    → shown_within (not (draws slot n t)) t ≡ first_of (NoneShown t (not (is_some (from_within cs c slot n e t))))
operand_is cs c slot n e (token.Word (word.Number v)) h =
    let t = token.Word (word.Number v) in
    other_shown t (draws slot n t) (not (is_some (from_within cs c slot n e t))) refl
operand_is cs c slot n e (token.Word (word.Text v)) h =
    let t = token.Word (word.Text v) in
    other_shown t (draws slot n t) (not (is_some (from_within cs c slot n e t))) refl
operand_is cs c slot n e (token.Word (word.Keyword keyword.ThreadLocal)) h =
    let t = token.Word (word.Keyword keyword.ThreadLocal) in
    other_shown t (draws slot n t) (not (is_some (from_within cs c slot n e t))) refl
operand_is cs c slot n e (token.Word (word.Keyword keyword.Speculation)) h =
    let w = word.Keyword keyword.Speculation in
    rw (word_steps cs c slot n e w h refl) (word_shown w (draws slot n (token.Word w)) refl)
operand_is cs c slot n e (token.Word w) h =
    rw (word_steps cs c slot n e w h refl) (word_shown w (draws slot n (token.Word w)) refl)
operand_is cs c slot n e t h = other_shown t (draws slot n t) (not (is_some (from_within cs c slot n e t))) refl

within_is : (cs : List ClauseForm) (c : ClauseForm) (slot : Slot) (n : ℕ) (e : expression.State) (t : Token)
    → shown_at c (within slot n e) t ≡ first_of (ShownTests c (within slot n e) t (from_within cs c slot n e t))
within_is cs c slot n e t = go (expression.wants e) refl
  where
    go : (wants : Bool) → expression.wants e ≡ wants
        → shown_within (wants && not (draws slot n t)) t
        ≡ first_of (NoneShown t (wants && not (is_some (from_within cs c slot n e t))))
    go false k = elsewhere_is t
    go true k = operand_is cs c slot n e t k

-- a statement that may begin is excluded or not
excluded_alone : (b : Bool) → (if b then Some (because flaw.Spec) else None) ≡ first_of (where_true b (because Spec) ∷ [])
excluded_alone true = refl
excluded_alone false = refl

before_statement_is : (cs : List ClauseForm) (c : ClauseForm) (t : Token) → shown_at c (body before_statement) t
    ≡ first_of (ShownTests c (body before_statement) t (program_step_from cs c (body before_statement) t))
before_statement_is cs c (token.Description (Err fault)) = refl
before_statement_is cs c (token.Description (Ok d)) = excluded_alone (is_excluded c (token.Description (Ok d)))
before_statement_is cs c (token.Word (word.Action a)) = excluded_alone (is_excluded c (token.Word (word.Action a)))
before_statement_is cs c (token.Word (word.Keyword keyword.ThreadLocal)) =
    excluded_alone (is_excluded c (token.Word (word.Keyword keyword.ThreadLocal)))
before_statement_is cs c (token.Word (word.Keyword keyword.Speculation)) = refl
before_statement_is cs c (token.Word (word.Number v)) = refl
before_statement_is cs c (token.Word (word.Text v)) = refl
before_statement_is cs c (token.Word (word.Destructive what)) = refl
before_statement_is cs c (token.Word w) = refl
before_statement_is cs c t = excluded_alone (is_excluded c t)

assigned_is : (cs : List ClauseForm) (c : ClauseForm) (name : List ℕ) (keys : List ArgForm) (t : Token)
    → shown_at c (inside (assigned name keys)) t
    ≡ first_of (ShownTests c (inside (assigned name keys)) t (program_step_from cs c (inside (assigned name keys)) t))
assigned_is cs c name keys (token.Description (Err fault)) = refl
assigned_is cs c name keys (token.Description (Ok d)) = refl
assigned_is cs c name keys (token.Word (word.Number v)) = refl
assigned_is cs c name keys (token.Word (word.Text v)) = refl
assigned_is cs c name keys (token.Word (word.Function fn)) = named (names_no_variable (token.Word (word.Function fn)))
  where
    named : (b : Bool) → None ≡ first_of (where_true (b && false) (because Variable) ∷ None ∷ [])
    named true = refl
    named false = refl
assigned_is cs c name keys _ = refl

shown_is : (cs : List ClauseForm) (c : ClauseForm) (p : PlaceForm) (t : Token)
    → shown_at c p t ≡ first_of (ShownTests c p t (program_step_from cs c p t))
shown_is cs c (body before_statement) t = before_statement_is cs c t
shown_is cs c (inside (assigned name keys)) t = assigned_is cs c name keys t
shown_is cs c (within slot n e) t = within_is cs c slot n e t
shown_is cs c _ t = elsewhere_is t

-- of some tests and those after them the first that is met decides
first_shown : (found rest : List (Option Cause)) (cause : Cause) → first_of found ≡ Some cause
    → first_of (found ++ rest) ≡ Some cause
first_shown [] rest cause e = absurd (none_some e)
first_shown (Some first ∷ found) rest cause e = e
first_shown (None ∷ found) rest cause e = first_shown found rest cause e

first_late : (found rest : List (Option Cause)) → first_of found ≡ None → first_of (found ++ rest) ≡ first_of rest
first_late [] rest e = refl
first_late (Some first ∷ found) rest e = cc
first_late (None ∷ found) rest e = first_late found rest e

-- of two tests of which one isn't met, either may go first
either_first : (found rest : List (Option Cause)) (x y : Option Cause) → (x ≡ None) ⊎ (y ≡ None)
    → first_of (found ++ (x ∷ y ∷ rest)) ≡ first_of (found ++ (y ∷ x ∷ rest))
either_first [] rest x y (inl e) = rw e (passed y rest)
  where
    passed : (y : Option Cause) (rest : List (Option Cause)) → first_of (y ∷ rest) ≡ first_of (y ∷ None ∷ rest)
    passed None rest = refl
    passed (Some cause) rest = refl
either_first [] rest x y (inr e) = rw e (passed x rest)
  where
    passed : (x : Option Cause) (rest : List (Option Cause)) → first_of (x ∷ None ∷ rest) ≡ first_of (x ∷ rest)
    passed None rest = refl
    passed (Some cause) rest = refl
either_first (Some first ∷ found) rest x y e = refl
either_first (None ∷ found) rest x y e = either_first found rest x y e

-- where a statement may begin no bounds end
one_unmet : (c : ClauseForm) (p : PlaceForm) (t : Token)
    → (range_cause (out_of_range_at p t) ≡ None) ⊎ (spec_cause c p t ≡ None)
one_unmet c (body before_statement) t = inl refl
one_unmet c _ t = inr refl

-- after those come wrong bounds, and what doesn't go on
late : Option BoundsFault → Option ProgramState → Option Cause
late range next = first_of (range_cause range ∷ syntax_cause next ∷ [])

module _ (s : ProgramState) (t : Token) (short : too_long_at s.clauses s.clause s.place t ≡ None) where
  abbrev shown_tests : List (Option Cause)
  shown_tests = ShownTests s.clause s.place t (program_step_from s.clauses s.clause s.place t)

  in_order : cause_of s t
      ≡ first_of (shown_tests ++ (range_cause (out_of_range_at s.place t) ∷ syntax_cause (program_step s t) ∷ []))
  unfolding cause_of program_step
  in_order =
      let next = program_step_from s.clauses s.clause s.place t in
      rw short
      (either_first
      (destructive_cause s.place t ∷ probe_cause t ∷ action_cause s.place t next ∷ variable_cause s.place t next ∷ [])
      (syntax_cause next ∷ []) (range_cause (out_of_range_at s.place t)) (spec_cause s.clause s.place t)
      (one_unmet s.clause s.place t))

  cause_shown : (cause : Cause) → shown_at s.clause s.place t ≡ Some cause → cause_of s t ≡ Some cause
  cause_shown cause e =
      in_order ∙ first_shown shown_tests _ cause (sym (shown_is s.clauses s.clause s.place t) ∙ e)

  cause_late : shown_at s.clause s.place t ≡ None → cause_of s t ≡ late (out_of_range_at s.place t) (program_step s t)
  unfolding late
  cause_late e = in_order ∙ first_late shown_tests _ (sym (shown_is s.clauses s.clause s.place t) ∙ e)

  -- a token that shows a cause is refused for it
  pub answers_shown : (r : TokenRefusal) (new : ProgramState) → shown_at s.clause s.place t ≡ Some (cause_of_refusal r)
      → AnswersToken s t (Some r) new
  answers_shown r new e = cause_shown (cause_of_refusal r) e

  late_is : (range : Option BoundsFault) (next : Option ProgramState) → out_of_range_at s.place t ≡ range
      → program_step s t ≡ next → shown_at s.clause s.place t ≡ None → cause_of s t ≡ late range next
  late_is range next r k e = cause_late e ∙ rw (r, k) refl

  -- what comes of any other says the cause
  pub answers_late : (found : Option Flaw) (new : ProgramState) → Fits s → shown_at s.clause s.place t ≡ None
      → ShownOutcome (program_step s t) (out_of_range_at s.place t) found new → AnswersToken s t (option_map refusal.Flaw found) new
  unfolding late
  answers_late None new f e o =
      (late_is None (Some new) o.1 o.0 e, o.0, fits_step s new t f short o.0)
  answers_late (Some flaw.Syntax) new f e o = late_is None None o.1 o.0 e
  answers_late (Some (flaw.Range fault)) new f e o = late_is (Some fault) (program_step s t) o refl e
  answers_late (Some (flaw.Probe fault)) new f e o = absurd o
  answers_late (Some flaw.Action) new f e o = absurd o
  answers_late (Some flaw.Variable) new f e o = absurd o
  answers_late (Some flaw.Spec) new f e o = absurd o
  answers_late (Some (flaw.TooLong limit)) new f e o = absurd o

-- a token that is one too many
pub answers_too_long : (s : ProgramState) (t : Token) (limit : Limit) (new : ProgramState)
    → too_long_at s.clauses s.clause s.place t ≡ Some limit
    → AnswersToken s t (Some (refusal.Flaw (flaw.TooLong limit))) new
unfolding cause_of
answers_too_long s t limit new e = rw e refl

-- a token that isn't, where nothing was changed by the test
module _ (s middle : ProgramState) (t : Token) (short : too_long_at s.clauses s.clause s.place t ≡ None)
    (same : middle ≡ s) where
  pub push_shown : (r : TokenRefusal) (new : ProgramState) → Some (cause_of_refusal r) ≡ shown_at middle.clause middle.place t
      → AnswersToken s t (Some r) new
  push_shown r new h =
      let i : shown_at middle.clause middle.place t ≡ shown_at s.clause s.place t = ap (λ (x : ProgramState). shown_at x.clause x.place t) same in
      answers_shown s t short r new (sym i ∙ sym h)

  pub push_late : (found : Option Flaw) (new : ProgramState) → Fits s → None ≡ shown_at middle.clause middle.place t
      → ShownOutcome (program_step middle t) (out_of_range_at middle.place t) found new
      → AnswersToken s t (option_map refusal.Flaw found) new
  push_late found new f h o =
      let i : shown_at middle.clause middle.place t ≡ shown_at s.clause s.place t = ap (λ (x : ProgramState). shown_at x.clause x.place t) same in
      let o2 : ShownOutcome (program_step s t) (out_of_range_at s.place t) found new =
      subst (λ (x : ProgramState). ShownOutcome (program_step x t) (out_of_range_at x.place t) found new) same o in
      answers_late s t short found new f (sym i ∙ sym h) o2

-- an outcome of what was answered
pub outcome_is : (next : Option ProgramState) (range : Option BoundsFault) (v w : Option Flaw) (new : ProgramState)
    → v ≡ w → ShownOutcome next range v new → ShownOutcome next range w new
outcome_is next range v w new e o = subst (λ (x : Option Flaw). ShownOutcome next range x new) e o
