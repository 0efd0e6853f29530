-- Private to the proofs.
-- The causes that a token shows at its place, before it is known whether it goes on; and the answer to it.
use Rattle.std.specs.Prelude.{◌≡◌, ℕ, Bool, true, false, not, ◌&&◌, if◌then◌else◌, Option, Some, None, Err}
use Rattle.dt_lang.specs.declared.fault.LangFault.{LangFault}
use Rattle.dt_lang.specs.declared.fault.LangFault.TheVariants as fault
use Rattle.dt_lang.specs.declared.fault.TokenRefusal.{TokenRefusal}
use Rattle.dt_lang.specs.declared.fault.TokenRefusal.TheVariants as refusal
use Rattle.dt_program.specs.declared.clause.BoundsFault.{BoundsFault}
use Rattle.dt_lang.specs.declared.fault.Flaw.{Flaw}
use Rattle.dt_lang.specs.declared.fault.Flaw.TheVariants as flaw
use Rattle.dt_lang.specs.declared.token.Token.{Token}
use Rattle.dt_lang.specs.declared.token.Token.TheVariants as token
use Rattle.dt_lang.specs.declared.word.Keyword.TheVariants as keyword
use Rattle.dt_lang.specs.declared.word.Word.TheVariants as word
use Rattle.dt_lang.specs.machine.ExpressionState as expression
use Rattle.dt_lang.specs.Grammar.{before_statement}
use Rattle.dt_lang.specs.machine.Cause.{cause_of, is_excluded}
use Rattle.dt_program.specs.Clause.{ClauseForm}
use Rattle.dt_lang.specs.machine.ClauseState.{PlaceForm, body, assigned, within, draws, ProgramState, program_step, inside}
use Rattle.dt_lang.specs.machine.Fits.{Fits}
use Rattle.dt_lang.specs.Refused.{Cause, because, destroys}

abbrev pub cause_of_refusal : TokenRefusal → Cause
cause_of_refusal (refusal.Flaw flaw) = because flaw
cause_of_refusal (refusal.Destructive what) = destroys what

-- where no name and no operand stands
abbrev pub shown_elsewhere : Token → Option Cause
shown_elsewhere (token.Description (Err fault)) = Some (because (flaw.Probe fault))
shown_elsewhere _ = None

-- where a statement may begin
abbrev pub shown_before_statement : Token → Option Cause
shown_before_statement (token.Word (word.Destructive what)) = Some (destroys what)
shown_before_statement (token.Word (word.Action a)) = None
shown_before_statement (token.Word (word.Keyword keyword.ThreadLocal)) = None
shown_before_statement (token.Word w) = Some (because flaw.Action)
shown_before_statement t = shown_elsewhere t

-- a statement that may not stand there is excluded by an earlier one
abbrev pub shown_or_excluded : ClauseForm → Token → Option Cause → Option Cause
shown_or_excluded c t (Some cause) = Some cause
shown_or_excluded c t None = if is_excluded c t then Some (because flaw.Spec) else None

-- where an aggregating function's name stands
abbrev pub shown_assigned : Token → Option Cause
shown_assigned (token.Word (word.Function fn)) = None
shown_assigned (token.Word w) = Some (because flaw.Action)
shown_assigned t = shown_elsewhere t

-- where an operand stands
abbrev pub shown_operand : Token → Option Cause
shown_operand (token.Word (word.Number v)) = None
shown_operand (token.Word (word.Text v)) = None
shown_operand (token.Word (word.Keyword keyword.ThreadLocal)) = None
shown_operand (token.Word w) = Some (because flaw.Variable)
shown_operand t = shown_elsewhere t

-- in what is read for a slot, where an operand stands or not
abbrev pub shown_within : (wants : Bool) → Token → Option Cause
shown_within true t = shown_operand t
shown_within false t = shown_elsewhere t

abbrev pub shown_at : ClauseForm → PlaceForm → Token → Option Cause
shown_at c (body before_statement) t = shown_or_excluded c t (shown_before_statement t)
shown_at c (inside (assigned name keys)) t = shown_assigned t
shown_at c (within slot n e) t = shown_within (expression.wants e && not (draws slot n t)) t
shown_at c _ t = shown_elsewhere t

-- What came of a token that shows none of those causes: `next` is what it leads to, and `range` the fault of the bounds
-- where it ends an `lquantize` with wrong ones.
abbrev pub ShownOutcome : (next : Option ProgramState) → (range : Option BoundsFault) → Option Flaw → ProgramState → Type 0
ShownOutcome next range None new = (next ≡ Some new) × (range ≡ None)
ShownOutcome next range (Some flaw.Syntax) new = (next ≡ None) × (range ≡ None)
ShownOutcome next range (Some (flaw.Range fault)) new = range ≡ Some fault
ShownOutcome next range (Some _) new = ⊥

-- What came of a token: it is refused, or it leads to this state.
abbrev pub AnswersToken : (old : ProgramState) → Token → Option TokenRefusal → (new : ProgramState) → Type 0
AnswersToken old t (Some refusal) new = cause_of old t ≡ Some (cause_of_refusal refusal)
AnswersToken old t None new = (cause_of old t ≡ None) × (program_step old t ≡ Some new) × Fits new

-- the fault of a token between these offsets that is refused so
abbrev pub fault_at : (at end : ℕ) → TokenRefusal → LangFault
fault_at at end (refusal.Flaw flaw) = fault.Program at end flaw
fault_at at end (refusal.Destructive what) = fault.Destructive at end what
