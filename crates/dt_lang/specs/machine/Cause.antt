-- Private to the proofs.
-- For what cause a state of the reading of programs refuses a token. The laws in `specs/laws/CauseLaws.antt` say that this is
-- what `Refused` says.
use Rattle.std.specs.Prelude.{◌==◌, ℕ, leb, Bool, true, false, not, ◌&&◌, ◌||◌, List, [], ◌∷◌, length, Option, Some, None, Err, is_some, ℤ, pos, if◌then◌else◌}
use Rattle.std.specs.List.{list_any}
use Rattle.std.specs.Option.{option_map}
use Rattle.dt_program.specs.Bounds.{bounds_fault}
use Rattle.dt_program.specs.Kinds.{StatementKind, recording, speculating, committing, irrevocable, unrestricted, statement_kind, excludes}
use Rattle.dt_program.specs.declared.clause.BoundsFault.{BoundsFault}
use Rattle.dt_program.specs.declared.description.DescriptionFault.{DescriptionFault}
use Rattle.dt_lang.specs.declared.fault.Flaw.TheVariants.{Syntax, Probe, Action, Variable, TooLong, Range, Spec}
use Rattle.dt_lang.specs.declared.fault.Limit.{Limit}
use Rattle.dt_lang.specs.declared.fault.Limit.TheVariants as limit
use Rattle.dt_program.specs.Limits.{descriptions_max, statements_max, keys_max}
use Rattle.dt_program.specs.Limits.{clauses_max, tokens_max}
use Rattle.dt_lang.specs.declared.token.Sign.TheVariants as sign
use Rattle.dt_lang.specs.declared.token.Token.{Token}
use Rattle.dt_lang.specs.declared.token.Token.TheVariants as token
use Rattle.dt_lang.specs.declared.word.Action.{Action as ActionName}
use Rattle.dt_lang.specs.declared.word.Action.TheVariants as action
use Rattle.dt_lang.specs.declared.word.Destructive.{Destructive}
use Rattle.dt_lang.specs.declared.word.Keyword.TheVariants as keyword
use Rattle.dt_lang.specs.declared.word.Word.TheVariants as word
use Rattle.dt_lang.specs.machine.ExpressionState as expression
use Rattle.dt_lang.specs.machine.ExpressionState.{is_operand, is_long_word, is_long_name_at}
use Rattle.dt_lang.specs.machine.ClauseState.{BoundForm, at_lower, at_upper, at_step, PlaceForm, outside, listed, body, assigned, within, bounded, arrow_read, ProgramState, program_step, inside}
use Rattle.dt_lang.specs.Grammar.{before_statement}
use Rattle.dt_program.specs.Clause.{ClauseForm}
use Rattle.dt_lang.specs.Refused.{Cause, because, destroys}
use Rattle.dt_lang.specs.Stand.{Slot, key}

-- a run of name bytes and colons in a head
abbrev pub is_description : Token → Bool
is_description (token.Description d) = true
is_description _ = false

-- an identifier, or an aggregation's name
abbrev pub is_for_statement : Token → Bool
is_for_statement (token.Word w) = true
is_for_statement (token.Aggregation name) = true
is_for_statement _ = false

abbrev pub is_word : Token → Bool
is_word (token.Word w) = true
is_word _ = false

-- an identifier that names no variable; `self` begins the name of one
abbrev pub names_no_variable : Token → Bool
names_no_variable (token.Word (word.Number v)) = false
names_no_variable (token.Word (word.Text v)) = false
names_no_variable (token.Word (word.Keyword keyword.ThreadLocal)) = false
names_no_variable (token.Word w) = true
names_no_variable _ = false

-- the destructive action that a token names
abbrev pub destructive_of : Token → Option Destructive
destructive_of (token.Word (word.Destructive what)) = Some what
destructive_of _ = None

-- the fault of a description that is none
abbrev pub description_fault : Token → Option DescriptionFault
description_fault (token.Description (Err fault)) = Some fault
description_fault _ = None

-- whether a token is one more of an expression
abbrev pub is_one_more : expression.State → Token → Bool
is_one_more e t = is_some (expression.step e t) || (is_operand t && expression.wants e)

-- whether a further key would be one too many
abbrev pub keys_full : Slot → Bool
keys_full (key name keys) = leb keys_max (length keys)
keys_full _ = false

-- the limit that a further token of what is read for a slot would pass: of tokens, or as the first of a key
abbrev pub limit_within : Slot → ℕ → Option Limit
limit_within slot n = if leb tokens_max n then Some limit.Tokens
    else (if (n == 0) && keys_full slot then Some limit.Keys else None)

-- the limit that a token passes within what is read for a slot
abbrev pub too_long_within : Slot → ℕ → expression.State → Token → Option Limit
too_long_within slot n e t = if is_one_more e t then limit_within slot n
    else (if is_long_name_at e.hand t then Some limit.LocalBytes else None)

-- the limit that a token passes
abbrev pub too_long_at : List ClauseForm → ClauseForm → PlaceForm → Token → Option Limit
too_long_at cs c outside t = if is_description t && leb clauses_max (length cs) then Some limit.Clauses else None
too_long_at cs c listed t =
    if is_description t && leb descriptions_max (length c.descriptions) then Some limit.Descriptions else None
too_long_at cs c (body before_statement) t =
    if leb statements_max (length c.statements) && is_for_statement t then Some limit.Statements else None
too_long_at cs c (within slot n e) t = too_long_within slot n e t
too_long_at cs c (inside arrow_read) t = if is_long_word t then Some limit.LocalBytes else None
too_long_at cs c _ _ = None

-- where a statement may begin
abbrev pub statement_at : PlaceForm → Bool
statement_at (body before_statement) = true
statement_at _ = false

-- where a statement may begin, or an aggregating function's name stands
abbrev pub name_may_stand : PlaceForm → Bool
name_may_stand (body before_statement) = true
name_may_stand (inside (assigned name keys)) = true
name_may_stand _ = false

-- where an operand stands
abbrev pub operand_at : PlaceForm → Bool
operand_at (within slot n e) = expression.wants e
operand_at _ = false

-- the rule that bounds break with this last one, where there are as many as there must be
abbrev pub fault_of_bounds : BoundForm → ℤ → Option BoundsFault
fault_of_bounds at_lower z = None
fault_of_bounds (at_upper lower) z = bounds_fault lower z (pos 1)
fault_of_bounds (at_step lower upper) z = bounds_fault lower upper z

abbrev pub out_of_range_at : PlaceForm → Token → Option BoundsFault
out_of_range_at (inside (bounded name keys f b z)) (token.Sign sign.CloseParen) = fault_of_bounds b z
out_of_range_at _ _ = None

-- the destructive action that a token names, where a statement may begin
abbrev pub destroys_at : PlaceForm → Token → Option Destructive
destroys_at (body before_statement) t = destructive_of t
destroys_at _ t = None

-- the kind of the statement that an action's name begins
abbrev pub kind_of_action : ActionName → StatementKind
kind_of_action action.Trace = recording
kind_of_action action.Stack = recording
kind_of_action action.Ustack = recording
kind_of_action action.Exit = irrevocable
kind_of_action action.Speculate = speculating
kind_of_action action.Commit = committing
kind_of_action action.Discard = unrestricted

-- the kind of the statement that a token begins
abbrev pub kind_begun : Token → StatementKind
kind_begun (token.Word (word.Action a)) = kind_of_action a
kind_begun (token.Aggregation name) = irrevocable
kind_begun _ = unrestricted

-- whether a statement of the clause excludes the one that a token begins
abbrev pub is_excluded : ClauseForm → Token → Bool
is_excluded c t = list_any (λ earlier. excludes (statement_kind earlier) (kind_begun t)) c.statements

abbrev pub is_excluded_at : ClauseForm → PlaceForm → Token → Bool
is_excluded_at c (body before_statement) t = is_excluded c t
is_excluded_at c _ t = false

-- a cause, where it holds
abbrev pub where_true : Bool → Cause → Option Cause
where_true true cause = Some cause
where_true false cause = None

abbrev pub too_long_cause : List ClauseForm → ClauseForm → PlaceForm → Token → Option Cause
too_long_cause cs c p t = option_map (λ limit. because (TooLong limit)) (too_long_at cs c p t)

abbrev pub destructive_cause : PlaceForm → Token → Option Cause
destructive_cause p t = option_map destroys (destroys_at p t)

abbrev pub probe_cause : Token → Option Cause
probe_cause t = option_map (λ fault. because (Probe fault)) (description_fault t)

abbrev pub action_cause : PlaceForm → Token → Option ProgramState → Option Cause
action_cause p t next = where_true (is_word t && (name_may_stand p && not (is_some next))) (because Action)

abbrev pub variable_cause : PlaceForm → Token → Option ProgramState → Option Cause
variable_cause p t next = where_true (names_no_variable t && (operand_at p && not (is_some next))) (because Variable)

abbrev pub range_cause : Option BoundsFault → Option Cause
range_cause range = option_map (λ fault. because (Range fault)) range

abbrev pub spec_cause : ClauseForm → PlaceForm → Token → Option Cause
spec_cause c p t = where_true (is_excluded_at c p t) (because Spec)

abbrev pub syntax_cause : Option ProgramState → Option Cause
syntax_cause next = where_true (not (is_some next)) (because Syntax)

-- the first that is there
abbrev pub first_of : List (Option Cause) → Option Cause
first_of [] = None
first_of (Some cause ∷ rest) = Some cause
first_of (None ∷ rest) = first_of rest

-- the cause for which a token is refused, where it is: the first of those that hold
unfoldable pub cause_of : ProgramState → Token → Option Cause
cause_of s t = first_of (too_long_cause s.clauses s.clause s.place t ∷ destructive_cause s.place t ∷ probe_cause t
    ∷ action_cause s.place t (program_step s t) ∷ variable_cause s.place t (program_step s t)
    ∷ range_cause (out_of_range_at s.place t) ∷ spec_cause s.clause s.place t ∷ syntax_cause (program_step s t) ∷ [])
