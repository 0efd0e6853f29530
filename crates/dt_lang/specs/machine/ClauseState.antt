-- Private to the proofs.
-- Programs read token by token: what was read, and what stands next. The laws in `specs/laws/ClauseLaws.antt` say that this
-- reads exactly what `ReadsProgram` says.
use Rattle.std.specs.Prelude.{ℕ, ◌+◌, ◌==◌, leb, Bool, true, false, ◌&&◌, if◌then◌else◌, List, [], ◌∷◌, ◌++◌, Option, Some, None, option_and_then, option_map, ℤ, pos, neg_ℤ, Ok}
use Rattle.dt_expr.specs.Form.{Form}
use Rattle.dt_program.specs.Description.{DescForm, form_of_description}
use Rattle.dt_program.specs.Limits.{frames_max}
use Rattle.dt_lang.specs.declared.token.Sign.TheVariants as sign
use Rattle.dt_lang.specs.declared.token.Token.{Token}
use Rattle.dt_lang.specs.declared.token.Token.TheVariants as token
use Rattle.dt_lang.specs.declared.word.Action.{Action}
use Rattle.dt_lang.specs.declared.word.Action.TheVariants as action
use Rattle.dt_lang.specs.declared.word.Function.{Function}
use Rattle.dt_lang.specs.declared.word.Function.TheVariants as function
use Rattle.dt_lang.specs.declared.word.Keyword.TheVariants as keyword
use Rattle.dt_lang.specs.declared.word.Word.TheVariants as word
use Rattle.dt_program.specs.Clause.{ArgForm, number, count, lquantize, StatementForm, stack, ustack, aggregate, assign, draw, ClauseForm}
use Rattle.dt_lang.specs.Grammar.{call_of, statement_of, Spot, before_statement, after_statement}
use Rattle.dt_lang.specs.Stand.{Slot, predicate, given, key, value, assignment, divides_in}
use Rattle.dt_lang.specs.machine.ExpressionState as expression

-- which bound of an `lquantize` is read, and those before it
pub data BoundForm : Type 0 where
  at_lower : BoundForm
  at_upper : (lower : ℤ) → BoundForm
  at_step : (lower upper : ℤ) → BoundForm

-- where in a statement the last token was, and so what stands next
pub data InsideForm : Type 0 where
  -- an action's name; the `(` of a stack's action; all of a statement but its `)`
  called : Action → InsideForm
  stack_opened : (process : Bool) → InsideForm
  closing : StatementForm → InsideForm
  -- an aggregation's name; its keys' `]`; its `=`; its function's name
  named : (name : List ℕ) → InsideForm
  keyed : (name : List ℕ) (keys : List ArgForm) → InsideForm
  assigned : (name : List ℕ) (keys : List ArgForm) → InsideForm
  applied : (name : List ℕ) (keys : List ArgForm) → Function → InsideForm
  -- the `,` in front of a bound; its `-`; its number
  bounding : (name : List ℕ) (keys : List ArgForm) → Form → BoundForm → InsideForm
  negating : (name : List ℕ) (keys : List ArgForm) → Form → BoundForm → InsideForm
  bounded : (name : List ℕ) (keys : List ArgForm) → Form → BoundForm → ℤ → InsideForm
  -- `self`; its `->`; a thread-local variable; the `speculation` that it is given
  self_read : InsideForm
  arrow_read : InsideForm
  variable : (name : List ℕ) → InsideForm
  drawing : (name : List ℕ) → InsideForm

-- what the last token was, and so what stands next
pub data PlaceForm : Type 0 where
  -- a whole clause, or nothing: a clause may begin
  outside : PlaceForm
  -- a description of a head; a `,` in it; the `/` that ends the predicate
  described : PlaceForm
  listed : PlaceForm
  guarded : PlaceForm
  -- a spot of a body
  body : Spot → PlaceForm
  -- in a statement
  inside : InsideForm → PlaceForm
  -- so many tokens of what is read for a slot
  within : Slot → ℕ → expression.State → PlaceForm

-- the whole clauses, what was read of the next, and where in it
pub record ProgramState : Type 0 where
  pub clauses : List ClauseForm
  pub clause : ClauseForm
  pub place : PlaceForm

abbrev pub program_at : List ClauseForm → ClauseForm → PlaceForm → ProgramState
program_at cs c place = record { clauses = cs; clause = c; place = place }

-- a clause of which only the head was read
abbrev pub headed : List DescForm → ClauseForm
headed ds = record { descriptions = ds; predicate = None; statements = [] }

abbrev pub with_description : ClauseForm → DescForm → ClauseForm
with_description c d =
    record { descriptions = c.descriptions ++ (d ∷ []); predicate = c.predicate; statements = c.statements }

abbrev pub with_predicate : ClauseForm → Form → ClauseForm
with_predicate c f = record { descriptions = c.descriptions; predicate = Some f; statements = c.statements }

abbrev pub with_statement : ClauseForm → StatementForm → ClauseForm
with_statement c s =
    record { descriptions = c.descriptions; predicate = c.predicate; statements = c.statements ++ (s ∷ []) }

-- before the first token
abbrev pub program_start : ProgramState
program_start = program_at [] (headed []) outside

-- after a whole statement
abbrev pub ended : List ClauseForm → ClauseForm → StatementForm → ProgramState
ended cs c s = program_at cs (with_statement c s) (body after_statement)

-- what a slot is given begins
abbrev pub entered : List ClauseForm → ClauseForm → Slot → ProgramState
entered cs c slot = program_at cs c (within slot 0 (expression.start (divides_in slot)))

abbrev pub from_outside : List ClauseForm → Token → Option ProgramState
from_outside cs (token.Description (Ok d)) = Some (program_at cs (headed (form_of_description d ∷ [])) described)
from_outside cs _ = None

abbrev pub from_described : List ClauseForm → ClauseForm → Token → Option ProgramState
from_described cs c (token.Sign sign.Comma) = Some (program_at cs c listed)
from_described cs c (token.Sign sign.Slash) = Some (entered cs c predicate)
from_described cs c (token.Sign sign.OpenBrace) = Some (program_at cs c (body before_statement))
from_described cs c _ = None

abbrev pub from_listed : List ClauseForm → ClauseForm → Token → Option ProgramState
from_listed cs c (token.Description (Ok d)) = Some (program_at cs (with_description c (form_of_description d)) described)
from_listed cs c _ = None

abbrev pub from_guarded : List ClauseForm → ClauseForm → Token → Option ProgramState
from_guarded cs c (token.Sign sign.OpenBrace) = Some (program_at cs c (body before_statement))
from_guarded cs c _ = None

abbrev pub from_before_statement : List ClauseForm → ClauseForm → Token → Option ProgramState
from_before_statement cs c (token.Sign sign.Semicolon) = Some (program_at cs c (body before_statement))
from_before_statement cs c (token.Sign sign.CloseBrace) = Some (program_at (cs ++ (c ∷ [])) (headed []) outside)
from_before_statement cs c (token.Word (word.Action a)) = Some (program_at cs c (inside (called a)))
from_before_statement cs c (token.Word (word.Keyword keyword.ThreadLocal)) = Some (program_at cs c (inside self_read))
from_before_statement cs c (token.Aggregation name) = Some (program_at cs c (inside (named name)))
from_before_statement cs c _ = None

abbrev pub from_after_statement : List ClauseForm → ClauseForm → Token → Option ProgramState
from_after_statement cs c (token.Sign sign.Semicolon) = Some (program_at cs c (body before_statement))
from_after_statement cs c (token.Sign sign.CloseBrace) = Some (program_at (cs ++ (c ∷ [])) (headed []) outside)
from_after_statement cs c _ = None

-- what an action's `(` leads to
abbrev pub after_call : Action → List ClauseForm → ClauseForm → ProgramState
after_call action.Stack cs c = program_at cs c (inside (stack_opened false))
after_call action.Ustack cs c = program_at cs c (inside (stack_opened true))
after_call a cs c = entered cs c (given a)

abbrev pub from_called : List ClauseForm → ClauseForm → Action → Token → Option ProgramState
from_called cs c a (token.Sign sign.OpenParen) = Some (after_call a cs c)
from_called cs c a _ = None

abbrev pub stack_of : (process : Bool) → ℕ → StatementForm
stack_of true n = ustack n
stack_of false n = stack n

abbrev pub from_stack_opened : List ClauseForm → ClauseForm → (process : Bool) → Token → Option ProgramState
from_stack_opened cs c process (token.Number (pos n)) =
    if leb 1 n && leb n frames_max then Some (program_at cs c (inside (closing (stack_of process n)))) else None
from_stack_opened cs c process _ = None

abbrev pub from_closing : List ClauseForm → ClauseForm → StatementForm → Token → Option ProgramState
from_closing cs c s (token.Sign sign.CloseParen) = Some (ended cs c s)
from_closing cs c s _ = None

abbrev pub from_named : List ClauseForm → ClauseForm → List ℕ → Token → Option ProgramState
from_named cs c name (token.Sign sign.OpenBracket) = Some (entered cs c (key name []))
from_named cs c name (token.Sign sign.Equal) = Some (program_at cs c (inside (assigned name [])))
from_named cs c name _ = None

abbrev pub from_keyed : List ClauseForm → ClauseForm → List ℕ → List ArgForm → Token → Option ProgramState
from_keyed cs c name keys (token.Sign sign.Equal) = Some (program_at cs c (inside (assigned name keys)))
from_keyed cs c name keys _ = None

abbrev pub from_assigned : List ClauseForm → ClauseForm → List ℕ → List ArgForm → Token → Option ProgramState
from_assigned cs c name keys (token.Word (word.Function fn)) = Some (program_at cs c (inside (applied name keys fn)))
from_assigned cs c name keys _ = None

-- what a function's `(` leads to
abbrev pub function_given : List ClauseForm → ClauseForm → List ℕ → List ArgForm → Function → ProgramState
function_given cs c name keys function.Count = program_at cs c (inside (closing (aggregate name keys count)))
function_given cs c name keys fn = entered cs c (value name keys fn)

abbrev pub from_applied : List ClauseForm → ClauseForm → List ℕ → List ArgForm → Function → Token
    → Option ProgramState
from_applied cs c name keys fn (token.Sign sign.OpenParen) = Some (function_given cs c name keys fn)
from_applied cs c name keys fn _ = None

-- what ends a predicate
abbrev pub shut_predicate : List ClauseForm → ClauseForm → ArgForm → Token → Option ProgramState
shut_predicate cs c (number f) (token.Sign sign.Slash) = Some (program_at cs (with_predicate c f) guarded)
shut_predicate cs c _ _ = None

-- what ends what an action is given
abbrev pub shut_given : List ClauseForm → ClauseForm → Action → ArgForm → Token → Option ProgramState
shut_given cs c a x (token.Sign sign.CloseParen) = option_and_then (λ s. Some (ended cs c s)) (statement_of a x)
shut_given cs c a x _ = None

abbrev pub shut_key : List ClauseForm → ClauseForm → List ℕ → List ArgForm → ArgForm → Token → Option ProgramState
shut_key cs c name keys a (token.Sign sign.Comma) = Some (entered cs c (key name (keys ++ (a ∷ []))))
shut_key cs c name keys a (token.Sign sign.CloseBracket) = Some (program_at cs c (inside (keyed name (keys ++ (a ∷ [])))))
shut_key cs c name keys a _ = None

-- a function's value ends with `)`, and that of `lquantize` with the `,` in front of its bounds
abbrev pub shut_levels : List ClauseForm → ClauseForm → List ℕ → List ArgForm → Function → Form → Option ProgramState
shut_levels cs c name keys function.Lquantize f = Some (program_at cs c (inside (bounding name keys f at_lower)))
shut_levels cs c name keys fn f = None

abbrev pub shut_value : List ClauseForm → ClauseForm → List ℕ → List ArgForm → Function → ArgForm → Token
    → Option ProgramState
shut_value cs c name keys fn (number f) (token.Sign sign.CloseParen) =
    option_and_then (λ call. Some (ended cs c (aggregate name keys call))) (call_of fn f)
shut_value cs c name keys fn (number f) (token.Sign sign.Comma) = shut_levels cs c name keys fn f
shut_value cs c name keys fn _ _ = None

-- what ends a variable's value: it is a whole statement
abbrev pub shut_assignment : List ClauseForm → ClauseForm → List ℕ → ArgForm → Token → Option ProgramState
shut_assignment cs c name (number f) t = from_after_statement cs (with_statement c (assign name f)) t
shut_assignment cs c name _ t = None

-- what ends what is read for a slot
abbrev pub shut : List ClauseForm → ClauseForm → Slot → Token → ArgForm → Option ProgramState
shut cs c predicate t a = shut_predicate cs c a t
shut cs c (given action) t a = shut_given cs c action a t
shut cs c (key name keys) t a = shut_key cs c name keys a t
shut cs c (value name keys fn) t a = shut_value cs c name keys fn a t
shut cs c (assignment name) t a = shut_assignment cs c name a t

abbrev pub is_speculation : Token → Bool
is_speculation (token.Word (word.Keyword keyword.Speculation)) = true
is_speculation _ = false

-- whether a token is `speculation`, right after the `=` of a variable
abbrev pub draws : Slot → ℕ → Token → Bool
draws (assignment name) n t = (n == 0) && is_speculation t
draws _ n t = false

abbrev pub begin_draw : List ClauseForm → ClauseForm → Slot → ℕ → Token → Option ProgramState
begin_draw cs c (assignment name) n t =
    if (n == 0) && is_speculation t then Some (program_at cs c (inside (drawing name))) else None
begin_draw cs c _ n t = None

-- a token doesn't go on with what was read for a slot: it ends what is whole, or is `speculation`
abbrev pub end_within : List ClauseForm → ClauseForm → Slot → ℕ → Token → Option ArgForm → Option ProgramState
end_within cs c slot n t (Some a) = shut cs c slot t a
end_within cs c slot n t None = begin_draw cs c slot n t

-- a token goes on with what is read for a slot, or ends it
abbrev pub go_on : List ClauseForm → ClauseForm → Slot → ℕ → expression.State → Token → Option expression.State
    → Option ProgramState
go_on cs c slot n e t (Some next) = Some (program_at cs c (within slot (n + 1) next))
go_on cs c slot n e t None = end_within cs c slot n t (expression.done e)

abbrev pub from_within : List ClauseForm → ClauseForm → Slot → ℕ → expression.State → Token → Option ProgramState
from_within cs c slot n e t = go_on cs c slot n e t (expression.step e t)

abbrev pub from_bounding : List ClauseForm → ClauseForm → List ℕ → List ArgForm → Form → BoundForm → Token
    → Option ProgramState
from_bounding cs c name keys f b (token.Number (pos n)) = Some (program_at cs c (inside (bounded name keys f b (pos n))))
from_bounding cs c name keys f b (token.Sign sign.Minus) = Some (program_at cs c (inside (negating name keys f b)))
from_bounding cs c name keys f b _ = None

abbrev pub from_negating : List ClauseForm → ClauseForm → List ℕ → List ArgForm → Form → BoundForm → Token
    → Option ProgramState
from_negating cs c name keys f b (token.Number (pos n)) = Some (program_at cs c (inside (bounded name keys f b (neg_ℤ (pos n)))))
from_negating cs c name keys f b _ = None

abbrev pub from_bounded : List ClauseForm → ClauseForm → List ℕ → List ArgForm → Form → BoundForm → ℤ → Token
    → Option ProgramState
from_bounded cs c name keys f at_lower z (token.Sign sign.Comma) = Some (program_at cs c (inside (bounding name keys f (at_upper z))))
from_bounded cs c name keys f (at_upper lower) z (token.Sign sign.Comma) =
    Some (program_at cs c (inside (bounding name keys f (at_step lower z))))
from_bounded cs c name keys f (at_upper lower) z (token.Sign sign.CloseParen) =
    Some (ended cs c (aggregate name keys (lquantize f lower z (pos 1))))
from_bounded cs c name keys f (at_step lower upper) z (token.Sign sign.CloseParen) =
    Some (ended cs c (aggregate name keys (lquantize f lower upper z)))
from_bounded cs c name keys f _ z _ = None

abbrev pub from_self : List ClauseForm → ClauseForm → Token → Option ProgramState
from_self cs c (token.Sign sign.Arrow) = Some (program_at cs c (inside arrow_read))
from_self cs c _ = None

abbrev pub from_arrow : List ClauseForm → ClauseForm → Token → Option ProgramState
from_arrow cs c t = option_map (λ name. program_at cs c (inside (variable name))) (expression.name_of_token t)

abbrev pub from_variable : List ClauseForm → ClauseForm → List ℕ → Token → Option ProgramState
from_variable cs c name (token.Sign sign.Equal) = Some (entered cs c (assignment name))
from_variable cs c name _ = None

abbrev pub from_drawing : List ClauseForm → ClauseForm → List ℕ → Token → Option ProgramState
from_drawing cs c name (token.Sign sign.OpenParen) = Some (program_at cs c (inside (closing (draw name))))
from_drawing cs c name _ = None

-- what a token in a statement leads to
abbrev pub inside_step_from : List ClauseForm → ClauseForm → InsideForm → Token → Option ProgramState
inside_step_from cs c (called a) t = from_called cs c a t
inside_step_from cs c (stack_opened process) t = from_stack_opened cs c process t
inside_step_from cs c (closing s) t = from_closing cs c s t
inside_step_from cs c (named name) t = from_named cs c name t
inside_step_from cs c (keyed name keys) t = from_keyed cs c name keys t
inside_step_from cs c (assigned name keys) t = from_assigned cs c name keys t
inside_step_from cs c (applied name keys fn) t = from_applied cs c name keys fn t
inside_step_from cs c (bounding name keys f b) t = from_bounding cs c name keys f b t
inside_step_from cs c (negating name keys f b) t = from_negating cs c name keys f b t
inside_step_from cs c (bounded name keys f b z) t = from_bounded cs c name keys f b z t
inside_step_from cs c self_read t = from_self cs c t
inside_step_from cs c arrow_read t = from_arrow cs c t
inside_step_from cs c (variable name) t = from_variable cs c name t
inside_step_from cs c (drawing name) t = from_drawing cs c name t

abbrev pub program_step_from : List ClauseForm → ClauseForm → PlaceForm → Token → Option ProgramState
program_step_from cs c outside t = from_outside cs t
program_step_from cs c described t = from_described cs c t
program_step_from cs c listed t = from_listed cs c t
program_step_from cs c guarded t = from_guarded cs c t
program_step_from cs c (body before_statement) t = from_before_statement cs c t
program_step_from cs c (body after_statement) t = from_after_statement cs c t
program_step_from cs c (inside p) t = inside_step_from cs c p t
program_step_from cs c (within slot n e) t = from_within cs c slot n e t

-- what a token leads to, or none where no program goes on with it
unfoldable pub program_step : ProgramState → Token → Option ProgramState
program_step s t = program_step_from s.clauses s.clause s.place t

-- what some tokens lead to
unfoldable pub program_run : ProgramState → List Token → Option ProgramState
program_run s [] = Some s
program_run s (t ∷ ts) = option_and_then (λ next. program_run next ts) (program_step s t)

abbrev pub whole : List ClauseForm → Option (List ClauseForm)
whole [] = None
whole cs = Some cs

abbrev pub finished_at : List ClauseForm → PlaceForm → Option (List ClauseForm)
finished_at cs outside = whole cs
finished_at cs _ = None

-- the program that was read, where it is whole
unfoldable pub finished : ProgramState → Option (List ClauseForm)
finished s = finished_at s.clauses s.place
