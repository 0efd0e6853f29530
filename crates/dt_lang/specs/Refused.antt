-- For what cause a token is refused after the tokens before it.
use Rattle.std.specs.Prelude.{◌≡◌, ℕ, ◌<◌, ◌≤◌, Bool, true, List, [], ◌∷◌, ◌++◌, length, Some, None, Result, Err, ℤ}
use Rattle.std.specs.List.{list_any}
use Rattle.dt_expr.specs.Form.{Form}
use Rattle.dt_program.specs.Description.{DescForm}
use Rattle.dt_program.specs.declared.description.Description.{Description}
use Rattle.dt_program.specs.declared.description.DescriptionFault.{DescriptionFault}
use Rattle.dt_program.specs.declared.clause.BoundsFault.{BoundsFault}
use Rattle.dt_program.specs.Bounds.{bounds_fault}
use Rattle.dt_program.specs.Kinds.{statement_kind, excludes}
use Rattle.dt_lang.specs.declared.fault.Flaw.{Flaw}
use Rattle.dt_lang.specs.declared.fault.Flaw.TheVariants.{Syntax, Probe, Action, Variable, TooLong, Range, Spec}
use Rattle.dt_lang.specs.declared.fault.Limit.{Limit}
use Rattle.dt_lang.specs.declared.fault.Limit.TheVariants as limit
use Rattle.dt_program.specs.Limits.{descriptions_max, statements_max, keys_max}
use Rattle.dt_program.specs.Limits.{clauses_max, tokens_max}
use Rattle.dt_lang.specs.declared.token.Sign.TheVariants as sign
use Rattle.dt_lang.specs.declared.token.Token.{Token}
use Rattle.dt_lang.specs.declared.token.Token.TheVariants as token
use Rattle.dt_lang.specs.declared.word.Destructive.{Destructive}
use Rattle.dt_lang.specs.declared.word.Function.TheVariants as function
use Rattle.dt_lang.specs.declared.word.Keyword.TheVariants as keyword
use Rattle.dt_lang.specs.declared.word.Word.{Word}
use Rattle.dt_lang.specs.declared.word.Word.TheVariants as word
use Rattle.dt_lang.specs.Expression.{ReadsExpr, BeginsExpr}
use Rattle.dt_lang.specs.Grammar.{ReadsBounds, ReadsStatement, before_statement, ReadsClauses, Begins}
use Rattle.dt_program.specs.Clause.{ArgForm, StatementForm, ClauseForm}
use Rattle.dt_lang.specs.Stand.{HeadStands, BodyStands, KeysStand, Slot, value, divides_in, SlotOpens}

-- why a token is refused: for what is wrong with it, or as the name of a destructive action
pub data Cause : Type 0 where
  because : Flaw → Cause
  destroys : Destructive → Cause

-- the order in which causes go, where several hold of one token
abbrev pub rank : Cause → ℕ
rank (because (TooLong limit)) = 0
rank (destroys what) = 1
rank (because (Probe fault)) = 2
rank (because Action) = 3
rank (because Variable) = 4
rank (because (Range fault)) = 5
rank (because Spec) = 6
rank (because Syntax) = 7

-- A number or a text stands next in the expression that these tokens begin: a `!` may stand only before a number, and a
-- string only as a text.
pub data OperandStands (divides : Bool) (ts : List Token) : Type 0 where
  a_number : BeginsExpr divides (ts ++ (token.Sign sign.Bang ∷ [])) → OperandStands divides ts
  a_text : BeginsExpr divides (ts ++ (token.String [] ∷ [])) → OperandStands divides ts

-- an identifier, a number or a string
abbrev pub IsOperand : Token → Type 0
IsOperand (token.Word w) = Unit {0}
IsOperand (token.Number z) = Unit {0}
IsOperand (token.String bytes) = Unit {0}
IsOperand _ = ⊥

-- The token is one more of the expression that these tokens begin: it goes on with it, or is taken for its operand.
pub data GoesOn (divides : Bool) (ts : List Token) (t : Token) : Type 0 where
  fits : BeginsExpr divides (ts ++ (t ∷ [])) → GoesOn divides ts t
  taken : IsOperand t → OperandStands divides ts → GoesOn divides ts t

-- an identifier, or an aggregation's name
abbrev pub IsForStatement : Token → Type 0
IsForStatement (token.Word w) = Unit {0}
IsForStatement (token.Aggregation name) = Unit {0}
IsForStatement _ = ⊥

-- The token is the first of one thing more than there may be: of a clause, a description, a statement or a key, or it is
-- one more of the tokens of a predicate, an argument, a key or a value; or it is a thread-local variable's name with too many
-- bytes, after the `->`.
pub data IsTooLong : List Token → Token → Limit → Type 0 where
  a_clause : (ts : List Token) (cs : List ClauseForm) (d : Result Description DescriptionFault) → ReadsClauses ts cs
      → clauses_max ≤ length cs → IsTooLong ts (token.Description d) limit.Clauses
  a_description : (ts : List Token) (cs : List ClauseForm) (ds : List DescForm)
      (d : Result Description DescriptionFault) → HeadStands ts cs ds → descriptions_max ≤ length ds
      → IsTooLong (ts ++ (token.Sign sign.Comma ∷ [])) (token.Description d) limit.Descriptions
  a_statement : (ts : List Token) (cs : List ClauseForm) (c : ClauseForm) (t : Token) → BodyStands before_statement ts cs c
      → statements_max ≤ length c.statements → IsForStatement t → IsTooLong ts t limit.Statements
  a_key : (ts : List Token) (cs : List ClauseForm) (c : ClauseForm) (name : List ℕ) (keys : List ArgForm) (t : Token)
      → KeysStand ts cs c name keys → keys_max ≤ length keys → GoesOn true [] t
      → IsTooLong (ts ++ (token.Sign sign.Comma ∷ [])) t limit.Keys
  a_token : (slot : Slot) (ts us : List Token) (cs : List ClauseForm) (c : ClauseForm) (t : Token)
      → SlotOpens slot ts cs c → tokens_max ≤ length us → GoesOn (divides_in slot) us t
      → IsTooLong (ts ++ us) t limit.Tokens
  a_local_name : (ts : List Token) → Begins (ts ++ (token.Sign sign.Arrow ∷ []))
      → IsTooLong (ts ++ (token.Sign sign.Arrow ∷ [])) (token.Word (word.Unknown None)) limit.LocalBytes

-- A statement may begin after these tokens: an aggregation's name stands only there.
abbrev pub StatementBegins : List Token → Type 0
StatementBegins ts = Begins (ts ++ (token.Aggregation [] ∷ []))

-- The token is this destructive action's name where a statement begins.
pub record IsDestructive (ts : List Token) (t : Token) (what : Destructive) : Type 0 where
  pub names : t ≡ token.Word (word.Destructive what)
  pub stands : StatementBegins ts

-- An action's name stands after these tokens, or an aggregating function's, which a `(` follows. (No `(` follows a variable of
-- that name.)
pub data NameStands (ts : List Token) : Type 0 where
  a_statement : StatementBegins ts → NameStands ts
  a_function : Begins (ts ++ (token.Word (word.Function function.Count) ∷ token.Sign sign.OpenParen ∷ []))
      → NameStands ts

-- The token is an identifier where an action's name or an aggregating function's stands, and is none that may stand there.
pub record IsNoAction (ts : List Token) (t : Token) : Type 0 where
  pub word : Word
  pub is_word : t ≡ token.Word word
  pub stands : NameStands ts
  pub unfit : Begins (ts ++ (t ∷ [])) → ⊥

-- A variable or another operand stands after these tokens: a `!` stands only before a number, and a string only as a text.
pub data VariableStands (ts : List Token) : Type 0 where
  a_number : Begins (ts ++ (token.Sign sign.Bang ∷ [])) → VariableStands ts
  a_text : Begins (ts ++ (token.String [] ∷ [])) → VariableStands ts

-- an identifier that names no variable; `self` begins the name of one
abbrev pub NamesNoVariable : Token → Type 0
NamesNoVariable (token.Word (word.Number v)) = ⊥
NamesNoVariable (token.Word (word.Text v)) = ⊥
NamesNoVariable (token.Word (word.Keyword keyword.ThreadLocal)) = ⊥
NamesNoVariable (token.Word w) = Unit {0}
NamesNoVariable _ = ⊥

-- The token is an identifier that names no variable where an operand stands, and may not stand there, as `speculation` may
-- after the `=` of an assignment.
pub record IsNoVariable (ts : List Token) (t : Token) : Type 0 where
  pub unknown : NamesNoVariable t
  pub stands : VariableStands ts
  pub unfit : Begins (ts ++ (t ∷ [])) → ⊥

-- The token is the `)` that ends an `lquantize` whose bounds make no levels, or too many, with the first rule they break.
pub record IsOutOfRange (ts : List Token) (t : Token) (fault : BoundsFault) : Type 0 where
  pub front : List Token
  pub expression : List Token
  pub bounds : List Token
  pub split : ts ≡ front ++ (expression ++ bounds)
  pub ends : t ≡ token.Sign sign.CloseParen
  pub clauses : List ClauseForm
  pub clause : ClauseForm
  pub name : List ℕ
  pub keys : List ArgForm
  pub opens : SlotOpens (value name keys function.Lquantize) front clauses clause
  pub form : Form
  pub reads : ReadsExpr true 0 expression form
  pub lower : ℤ
  pub upper : ℤ
  pub step : ℤ
  pub reads_bounds : ReadsBounds bounds lower upper step
  pub wrong : bounds_fault lower upper step ≡ Some fault

-- The token begins a statement that an earlier one of its clause excludes.
pub record IsExcluded (ts : List Token) (t : Token) : Type 0 where
  pub clauses : List ClauseForm
  pub clause : ClauseForm
  pub stands : BodyStands before_statement ts clauses clause
  pub more : List Token
  pub later : StatementForm
  pub reads : ReadsStatement (t ∷ more) later
  pub excluded : list_any (λ earlier. excludes (statement_kind earlier) (statement_kind later)) clause.statements ≡ true

-- This cause holds of the token after those before it.
abbrev pub CauseHolds : List Token → Token → Cause → Type 0
CauseHolds ts t (because (TooLong limit)) = IsTooLong ts t limit
CauseHolds ts t (destroys what) = IsDestructive ts t what
CauseHolds ts t (because (Probe fault)) = t ≡ token.Description (Err fault)
CauseHolds ts t (because Action) = IsNoAction ts t
CauseHolds ts t (because Variable) = IsNoVariable ts t
CauseHolds ts t (because (Range fault)) = IsOutOfRange ts t fault
CauseHolds ts t (because Spec) = IsExcluded ts t
CauseHolds ts t (because Syntax) = Begins (ts ++ (t ∷ [])) → ⊥

-- The token is refused for this cause: it is the first that holds.
pub record Refused (ts : List Token) (t : Token) (cause : Cause) : Type 0 where
  pub holds : CauseHolds ts t cause
  pub first : (other : Cause) → rank other < rank cause → CauseHolds ts t other → ⊥

-- None of the tokens is refused after those before it.
abbrev pub NoneRefused : List Token → Type 0
NoneRefused ts = (before after : List Token) (t : Token) (cause : Cause) → ts ≡ before ++ (t ∷ after)
    → CauseHolds before t cause → ⊥
