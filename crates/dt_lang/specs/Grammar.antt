-- Which tokens are a program, without regard to the limits on how many there may be of a thing.
-- Guide, Program Structure; Actions and Subroutines; Aggregations.
use Rattle.std.specs.Prelude.{◌≡◌, ◌≢◌, ℕ, ◌≤◌, true, false, List, [], ◌∷◌, ◌++◌, Option, Some, None, ℤ, pos, neg_ℤ, Ok}
use Rattle.dt_expr.specs.Form.{Form}
use Rattle.dt_program.specs.declared.description.Description.{Description}
use Rattle.dt_program.specs.Description.{DescForm, form_of_description}
use Rattle.dt_program.specs.Limits.{frames_max}
use Rattle.dt_lang.specs.declared.token.Sign.TheVariants as sign
use Rattle.dt_lang.specs.declared.token.Token.{Token}
use Rattle.dt_lang.specs.declared.token.Token.TheVariants as token
use Rattle.dt_lang.specs.declared.word.Action.{Action}
use Rattle.dt_lang.specs.declared.word.Action.TheVariants as action
use Rattle.dt_lang.specs.declared.word.Function.{Function}
use Rattle.dt_lang.specs.declared.word.Function.TheVariants as function
use Rattle.dt_lang.specs.declared.word.Keyword.TheVariants as keyword
use Rattle.dt_lang.specs.declared.word.Word.TheVariants as word
use Rattle.dt_program.specs.Clause.{ArgForm, number, CallForm, count, sum, avg, min, max, quantize, lquantize, StatementForm, trace, stack, ustack, exit, aggregate, assign, draw, speculate, commit, discard, ClauseForm}
use Rattle.dt_lang.specs.Expression.{ReadsExpr, ReadsArgument, ReadsLocal}

-- The tokens are a head: descriptions with `,` between them.
pub data ReadsHead : List Token → List DescForm → Type 0 where
  a_description : (d : Description)
      → ReadsHead (token.Description (Ok d) ∷ []) (form_of_description d ∷ [])
  another : (ts : List Token) (ds : List DescForm) (d : Description) → ReadsHead ts ds
      → ReadsHead (ts ++ (token.Sign sign.Comma ∷ token.Description (Ok d) ∷ [])) (ds ++ (form_of_description d ∷ []))

-- The tokens are a head, a predicate where there is one, and `{`.
pub data ReadsOpening : List Token → List DescForm → Option Form → Type 0 where
  always : (ts : List Token) (ds : List DescForm) → ReadsHead ts ds
      → ReadsOpening (ts ++ (token.Sign sign.OpenBrace ∷ [])) ds None
  guarded : (ts us : List Token) (ds : List DescForm) (f : Form) → ReadsHead ts ds → ReadsExpr false 0 us f
      → ReadsOpening
      (ts ++ (token.Sign sign.Slash ∷ (us ++ (token.Sign sign.Slash ∷ token.Sign sign.OpenBrace ∷ [])))) ds (Some f)

-- The tokens are the keys of an aggregation, with `,` between them.
pub data ReadsKeys : List Token → List ArgForm → Type 0 where
  a_key : (ts : List Token) (a : ArgForm) → ReadsArgument ts a → ReadsKeys ts (a ∷ [])
  another : (ts us : List Token) (keys : List ArgForm) (a : ArgForm) → ReadsKeys ts keys → ReadsArgument us a
      → ReadsKeys (ts ++ (token.Sign sign.Comma ∷ us)) (keys ++ (a ∷ []))

-- The tokens are an aggregation's name, with its keys in brackets where it has some.
pub data ReadsTarget : List Token → List ℕ → List ArgForm → Type 0 where
  bare : (name : List ℕ) → ReadsTarget (token.Aggregation name ∷ []) name []
  keyed : (name : List ℕ) (ts : List Token) (keys : List ArgForm) → ReadsKeys ts keys
      → ReadsTarget
      (token.Aggregation name ∷ token.Sign sign.OpenBracket ∷ (ts ++ (token.Sign sign.CloseBracket ∷ []))) name keys

-- The tokens are a constant: a number that isn't negative, or `-` and such a number.
pub data ReadsConstant : List Token → ℤ → Type 0 where
  plain : (n : ℕ) → ReadsConstant (token.Number (pos n) ∷ []) (pos n)
  negative : (n : ℕ) → ReadsConstant (token.Sign sign.Minus ∷ token.Number (pos n) ∷ []) (neg_ℤ (pos n))

-- The tokens are the bounds of an `lquantize`, with `,` in front of each; a step that isn't said is 1.
pub data ReadsBounds : List Token → (lower upper step : ℤ) → Type 0 where
  by_one : (ts us : List Token) (lower upper : ℤ) → ReadsConstant ts lower → ReadsConstant us upper
      → ReadsBounds (token.Sign sign.Comma ∷ (ts ++ (token.Sign sign.Comma ∷ us))) lower upper (pos 1)
  stepped : (ts us vs : List Token) (lower upper step : ℤ) → ReadsConstant ts lower → ReadsConstant us upper
      → ReadsConstant vs step
      → ReadsBounds
      (token.Sign sign.Comma ∷ (ts ++ (token.Sign sign.Comma ∷ (us ++ (token.Sign sign.Comma ∷ vs))))) lower upper step

-- what a function of one value is given, where it is one
abbrev pub call_of : Function → Form → Option CallForm
call_of function.Sum f = Some (sum f)
call_of function.Avg f = Some (avg f)
call_of function.Min f = Some (min f)
call_of function.Max f = Some (max f)
call_of function.Quantize f = Some (quantize f)
call_of _ f = None

-- The tokens are an aggregating function with what it is given.
pub data ReadsCall : List Token → CallForm → Type 0 where
  counting : ReadsCall
      (token.Word (word.Function function.Count) ∷ token.Sign sign.OpenParen ∷ token.Sign sign.CloseParen ∷ []) count
  of_one : (fn : Function) (ts : List Token) (f : Form) (call : CallForm) → call_of fn f ≡ Some call
      → ReadsExpr true 0 ts f
      → ReadsCall
      (token.Word (word.Function fn) ∷ token.Sign sign.OpenParen ∷ (ts ++ (token.Sign sign.CloseParen ∷ []))) call
  in_levels : (ts us : List Token) (f : Form) (lower upper step : ℤ) → ReadsExpr true 0 ts f
      → ReadsBounds us lower upper step
      → ReadsCall
      (token.Word (word.Function function.Lquantize) ∷ token.Sign sign.OpenParen
      ∷ (ts ++ (us ++ (token.Sign sign.CloseParen ∷ [])))) (lquantize f lower upper step)

-- what an action does with a number or a text, where it is given one
abbrev pub statement_of : Action → ArgForm → Option StatementForm
statement_of action.Trace a = Some (trace a)
statement_of action.Exit (number f) = Some (exit f)
statement_of action.Speculate (number f) = Some (speculate f)
statement_of action.Commit (number f) = Some (commit f)
statement_of action.Discard (number f) = Some (discard f)
statement_of _ a = None

-- the action is given a number, whichever it is
abbrev pub TakesNumber : Action → Type 0
TakesNumber a = (f : Form) → (s : StatementForm) × (statement_of a (number f) ≡ Some s)

-- some frames of a stack: 1 to 8
pub record IsFrameCount (n : ℕ) : Type 0 where
  pub some : 1 ≤ n
  pub few : n ≤ frames_max

-- The tokens are a statement.
pub data ReadsStatement : List Token → StatementForm → Type 0 where
  of_argument : (a : Action) (ts : List Token) (x : ArgForm) (s : StatementForm) → statement_of a x ≡ Some s
      → ReadsArgument ts x
      → ReadsStatement
      (token.Word (word.Action a) ∷ token.Sign sign.OpenParen ∷ (ts ++ (token.Sign sign.CloseParen ∷ []))) s
  of_stack : (n : ℕ) → IsFrameCount n
      → ReadsStatement
      (token.Word (word.Action action.Stack) ∷ token.Sign sign.OpenParen ∷ token.Number (pos n)
      ∷ token.Sign sign.CloseParen ∷ []) (stack n)
  of_ustack : (n : ℕ) → IsFrameCount n
      → ReadsStatement
      (token.Word (word.Action action.Ustack) ∷ token.Sign sign.OpenParen ∷ token.Number (pos n)
      ∷ token.Sign sign.CloseParen ∷ []) (ustack n)
  aggregating : (ts us : List Token) (name : List ℕ) (keys : List ArgForm) (call : CallForm)
      → ReadsTarget ts name keys → ReadsCall us call
      → ReadsStatement (ts ++ (token.Sign sign.Equal ∷ us)) (aggregate name keys call)
  assigning : (ts us : List Token) (name : List ℕ) (f : Form) → ReadsLocal ts name → ReadsExpr true 0 us f
      → ReadsStatement (ts ++ (token.Sign sign.Equal ∷ us)) (assign name f)
  drawing : (ts : List Token) (name : List ℕ) → ReadsLocal ts name
      → ReadsStatement
      (ts ++ (token.Sign sign.Equal ∷ token.Word (word.Keyword keyword.Speculation) ∷ token.Sign sign.OpenParen
      ∷ token.Sign sign.CloseParen ∷ [])) (draw name)

-- where in a body the tokens end: where a statement may begin, or right after one
pub data Spot : Type 0 where
  before_statement : Spot
  after_statement : Spot

-- The tokens are what stands after `{`, up to such a spot, with these statements. A statement begins after `{` or `;`,
-- and none need stand there.
pub data ReadsBody : Spot → List Token → List StatementForm → Type 0 where
  nothing : ReadsBody before_statement [] []
  stated : (ts us : List Token) (ss : List StatementForm) (s : StatementForm) → ReadsBody before_statement ts ss
      → ReadsStatement us s → ReadsBody after_statement (ts ++ us) (ss ++ (s ∷ []))
  separated : (spot : Spot) (ts : List Token) (ss : List StatementForm) → ReadsBody spot ts ss
      → ReadsBody before_statement (ts ++ (token.Sign sign.Semicolon ∷ [])) ss

-- The tokens are a clause.
pub data ReadsClause : List Token → ClauseForm → Type 0 where
  a_clause : (spot : Spot) (ts us : List Token) (ds : List DescForm) (p : Option Form) (ss : List StatementForm)
      → ReadsOpening ts ds p → ReadsBody spot us ss
      → ReadsClause (ts ++ (us ++ (token.Sign sign.CloseBrace ∷ [])))
      (record { descriptions = ds; predicate = p; statements = ss })

-- The tokens are whole clauses, one after the other.
pub data ReadsClauses : List Token → List ClauseForm → Type 0 where
  nothing : ReadsClauses [] []
  another : (ts us : List Token) (cs : List ClauseForm) (c : ClauseForm) → ReadsClauses ts cs → ReadsClause us c
      → ReadsClauses (ts ++ us) (cs ++ (c ∷ []))

-- The tokens are a program: one clause or more.
pub record ReadsProgram (ts : List Token) (cs : List ClauseForm) : Type 0 where
  pub reads : ReadsClauses ts cs
  pub some : cs ≢ []

-- Some program begins with these tokens.
pub record Begins (ts : List Token) : Type 0 where
  pub more : List Token
  pub clauses : List ClauseForm
  pub reads : ReadsProgram (ts ++ more) clauses
