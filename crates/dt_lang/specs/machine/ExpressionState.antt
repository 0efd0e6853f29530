-- Private to the proofs.
-- Expressions read token by token: what waits for its right side, and what is at hand. The laws in
-- `specs/laws/ExpressionLaws.antt` say that this reads exactly what `ReadsExpr` and `ReadsArgument` say.
use Rattle.std.specs.Prelude.{◌≡◌, ℕ, ◌+◌, leb, Bool, true, false, if◌then◌else◌, List, [], ◌∷◌, Option, Some, None, is_none, option_map, option_and_then}
use Rattle.std.specs.List.{list_any}
use Rattle.dt_expr.specs.Form.{Form, Num, Named, Local, Prefixed, Joined, Compared}
use Rattle.dt_expr.specs.declared.operators.BinaryOp.{BinaryOp}
use Rattle.dt_expr.specs.declared.operators.BinaryOp.TheVariants as binary
use Rattle.dt_expr.specs.declared.operators.UnaryOp.{UnaryOp}
use Rattle.dt_expr.specs.declared.operators.TextOp.{TextOp}
use Rattle.dt_expr.specs.declared.text.Text.{Text}
use Rattle.dt_expr.specs.declared.text.Text.TheVariants as operand
use Rattle.dt_lang.specs.declared.token.Sign.{Sign}
use Rattle.dt_lang.specs.declared.token.Sign.TheVariants as sign
use Rattle.dt_lang.specs.declared.token.Token.{Token}
use Rattle.dt_lang.specs.declared.token.Token.TheVariants as token
use Rattle.dt_lang.specs.declared.word.Keyword.TheVariants as keyword
use Rattle.dt_lang.specs.declared.word.Word.{Word}
use Rattle.dt_lang.specs.declared.word.Word.TheVariants as word
use Rattle.dt_lang.specs.Expression.{prefix_of, operator_of, binding, OPERAND, comparison_of, EQUALITY, text_token}
use Rattle.dt_lang.specs.Word.{word_bytes}
use Rattle.dt_program.specs.Clause.{ArgForm, number, text}

-- What waits for its right side: an open parenthesis (and whether `/` divides outside of it), an operator before its
-- operand, a left side with its operator.
pub data PendingForm : Type 0 where
  opened : (divides : Bool) → PendingForm
  before : UnaryOp → PendingForm
  after : (left : Form) → BinaryOp → PendingForm

-- What is at hand after what is pending: nothing yet, `self`, `self` and `->`, an expression that binds at least so tightly, a
-- text, or a text and its comparison.
pub data HandForm : Type 0 where
  nothing : HandForm
  self_read : HandForm
  arrow_read : HandForm
  whole : (level : ℕ) → Form → HandForm
  lone : Text → HandForm
  compares : TextOp → Text → HandForm

-- Whether `/` divides, what waits, the last first, and what is at hand.
pub record State : Type 0 where
  pub divides : Bool
  pub pending : List PendingForm
  pub hand : HandForm

-- how tightly what stands next must bind
abbrev pub level_next : List PendingForm → ℕ
level_next [] = 0
level_next (opened divides ∷ pending) = 0
level_next (before op ∷ pending) = OPERAND
level_next (after left op ∷ pending) = binding op + 1

-- whether it binds at least so tightly, and so is ended by an operator of that level
abbrev pub binds : ℕ → PendingForm → Bool
binds level (opened divides) = false
binds level (before op) = true
binds level (after left op) = leb level (binding op)

-- whether the last binds at least so tightly
abbrev pub is_bound : ℕ → List PendingForm → Bool
is_bound level [] = false
is_bound level (top ∷ pending) = binds level top

-- whether a parenthesis is open
abbrev pub is_opened : PendingForm → Bool
is_opened (opened divides) = true
is_opened _ = false

abbrev pub has_opened : List PendingForm → Bool
has_opened pending = list_any is_opened pending

-- it with its right side
abbrev pub around : PendingForm → Form → Form
around (opened divides) f = f
around (before op) f = Prefixed op f
around (after left op) f = Joined op left f

-- an expression, and what is pending
pub record Closed : Type 0 where
  pub pending : List PendingForm
  pub form : Form

-- the expression with all ended that bind at least so tightly
unfoldable pub close : ℕ → List PendingForm → Form → Closed
close level [] f = record { pending = []; form = f }
close level (top ∷ pending) f =
    if binds level top then close level pending (around top f) else record { pending = top ∷ pending; form = f }

abbrev pub state : Bool → List PendingForm → HandForm → State
state divides pending hand = record { divides = divides; pending = pending; hand = hand }

-- an operand stands next: a sign may open it
abbrev pub begin_sign : Bool → List PendingForm → Sign → Option State
begin_sign divides pending sign.OpenParen = Some (state true (opened divides ∷ pending) nothing)
begin_sign divides pending s = option_map (λ op. state divides (before op ∷ pending) nothing) (prefix_of s)

-- a text may stand where a comparison of texts may
abbrev pub begin_text : Bool → List PendingForm → Text → Option State
begin_text divides pending a = if leb (level_next pending) EQUALITY then Some (state divides pending (lone a)) else None

abbrev pub begin : Bool → List PendingForm → Token → Option State
begin divides pending (token.Number z) = Some (state divides pending (whole OPERAND (Num z)))
begin divides pending (token.Word (word.Number v)) = Some (state divides pending (whole OPERAND (Named v)))
begin divides pending (token.Word (word.Text v)) = begin_text divides pending (operand.Variable v)
begin divides pending (token.Word (word.Keyword keyword.ThreadLocal)) = Some (state divides pending self_read)
begin divides pending (token.String bytes) = begin_text divides pending (operand.Literal bytes)
begin divides pending (token.Sign s) = begin_sign divides pending s
begin divides pending _ = None

-- `self` is at hand
abbrev pub point : Bool → List PendingForm → Token → Option State
point divides pending (token.Sign sign.Arrow) = Some (state divides pending arrow_read)
point divides pending _ = None

-- the name of a variable that a token is after `->`: any identifier may be one
abbrev pub name_of_token : Token → Option (List ℕ)
name_of_token (token.Word w) = word_bytes w
name_of_token _ = None

-- `self` and `->` are at hand
abbrev pub name_variable : Bool → List PendingForm → Token → Option State
name_variable divides pending t =
    option_map (λ name. state divides pending (whole OPERAND (Local name))) (name_of_token t)

-- the operator between operands that a sign is here
abbrev pub operator_in : Bool → Sign → Option BinaryOp
operator_in divides sign.Slash = if divides then Some binary.Divide else None
operator_in divides s = operator_of s

-- an operator ends what binds at least so tightly, and waits for its right side
abbrev pub wait : Bool → Closed → BinaryOp → State
wait divides closed op = state divides (after closed.form op ∷ closed.pending) nothing

abbrev pub join : Bool → List PendingForm → (level : ℕ) → Form → BinaryOp → Option State
join divides pending level f op =
    if leb (binding op) level then Some (wait divides (close (binding op) pending f) op) else None

-- a closing parenthesis ends all up to the opened one
abbrev pub leave : List PendingForm → Form → Option State
leave (opened divides ∷ pending) f = Some (state divides pending (whole OPERAND f))
leave _ f = None

abbrev pub follow_sign : Bool → List PendingForm → ℕ → Form → Sign → Option State
follow_sign divides pending level f sign.CloseParen = let closed = close 0 pending f in leave closed.pending closed.form
follow_sign divides pending level f s = option_and_then (join divides pending level f) (operator_in divides s)

-- an expression is at hand
abbrev pub follow : Bool → List PendingForm → ℕ → Form → Token → Option State
follow divides pending level f (token.Sign s) = follow_sign divides pending level f s
follow divides pending level f _ = None

-- a text is at hand
abbrev pub compare : Bool → List PendingForm → Text → Token → Option State
compare divides pending a (token.Sign s) = option_map (λ op. state divides pending (compares op a)) (comparison_of s)
compare divides pending a _ = None

-- a text and its comparison are at hand
abbrev pub compare_with : Bool → List PendingForm → TextOp → Text → Token → Option State
compare_with divides pending op a t =
    option_map (λ b. state divides pending (whole EQUALITY (Compared op a b))) (text_token t)

abbrev pub step_from : Bool → List PendingForm → HandForm → Token → Option State
step_from divides pending nothing t = begin divides pending t
step_from divides pending self_read t = point divides pending t
step_from divides pending arrow_read t = name_variable divides pending t
step_from divides pending (whole level f) t = follow divides pending level f t
step_from divides pending (lone a) t = compare divides pending a t
step_from divides pending (compares op a) t = compare_with divides pending op a t

-- before the first token; where `divides` is false, `/` is no operator outside parentheses
abbrev pub start : Bool → State
start divides = state divides [] nothing

-- what a token leads to, or none where it doesn't go on with what was read
unfoldable pub step : State → Token → Option State
step s t = step_from s.divides s.pending s.hand t

-- A token is read, or refused where it leads nowhere.
abbrev pub Goes : (old : State) → Option State → (on : Bool) → (new : State) → Type 0
Goes old next true new = next ≡ Some new
Goes old next false new = (next ≡ None) × (new ≡ old)

-- what some tokens lead to
unfoldable pub run : State → List Token → Option State
run s [] = Some s
run s (t ∷ ts) = option_and_then (λ next. run next ts) (step s t)

abbrev pub number_alone : List PendingForm → Form → Option ArgForm
number_alone [] f = Some (number f)
number_alone _ f = None

abbrev pub text_alone : List PendingForm → Text → Option ArgForm
text_alone [] a = Some (text a)
text_alone _ a = None

abbrev pub done_from : List PendingForm → HandForm → Option ArgForm
done_from pending (whole level f) = let closed = close 0 pending f in number_alone closed.pending closed.form
done_from pending (lone a) = text_alone pending a
done_from pending _ = None

-- what was read, where it is whole: an expression, or one text alone
unfoldable pub done : State → Option ArgForm
done s = done_from s.pending s.hand

abbrev pub wants_at : HandForm → Bool
wants_at nothing = true
wants_at (compares op a) = true
wants_at _ = false

-- whether an operand stands next
abbrev pub wants : State → Bool
wants s = wants_at s.hand

abbrev pub takes_number_at : HandForm → Bool
takes_number_at nothing = true
takes_number_at _ = false

-- whether a number may stand next
abbrev pub takes_number : State → Bool
takes_number s = takes_number_at s.hand

abbrev pub takes_text_at : List PendingForm → HandForm → Bool
takes_text_at pending nothing = leb (level_next pending) EQUALITY
takes_text_at pending (compares op a) = true
takes_text_at pending _ = false

-- whether a text may stand next
abbrev pub takes_text : State → Bool
takes_text s = takes_text_at s.pending s.hand

-- an identifier that no operand begins with
abbrev pub begins_nothing : Word → Bool
begins_nothing (word.Number v) = false
begins_nothing (word.Text v) = false
begins_nothing (word.Keyword keyword.ThreadLocal) = false
begins_nothing _ = true

-- an identifier with more bytes than a name holds
abbrev pub is_long_word : Token → Bool
is_long_word (token.Word (word.Unknown None)) = true
is_long_word _ = false

-- a variable's name with too many bytes, after `self` and `->`
abbrev pub is_long_name_at : HandForm → Token → Bool
is_long_name_at arrow_read t = is_long_word t
is_long_name_at _ t = false

abbrev pub is_foreign_sign : Sign → Bool
is_foreign_sign sign.OpenBracket = true
is_foreign_sign sign.CloseBracket = true
is_foreign_sign sign.OpenBrace = true
is_foreign_sign sign.CloseBrace = true
is_foreign_sign sign.Comma = true
is_foreign_sign sign.Semicolon = true
is_foreign_sign sign.Equal = true
is_foreign_sign _ = false

-- what stands in no expression
abbrev pub is_foreign : Token → Bool
is_foreign (token.Description description) = true
is_foreign (token.Aggregation name) = true
is_foreign (token.Sign s) = is_foreign_sign s
is_foreign _ = false

-- what ends a whole expression: all but the operators between operands
abbrev pub ends_argument : (divides : Bool) → Token → Bool
ends_argument divides (token.Sign s) = is_none (operator_in divides s)
ends_argument divides _ = true

-- a number, a text or a word
abbrev pub is_operand : Token → Bool
is_operand (token.Number z) = true
is_operand (token.String bytes) = true
is_operand (token.Word w) = true
is_operand _ = false

-- The tokens lead somewhere, and this is what was read there.
pub record IsRead (divides : Bool) (ts : List Token) (a : ArgForm) : Type 0 where
  pub at : State
  pub runs : run (start divides) ts ≡ Some at
  pub is_done : done at ≡ Some a

-- The tokens are one, which is this text.
pub record IsOneText (ts : List Token) (a : Text) : Type 0 where
  pub t : Token
  pub is_text : text_token t ≡ Some a
  pub alone : ts ≡ t ∷ []

-- The first tokens lead somewhere, and the others on from there.
pub record RunsBy (s : State) (ts us : List Token) (next : State) : Type 0 where
  pub at : State
  pub first : run s ts ≡ Some at
  pub second : run at us ≡ Some next

-- The first tokens lead somewhere, the others on from there, and this is what was read in the end.
pub record IsReadBy (divides : Bool) (ts us : List Token) (a : ArgForm) : Type 0 where
  pub at : State
  pub end : State
  pub first : run (start divides) ts ≡ Some at
  pub second : run at us ≡ Some end
  pub is_done : done end ≡ Some a
