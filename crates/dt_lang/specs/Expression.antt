-- Which tokens are an expression. Guide, Types, Operators and Expressions (precedence).
use Rattle.std.specs.Prelude.{◌≡◌, ℕ, ◌+◌, ◌<◌, Bool, true, List, [], ◌∷◌, ◌++◌, Option, Some, None, ℤ}
use Rattle.dt_expr.specs.Form.{Form, Num, Named, Local, Prefixed, Joined, Compared}
use Rattle.dt_expr.specs.declared.operators.BinaryOp.{BinaryOp}
use Rattle.dt_expr.specs.declared.operators.BinaryOp.TheVariants as binary
use Rattle.dt_expr.specs.declared.scene.NumberVariable.{NumberVariable}
use Rattle.dt_expr.specs.declared.operators.UnaryOp.{UnaryOp}
use Rattle.dt_expr.specs.declared.operators.UnaryOp.TheVariants as unary
use Rattle.dt_expr.specs.declared.operators.TextOp.{TextOp}
use Rattle.dt_expr.specs.declared.operators.TextOp.TheVariants as compare
use Rattle.dt_expr.specs.declared.text.Text.{Text}
use Rattle.dt_expr.specs.declared.text.Text.TheVariants as operand
use Rattle.dt_lang.specs.declared.token.Sign.{Sign}
use Rattle.dt_lang.specs.declared.token.Sign.TheVariants as sign
use Rattle.dt_lang.specs.declared.token.Token.{Token}
use Rattle.dt_lang.specs.declared.token.Token.TheVariants as token
use Rattle.dt_lang.specs.declared.word.Keyword.TheVariants as keyword
use Rattle.dt_lang.specs.declared.word.Word.{Word}
use Rattle.dt_lang.specs.declared.word.Word.TheVariants as word
use Rattle.dt_lang.specs.Word.{word_bytes}
use Rattle.dt_program.specs.Clause.{ArgForm, number, text}

-- the operator before an operand that a sign is
abbrev pub prefix_of : Sign → Option UnaryOp
prefix_of sign.Bang = Some unary.Not
prefix_of sign.Tilde = Some unary.Complement
prefix_of sign.Minus = Some unary.Negate
prefix_of sign.Plus = Some unary.Plus
prefix_of _ = None

-- the operator between operands that a sign is
abbrev pub operator_of : Sign → Option BinaryOp
operator_of sign.OrOr = Some binary.Or
operator_of sign.CaretCaret = Some binary.Xor
operator_of sign.AndAnd = Some binary.And
operator_of sign.Or = Some binary.BitOr
operator_of sign.Caret = Some binary.BitXor
operator_of sign.And = Some binary.BitAnd
operator_of sign.EqualEqual = Some binary.Equal
operator_of sign.BangEqual = Some binary.NotEqual
operator_of sign.Less = Some binary.Less
operator_of sign.LessEqual = Some binary.LessEqual
operator_of sign.Greater = Some binary.Greater
operator_of sign.GreaterEqual = Some binary.GreaterEqual
operator_of sign.LessLess = Some binary.ShiftLeft
operator_of sign.GreaterGreater = Some binary.ShiftRight
operator_of sign.Plus = Some binary.Add
operator_of sign.Minus = Some binary.Subtract
operator_of sign.Star = Some binary.Multiply
operator_of sign.Slash = Some binary.Divide
operator_of sign.Percent = Some binary.Remainder
operator_of _ = None

-- how tightly an operator binds, the loosest first
abbrev pub binding : BinaryOp → ℕ
binding binary.Or = 0
binding binary.Xor = 1
binding binary.And = 2
binding binary.BitOr = 3
binding binary.BitXor = 4
binding binary.BitAnd = 5
binding binary.Equal = 6
binding binary.NotEqual = 6
binding binary.Less = 7
binding binary.LessEqual = 7
binding binary.Greater = 7
binding binary.GreaterEqual = 7
binding binary.ShiftLeft = 8
binding binary.ShiftRight = 8
binding binary.Add = 9
binding binary.Subtract = 9
binding binary.Multiply = 10
binding binary.Divide = 10
binding binary.Remainder = 10

-- operands with their signs bind tighter than any operator between
abbrev pub OPERAND : ℕ
OPERAND = 11

-- the comparison of two texts that a sign is
abbrev pub comparison_of : Sign → Option TextOp
comparison_of sign.EqualEqual = Some compare.Equal
comparison_of sign.BangEqual = Some compare.NotEqual
comparison_of _ = None

-- how tightly a comparison of texts binds: as one of numbers that are equal or not
abbrev pub EQUALITY : ℕ
EQUALITY = 6

-- the text that a token is
abbrev pub text_token : Token → Option Text
text_token (token.String bytes) = Some (operand.Literal bytes)
text_token (token.Word (word.Text variable)) = Some (operand.Variable variable)
text_token _ = None

-- The tokens are `self`, `->` and an identifier: the thread-local variable of this name.
pub data ReadsLocal : List Token → List ℕ → Type 0 where
  a_local : (w : Word) (name : List ℕ) → word_bytes w ≡ Some name
      → ReadsLocal (token.Word (word.Keyword keyword.ThreadLocal) ∷ token.Sign sign.Arrow ∷ token.Word w ∷ []) name

-- A sign is this operator; where `/` ends a predicate, it isn't one.
pub record IsOperator (divides : Bool) (s : Sign) (op : BinaryOp) : Type 0 where
  pub names : operator_of s ≡ Some op
  pub allowed : s ≡ sign.Slash → divides ≡ true

-- The tokens are an expression that binds at least so tightly, with this form. `divides` is false in a predicate
-- outside parentheses, where `/` is no operator. All operators between operands group to the left.
pub data ReadsExpr : Bool → ℕ → List Token → Form → Type 0 where
  a_number : (divides : Bool) (z : ℤ) → ReadsExpr divides OPERAND (token.Number z ∷ []) (Num z)
  a_variable : (divides : Bool) (v : NumberVariable)
      → ReadsExpr divides OPERAND (token.Word (word.Number v) ∷ []) (Named v)
  thread_local : (divides : Bool) (ts : List Token) (name : List ℕ) → ReadsLocal ts name
      → ReadsExpr divides OPERAND ts (Local name)
  prefixed : (divides : Bool) (s : Sign) (op : UnaryOp) (ts : List Token) (f : Form)
      → prefix_of s ≡ Some op → ReadsExpr divides OPERAND ts f
      → ReadsExpr divides OPERAND (token.Sign s ∷ ts) (Prefixed op f)
  grouped : (divides : Bool) (ts : List Token) (f : Form) → ReadsExpr true 0 ts f
      → ReadsExpr divides OPERAND (token.Sign sign.OpenParen ∷ (ts ++ (token.Sign sign.CloseParen ∷ []))) f
  compared : (divides : Bool) (s : Sign) (op : TextOp) (left right : Token) (a b : Text)
      → comparison_of s ≡ Some op → text_token left ≡ Some a → text_token right ≡ Some b
      → ReadsExpr divides EQUALITY (left ∷ token.Sign s ∷ right ∷ []) (Compared op a b)
  looser : (divides : Bool) (level : ℕ) (ts : List Token) (f : Form) → level < OPERAND
      → ReadsExpr divides (level + 1) ts f → ReadsExpr divides level ts f
  joined : (divides : Bool) (s : Sign) (op : BinaryOp) (ts us : List Token) (f g : Form)
      → IsOperator divides s op → ReadsExpr divides (binding op) ts f → ReadsExpr divides (binding op + 1) us g
      → ReadsExpr divides (binding op) (ts ++ (token.Sign s ∷ us)) (Joined op f g)

-- The tokens are what `trace` and a key take: an expression, or one text.
pub data ReadsArgument : List Token → ArgForm → Type 0 where
  a_text : (t : Token) (a : Text) → text_token t ≡ Some a → ReadsArgument (t ∷ []) (text a)
  an_expression : (ts : List Token) (f : Form) → ReadsExpr true 0 ts f → ReadsArgument ts (number f)

-- An expression begins with these tokens.
pub record BeginsExpr (divides : Bool) (ts : List Token) : Type 0 where
  pub more : List Token
  pub form : Form
  pub reads : ReadsExpr divides 0 (ts ++ more) form
