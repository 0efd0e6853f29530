-- An expression without where its parts lie in memory.
use Rattle.std.specs.Prelude.{ℕ, ℤ, List}
use Rattle.dt_expr.specs.declared.expr.Expr.{Expr}
use Rattle.dt_expr.specs.declared.expr.Expr.TheVariants.{Number, Variable, Local as LocalExpr, Unary', Binary', Compare}
use Rattle.dt_expr.specs.declared.operators.BinaryOp.{BinaryOp}
use Rattle.dt_expr.specs.declared.operators.TextOp.{TextOp}
use Rattle.dt_expr.specs.declared.operators.UnaryOp.{UnaryOp}
use Rattle.dt_expr.specs.declared.scene.NumberVariable.{NumberVariable}
use Rattle.dt_expr.specs.declared.text.Text.{Text}

-- a number, a number's variable, a thread-local variable, an operator with its operand or its two, a comparison of two texts
pub data Form : Type 0 where
  Num : (number : ℤ) → Form
  Named : (variable : NumberVariable) → Form
  Local : (name : List ℕ) → Form
  Prefixed : (op : UnaryOp) (operand : Form) → Form
  Joined : (op : BinaryOp) (left right : Form) → Form
  Compared : (op : TextOp) (left right : Text) → Form

-- the same tree
abbrev pub form_of : Expr → Form
form_of (Number number) = Num number
form_of (Variable variable) = Named variable
form_of (LocalExpr name) = Local name
form_of (Unary' op p operand) = Prefixed op (form_of operand)
form_of (Binary' op p left q right) = Joined op (form_of left) (form_of right)
form_of (Compare op left right) = Compared op left right
