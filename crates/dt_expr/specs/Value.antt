-- The value of an expression in a scene.
use Rattle.std.specs.Prelude.{ℕ, ℤ, List, Option, Some}
use Rattle.std.specs.Option.{option_map, option_and_then, option_or}
use Rattle.dt_locals.specs.Chosen.{value_after}
use Rattle.dt_locals.specs.History.{LocalsPast, local_of}
use Rattle.dt_expr.specs.Form.{Form, Num, Named, Local, Prefixed, Joined, Compared}
use Rattle.dt_expr.specs.Operators.{unary, binary, decided, compared}
use Rattle.dt_expr.specs.Scene.{SceneForm, number_named, text_bytes}
use Rattle.dt_expr.specs.declared.operators.BinaryOp.{BinaryOp}

-- An operator between two operands, either of which may have no number. Where the left one has none, there is none.
-- What the left one decides by itself stands, whatever is on the right; else the operator needs both.
abbrev pub joined : BinaryOp → Option ℤ → Option ℤ → Option ℤ
joined op left right =
    option_and_then (λ x. option_or (decided op x) (option_and_then (λ y. binary op x y) right)) left

-- the value of the variable of a name of the thread in which the probe fired
abbrev pub local_named : SceneForm → LocalsPast → List ℕ → ℤ
local_named scene locals name = value_after locals (local_of scene.firing.pid scene.firing.tid name)

-- The value of an expression, after what was assigned to variables; or none where a division or a remainder by zero is evaluated.
abbrev pub value : SceneForm → LocalsPast → Form → Option ℤ
value scene locals (Num number) = Some number
value scene locals (Named variable) = Some (number_named scene variable)
value scene locals (Local name) = Some (local_named scene locals name)
value scene locals (Prefixed op operand) = option_map (unary op) (value scene locals operand)
value scene locals (Joined op left right) = joined op (value scene locals left) (value scene locals right)
value scene locals (Compared op left right) = Some (compared op (text_bytes scene left) (text_bytes scene right))
