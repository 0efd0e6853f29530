-- The value of an expression has 64 bits with a sign, where the scene's numbers and those that it writes have.
use Rattle.std.proofs.Common.{◌≡◌, ℕ, zero, suc, ◌%◌, ◌/◌, ◌^◌, ◌<◌, ◌≤◌, Bool, true, false, List}
use Rattle.std.proofs.Common.{refl, subst, arith, lit<, Some, None, Option, ℤ, pos, negsuc, ◌+ℤ◌, ◌-ℤ◌, ◌*ℤ◌, neg_ℤ, FitsSigned}
use Rattle.std.proofs.Math.Facts.{Fits-of_z, sfits_to_z, Fits-and, Fits-or, Fits-xor}
use Rattle.std.proofs.Math.Nat.{div-le_self, mod-le}
use Rattle.std.proofs.lemmas.Int.{SFits-int_wrap}
use Rattle.std.specs.Prelude.{if◌then◌else◌, int_div, int_rem, unsigned_abs, not}
use Rattle.std.specs.Int.{w64, cast_unsigned, int_div_euclid}
use Rattle.std.specs.Option.{option_map, option_and_then, option_or}
use Rattle.std.specs.Ordering.{int_eq}
use Rattle.dt_expr.specs.Form.{Form, Num, Named, Local, Prefixed, Joined, Compared}
use Rattle.dt_expr.specs.Operators.{truth, holds, unary, binary, decided, compared, shift_count}
use Rattle.dt_expr.specs.Scene.{SceneForm, number_named, text_bytes}
use Rattle.dt_expr.specs.Value.{value, joined, local_named}
use Rattle.dt_expr.specs.declared.operators.BinaryOp.{BinaryOp}
use Rattle.dt_expr.specs.declared.operators.BinaryOp.TheVariants.{Or, Xor, And, BitOr, BitXor, BitAnd, Equal}
use Rattle.dt_expr.specs.declared.operators.BinaryOp.TheVariants.{NotEqual, Less, LessEqual, Greater, GreaterEqual}
use Rattle.dt_expr.specs.declared.operators.BinaryOp.TheVariants.{ShiftLeft, ShiftRight, Add, Subtract, Multiply}
use Rattle.dt_expr.specs.declared.operators.BinaryOp.TheVariants.{Divide, Remainder}
use Rattle.dt_expr.specs.declared.operators.TextOp.{TextOp}
use Rattle.dt_expr.specs.declared.operators.TextOp.TheVariants.{Equal as SameText, NotEqual as OtherText}
use Rattle.dt_expr.specs.declared.operators.UnaryOp.{UnaryOp}
use Rattle.dt_expr.specs.declared.operators.UnaryOp.TheVariants.{Not, Complement, Negate, Plus}
use Rattle.dt_locals.specs.History.{LocalsPast, local_of}
use Rattle.dt_record.specs.Showing.{IsSceneInBounds, IsExpressionInBounds, AreLocalsInBounds}

abbrev Has64Bits : ℤ → Type 0
Has64Bits z = FitsSigned w64 z

truth_fits : (b : Bool) → Has64Bits (truth b)
truth_fits true = record { sfits = lit< tt }
truth_fits false = record { sfits = lit< tt }

unary_fits : (op : UnaryOp) (z : ℤ) → Has64Bits z → Has64Bits (unary op z)
unary_fits Not z f = truth_fits (not (holds z))
unary_fits Complement z f = sfits_to_z (record { fits = omega arith })
unary_fits Negate z f = SFits-int_wrap w64 (neg_ℤ z)
unary_fits Plus z f = f

negative_fits : (n : ℕ) → n < 2 ^ 63 → Has64Bits (neg_ℤ (pos n))
negative_fits zero h = record { sfits = h }
negative_fits (suc n) h = record { sfits = omega arith }

shifted_fits : (z : ℤ) (m : ℕ) → Has64Bits z → Has64Bits (int_div_euclid z (pos m))
shifted_fits (pos a) m f =
    let h : a < 2 ^ 63 = f.sfits in
    let l : a / m ≤ a = div-le_self a m in
    record { sfits = omega arith }
shifted_fits (negsuc a) m f =
    let h : a < 2 ^ 63 = f.sfits in
    let l : a / m ≤ a = div-le_self a m in
    record { sfits = omega arith }

rest_fits : (z d : ℤ) → Has64Bits z → Has64Bits (int_rem z d)
rest_fits (pos a) d f =
    let h : a < 2 ^ 63 = f.sfits in
    let l : a % unsigned_abs d ≤ a = mod-le a (unsigned_abs d) in
    record { sfits = omega arith }
rest_fits (negsuc a) d f = negative_rest (suc a % unsigned_abs d) a (mod-le (suc a) (unsigned_abs d)) f
  where
    negative_rest : (n a : ℕ) → n ≤ suc a → Has64Bits (negsuc a) → Has64Bits (neg_ℤ (pos n))
    negative_rest zero a l f = record { sfits = lit< tt }
    negative_rest (suc n) a l f = let h : a < 2 ^ 63 = f.sfits in record { sfits = omega arith }

-- a number that there is has so many bits
abbrev Fit64 : Option ℤ → Type 0
Fit64 o = (z : ℤ) → o ≡ Some z → Has64Bits z

none_fits : Fit64 None
none_fits z e = cc

some_fits : (y : ℤ) → Has64Bits y → Fit64 (Some y)
some_fits y f z e = let same : y ≡ z = cc in subst Has64Bits same f

unless_zero : (b : Bool) (y : ℤ) → Has64Bits y → Fit64 (if b then None else Some y)
unless_zero true y f = none_fits
unless_zero false y f = some_fits y f

binary_fits : (op : BinaryOp) (x y : ℤ) → Has64Bits x → Has64Bits y → Fit64 (binary op x y)
binary_fits Or x y f g = some_fits _ (truth_fits _)
binary_fits Xor x y f g = some_fits _ (truth_fits _)
binary_fits And x y f g = some_fits _ (truth_fits _)
binary_fits BitOr x y f g = some_fits _ (sfits_to_z (Fits-or (Fits-of_z f) (Fits-of_z g)))
binary_fits BitXor x y f g = some_fits _ (sfits_to_z (Fits-xor (Fits-of_z f) (Fits-of_z g)))
binary_fits BitAnd x y f g = some_fits _ (sfits_to_z (Fits-and (cast_unsigned w64 y) (Fits-of_z f)))
binary_fits Equal x y f g = some_fits _ (truth_fits _)
binary_fits NotEqual x y f g = some_fits _ (truth_fits _)
binary_fits Less x y f g = some_fits _ (truth_fits _)
binary_fits LessEqual x y f g = some_fits _ (truth_fits _)
binary_fits Greater x y f g = some_fits _ (truth_fits _)
binary_fits GreaterEqual x y f g = some_fits _ (truth_fits _)
binary_fits ShiftLeft x y f g = some_fits _ (SFits-int_wrap w64 (x *ℤ pos (2 ^ shift_count y)))
binary_fits ShiftRight x y f g = some_fits _ (shifted_fits x (2 ^ shift_count y) f)
binary_fits Add x y f g = some_fits _ (SFits-int_wrap w64 (x +ℤ y))
binary_fits Subtract x y f g = some_fits _ (SFits-int_wrap w64 (x -ℤ y))
binary_fits Multiply x y f g = some_fits _ (SFits-int_wrap w64 (x *ℤ y))
binary_fits Divide x y f g = unless_zero (int_eq y (pos 0)) _ (SFits-int_wrap w64 (int_div x y))
binary_fits Remainder x y f g = unless_zero (int_eq y (pos 0)) _ (rest_fits x y f)

decided_fits : (op : BinaryOp) (x : ℤ) → Fit64 (decided op x)
decided_fits Or x = if_held (holds x)
  where
    if_held : (b : Bool) → Fit64 (if b then Some (pos 1) else None)
    if_held true = some_fits (pos 1) (record { sfits = lit< tt })
    if_held false = none_fits
decided_fits And x = unless_zero (holds x) (pos 0) (record { sfits = lit< tt })
decided_fits Xor x = none_fits
decided_fits BitOr x = none_fits
decided_fits BitXor x = none_fits
decided_fits BitAnd x = none_fits
decided_fits Equal x = none_fits
decided_fits NotEqual x = none_fits
decided_fits Less x = none_fits
decided_fits LessEqual x = none_fits
decided_fits Greater x = none_fits
decided_fits GreaterEqual x = none_fits
decided_fits ShiftLeft x = none_fits
decided_fits ShiftRight x = none_fits
decided_fits Add x = none_fits
decided_fits Subtract x = none_fits
decided_fits Multiply x = none_fits
decided_fits Divide x = none_fits
decided_fits Remainder x = none_fits

either_fits : (a b : Option ℤ) → Fit64 a → Fit64 b → Fit64 (option_or a b)
either_fits None b f g = g
either_fits (Some y) b f g = f

right_fits : (op : BinaryOp) (x : ℤ) (right : Option ℤ) → Has64Bits x → Fit64 right
    → Fit64 (option_and_then (λ y. binary op x y) right)
right_fits op x None f g = none_fits
right_fits op x (Some y) f g = binary_fits op x y f (g y refl)

joined_fits : (op : BinaryOp) (left right : Option ℤ) → Fit64 left → Fit64 right → Fit64 (joined op left right)
joined_fits op None right f g = none_fits
joined_fits op (Some x) right f g =
    either_fits (decided op x) (option_and_then (λ y. binary op x y) right) (decided_fits op x)
    (right_fits op x right (f x refl) g)

prefixed_fits : (op : UnaryOp) (operand : Option ℤ) → Fit64 operand → Fit64 (option_map (unary op) operand)
prefixed_fits op None f = none_fits
prefixed_fits op (Some x) f = some_fits (unary op x) (unary_fits op x (f x refl))

compared_fits : (op : TextOp) (a b : List ℕ) → Has64Bits (compared op a b)
compared_fits SameText a b = truth_fits _
compared_fits OtherText a b = truth_fits _

module _ (scene : SceneForm) (is : IsSceneInBounds scene) (locals : LocalsPast) (within : AreLocalsInBounds locals) where
  pub value_fits : (f : Form) → IsExpressionInBounds f → (z : ℤ) → value scene locals f ≡ Some z → FitsSigned w64 z
  value_fits (Num number) h = some_fits number h
  value_fits (Named variable) h = some_fits (number_named scene variable) (is.numbers variable)
  value_fits (Local name) h =
      some_fits (local_named scene locals name) (within (local_of scene.firing.pid scene.firing.tid name))
  value_fits (Prefixed op operand) h = prefixed_fits op (value scene locals operand) (value_fits operand h)
  value_fits (Joined op left right) h =
      joined_fits op (value scene locals left) (value scene locals right) (value_fits left h.0) (value_fits right h.1)
  value_fits (Compared op left right) h = some_fits _ (compared_fits op (text_bytes scene left) (text_bytes scene right))
