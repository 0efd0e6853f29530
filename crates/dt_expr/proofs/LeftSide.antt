-- What the left side of an operator decides.
use Rattle.std.proofs.Common.{◌≡◌, ◌≢◌, Bool, true, false, refl, ap, ◌∙◌, Some, None, Option, ℤ, pos}
use Rattle.std.specs.Prelude.{if◌then◌else◌, not}
use Rattle.std.specs.Ordering.{int_eq}
use Rattle.std.proofs.lemmas.Bool.Decides.{Decides-int_eq}
use Rattle.std.specs.Option.{option_and_then, option_or}
use Rattle.dt_expr.specs.declared.operators.BinaryOp.TheVariants.{Or, Xor, And}
use Rattle.dt_locals.specs.History.{LocalsPast}
use Rattle.dt_expr.specs.Form.{Form, Joined}
use Rattle.dt_expr.specs.Operators.{holds, decided, binary}
use Rattle.dt_expr.specs.Scene.{SceneForm}
use Rattle.dt_expr.specs.Value.{joined, value}

pub and_left : (scene : SceneForm) (locals : LocalsPast) (left right : Form) → value scene locals left ≡ Some (pos 0)
    → value scene locals (Joined And left right) ≡ Some (pos 0)
and_left scene locals left right e = ap (λ (v : Option ℤ). joined And v (value scene locals right)) e

turned : (b : Bool) → (b ≡ true → ⊥) → not b ≡ true
turned true h = absurd (h refl)
turned false h = refl

is_held : (z : ℤ) → z ≢ pos 0 → holds z ≡ true
is_held z n = turned (int_eq z (pos 0)) (λ h. n ((Decides-int_eq z (pos 0)).0 h))

decides : (z : ℤ) → z ≢ pos 0 → decided Or z ≡ Some (pos 1)
decides z n = ap (λ (b : Bool). if b then Some (pos 1) else None) (is_held z n)

pub or_left : (scene : SceneForm) (locals : LocalsPast) (left right : Form) (z : ℤ) → z ≢ pos 0 → value scene locals left ≡ Some z
    → value scene locals (Joined Or left right) ≡ Some (pos 1)
or_left scene locals left right z n e =
    ap (λ (v : Option ℤ). joined Or v (value scene locals right)) e
    ∙ ap (λ (d : Option ℤ). option_or d (option_and_then (λ y. binary Or z y) (value scene locals right))) (decides z n)

faulty : (left : Option ℤ) → joined Xor left None ≡ None
faulty None = refl
faulty (Some x) = refl

pub xor_right : (scene : SceneForm) (locals : LocalsPast) (left right : Form) → value scene locals right ≡ None
    → value scene locals (Joined Xor left right) ≡ None
xor_right scene locals left right e = ap (joined Xor (value scene locals left)) e ∙ faulty (value scene locals left)
