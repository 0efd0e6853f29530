-- What the operators do to whole numbers. Guide, Types, Operators and Expressions.
use Rattle.std.specs.Prelude.{◌≡◌, ℕ, ◌*◌, ◌^◌, Bool, true, false, not, ◌&&◌, ◌||◌, List, Option, Some, None, ℤ, pos, ◌+ℤ◌, ◌-ℤ◌, ◌*ℤ◌, neg_ℤ, int_lt, int_le, int_div, int_rem, unsigned_abs, if◌then◌else◌}
use Rattle.std.specs.Int.{w64, bit_at, cast_unsigned, int_wrap, int_bit_and, int_bit_or, int_bit_xor, int_bit_not, int_div_euclid, int_rem_euclid}
use Rattle.std.specs.Ordering.{int_eq}
use Rattle.std.specs.Str.{bytes_eq}
use Rattle.dt_expr.specs.declared.operators.BinaryOp.{BinaryOp}
use Rattle.dt_expr.specs.declared.operators.BinaryOp.TheVariants.{Or, Xor, And, BitOr, BitXor, BitAnd, Equal, NotEqual, Less, LessEqual, Greater, GreaterEqual, ShiftLeft, ShiftRight, Add, Subtract, Multiply, Divide, Remainder}
use Rattle.dt_expr.specs.declared.operators.TextOp.{TextOp}
use Rattle.dt_expr.specs.declared.operators.TextOp.TheVariants.{Equal as SameText, NotEqual as OtherText}
use Rattle.dt_expr.specs.declared.operators.UnaryOp.{UnaryOp}
use Rattle.dt_expr.specs.declared.operators.UnaryOp.TheVariants.{Not, Complement, Negate, Plus}

-- the signed 64-bit representative: the number from -2^63 to 2^63 - 1 that differs by a multiple of 2^64
abbrev pub wrapped : ℤ → ℤ
wrapped z = int_wrap w64 z

-- two numbers differ by a multiple of m
abbrev pub DifferBy : ℕ → ℤ → ℤ → Type 0
DifferBy m a b = (j : ℕ) × (k : ℕ) × (a +ℤ pos (j * m) ≡ b +ℤ pos (k * m))

-- the bit at a place of the 64 bits of two's complement
abbrev pub bit_of : ℤ → ℕ → ℕ
bit_of z place = bit_at (cast_unsigned w64 z) place

-- a truth as a number
abbrev pub truth : Bool → ℤ
truth true = pos 1
truth false = pos 0

-- a number as a truth: 0 alone is false
abbrev pub holds : ℤ → Bool
holds z = not (int_eq z (pos 0))

-- the count of a shift, from 0 to 63: what differs from it by a multiple of 64
abbrev pub shift_count : ℤ → ℕ
shift_count z = unsigned_abs (int_rem_euclid z (pos 64))

-- times the power of two
abbrev pub shifted_left : ℤ → ℤ → ℤ
shifted_left z count = wrapped (z *ℤ pos (2 ^ shift_count count))

-- by the power of two, rounded down
abbrev pub shifted_right : ℤ → ℤ → ℤ
shifted_right z count = int_div_euclid z (pos (2 ^ shift_count count))

-- the quotient, cut toward zero; there is none by 0
abbrev pub quotient : ℤ → ℤ → Option ℤ
quotient z divisor = if int_eq divisor (pos 0) then None else Some (wrapped (int_div z divisor))

-- the remainder of that quotient, which has the dividend's sign; there is none by 0
abbrev pub remainder : ℤ → ℤ → Option ℤ
remainder z divisor = if int_eq divisor (pos 0) then None else Some (int_rem z divisor)

-- an operator before its operand; `~` turns each of the 64 bits of two's complement
abbrev pub unary : UnaryOp → ℤ → ℤ
unary Not z = truth (not (holds z))
unary Complement z = int_bit_not w64 z
unary Negate z = wrapped (neg_ℤ z)
unary Plus z = z

-- what the left operand decides by itself
abbrev pub decided : BinaryOp → ℤ → Option ℤ
decided Or left = if holds left then Some (pos 1) else None
decided And left = if holds left then None else Some (pos 0)
decided op left = None

-- an operator between its operands; `|`, `^` and `&` take the 64 bits of two's complement, place by place; there is no
-- number for a division by 0
abbrev pub binary : BinaryOp → ℤ → ℤ → Option ℤ
binary Or left right = Some (truth (holds left || holds right))
binary Xor left right = Some (truth (if holds left then not (holds right) else holds right))
binary And left right = Some (truth (holds left && holds right))
binary BitOr left right = Some (int_bit_or w64 left right)
binary BitXor left right = Some (int_bit_xor w64 left right)
binary BitAnd left right = Some (int_bit_and w64 left right)
binary Equal left right = Some (truth (int_eq left right))
binary NotEqual left right = Some (truth (not (int_eq left right)))
binary Less left right = Some (truth (int_lt left right))
binary LessEqual left right = Some (truth (int_le left right))
binary Greater left right = Some (truth (int_lt right left))
binary GreaterEqual left right = Some (truth (int_le right left))
binary ShiftLeft left right = Some (shifted_left left right)
binary ShiftRight left right = Some (shifted_right left right)
binary Add left right = Some (wrapped (left +ℤ right))
binary Subtract left right = Some (wrapped (left -ℤ right))
binary Multiply left right = Some (wrapped (left *ℤ right))
binary Divide left right = quotient left right
binary Remainder left right = remainder left right

-- a comparison of two texts, which are equal where their bytes are
abbrev pub compared : TextOp → List ℕ → List ℕ → ℤ
compared SameText left right = truth (bytes_eq left right)
compared OtherText left right = truth (not (bytes_eq left right))
