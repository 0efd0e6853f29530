-- Digits in a base, one after another.
use mir.Val.{to_z, of_z}
use Rattle.std.proofs.Common.{◌≡◌, ◌^◌, ◌+◌, ◌*◌, ◌≤◌, ◌%◌, pos, w64, ℕ, zero, suc, ◌<◌, List, [], ◌∷◌, length, get_or}
use Rattle.std.proofs.Common.{ap, sym, ◌∙◌, arith}
use Rattle.std.proofs.lemmas.Int.{of_z-to_z}
use Rattle.std.proofs.Math.Nat.{mod-eq_of_lt}
use Rattle.std.specs.Int.{int_wrap}
use Rattle.std.specs.Char.{digit_value}
use Rattle.std.specs.Str.Parse.{AllDigits}
use Rattle.dt_expr.specs.Operators.{wrapped}

pub digit_at : (radix : ℕ) (digits : List ℕ) (i : ℕ) → i < length digits → AllDigits radix digits
    → digit_value (get_or digits i 0) < radix
digit_at radix [] i below h = absurd (omega arith)
digit_at radix (d ∷ ds) zero below h = h.0
digit_at radix (d ∷ ds) (suc i) below h = digit_at radix ds i (omega arith) h.1

-- one digit more makes too much
pub product_over : (value radix wide digit seen next total : ℕ) → next ≤ total → next ≡ seen * radix + digit
    → value ≡ seen → wide ≡ radix → (value * wide < 2 ^ 64 → ⊥) → 2 ^ 64 ≤ total
product_over value radix wide digit seen next total le more same base over =
    let product : value * wide ≡ seen * radix = cc in omega arith

pub sum_over : (value radix wide digit shown product seen next total : ℕ) → next ≤ total
    → next ≡ seen * radix + digit → value ≡ seen → wide ≡ radix → product ≡ value * wide → shown ≡ digit
    → (product + shown < 2 ^ 64 → ⊥) → 2 ^ 64 ≤ total
sum_over value radix wide digit shown product seen next total le more same base times written over =
    let product_is : product ≡ seen * radix = cc in omega arith

-- one digit more
pub one_more : (value radix wide digit shown product seen next sum : ℕ) → next ≡ seen * radix + digit → value ≡ seen
    → wide ≡ radix → product ≡ value * wide → shown ≡ digit → sum ≡ product + shown → sum ≡ next
one_more value radix wide digit shown product seen next sum more same base times written is = cc

-- an unsigned number's signed representative
pub representative : (n : ℕ) → n < 2 ^ 64 → to_z w64 (of_z w64 (to_z w64 n)) ≡ wrapped (pos n)
unfolding int_wrap
representative n fits =
    let small : n % 2 ^ 64 ≡ n = mod-eq_of_lt fits in
    ap (λ m. to_z w64 m) (of_z-to_z w64 n fits ∙ sym small)
