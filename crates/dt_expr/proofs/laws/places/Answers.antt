-- The law of the bits of `|`, `&` and `^`.
use Rattle.std.proofs.Common.{◌≡◌, ℕ, ℤ, ◌<◌, ◌^◌, refl, ap, ◌∙◌, arith, FitsSigned}
use Rattle.std.proofs.lemmas.Int.{ints, of_z-to_z}
use Rattle.std.specs.Int.{w64, bit_at, cast_signed, cast_unsigned}
use Rattle.std.specs.Int.Bits.{bit_and, bit_or, bit_xor, and_lt}
use Rattle.std.proofs.lemmas.Nat.{or_lt, xor_lt}
use Rattle.std.proofs.lemmas.Nat.Bits.{bit_at_and, bit_at_or, bit_at_xor}
use Rattle.dt_expr.proofs.laws.places.Goals as goal

-- two's complement has 64 bits
below : (z : ℤ) → FitsSigned w64 z → cast_unsigned w64 z < 2 ^ 64
below z fits = omega (arith, ints)

-- the bits of what 64 bits are, read as a number with a sign
kept : (n place : ℕ) → n < 2 ^ 64 → bit_at (cast_unsigned w64 (cast_signed w64 n)) place ≡ bit_at n place
kept n place small = ap (λ m. bit_at m place) (of_z-to_z w64 n small)

pub returns-clause-or : goal.returns-clause-or
returns-clause-or c = λ x y place own other. (
  refl,
  kept (bit_or (cast_unsigned w64 x) (cast_unsigned w64 y)) place (or_lt 64 _ _ (below x own) (below y other))
      ∙ bit_at_or (cast_unsigned w64 x) (cast_unsigned w64 y) place,
)

pub returns-clause-and : goal.returns-clause-and
returns-clause-and c = λ x y place own other. (
  refl,
  kept (bit_and (cast_unsigned w64 x) (cast_unsigned w64 y)) place (and_lt 64 _ _ (below x own) (below y other))
      ∙ bit_at_and (cast_unsigned w64 x) (cast_unsigned w64 y) place,
)

pub returns-clause-xor : goal.returns-clause-xor
returns-clause-xor c = λ x y place own other. (
  refl,
  kept (bit_xor (cast_unsigned w64 x) (cast_unsigned w64 y)) place (xor_lt 64 _ _ (below x own) (below y other))
      ∙ bit_at_xor (cast_unsigned w64 x) (cast_unsigned w64 y) place,
)
