-- Digits are those of one number.
use Rattle.std.proofs.Common.{◌≡◌, ℕ, ◌^◌, ◌<◌, decimal, arith}
use Rattle.std.proofs.lemmas.Fmt.{decimal_injective}

-- digits are those of one number
pub one_number : (a b : ℕ) → a < 2 ^ 32 → b < 2 ^ 32 → decimal a ≡ decimal b → a ≡ b
one_number a b p q same = decimal_injective a b (omega arith) (omega arith) same
