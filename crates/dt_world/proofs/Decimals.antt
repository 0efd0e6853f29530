-- The digits of a number: they are those of no other, and no blank is among them.
use Rattle.std.proofs.Common.{◌≡◌, ℕ, ◌+◌, ◌^◌, ◌<◌, ◌%◌, [], decimal, arith}
use Rattle.std.proofs.lemmas.Fmt.{decimal_by_steps, decimal_injective}
use Rattle.std.proofs.lemmas.List.Elements.{All-nil, All-cons, All-push}
use Rattle.dt_world.specs.Words.{HasNoBlank}
use Rattle.dt_world.proofs.Cuts.{NotBlank}

-- digits are those of one number
pub one_number : (a b : ℕ) → a < 2 ^ 32 → b < 2 ^ 32 → decimal a ≡ decimal b → a ≡ b
one_number a b p q same = decimal_injective a b (omega arith) (omega arith) same

-- no blank is among them
pub decimal_no_blank : (n : ℕ) → n < 2 ^ 32 → HasNoBlank (decimal n)
decimal_no_blank n fits =
    decimal_by_steps (λ m digits. HasNoBlank digits)
    (λ m small. All-cons NotBlank (48 + m) [] (λ same. omega arith) (All-nil NotBlank))
    (λ m digits large more. All-push NotBlank digits (48 + m % 10) more (λ same. omega arith))
    n (omega arith)
