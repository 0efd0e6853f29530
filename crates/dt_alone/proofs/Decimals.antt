-- The digits of a number hold no other byte.
use Rattle.std.proofs.Common.{ℕ, ◌+◌, ◌^◌, ◌<◌, ◌%◌, [], decimal, arith}
use Rattle.std.proofs.lemmas.Fmt.{decimal_by_steps}
use Rattle.std.proofs.lemmas.List.Elements.{All-nil, All-cons, All-push}
use Rattle.dt_alone.specs.Parts.{HasNo}
use Rattle.dt_alone.proofs.Cuts.{Other}

-- no byte below the digits is among them
pub decimal_no : (byte n : ℕ) → byte < 48 → n < 2 ^ 32 → HasNo byte (decimal n)
decimal_no byte n low fits =
    decimal_by_steps (λ m digits. HasNo byte digits)
    (λ m small. All-cons (Other byte) (48 + m) [] (λ same. omega arith) (All-nil (Other byte)))
    (λ m digits large more. All-push (Other byte) digits (48 + m % 10) more (λ same. omega arith))
    n (omega arith)
