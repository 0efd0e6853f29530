-- What an evaluation leaves, which marks a division by zero.
use Rattle.std.specs.Prelude.{◌≡◌, Bool, true, Option, ℤ, MatchOption}

-- The number that there is was found, and the mark is as it was; where there is none, the mark is set.
abbrev pub IsFound : Option ℤ → (number : ℤ) → (before after : Bool) → Type 0
IsFound there number before after =
    MatchOption there (after ≡ true) (λ one. (number ≡ one) × (after ≡ before))
