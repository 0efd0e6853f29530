-- The parts of a text.
use Rattle.std.specs.Prelude.{◌≡◌, ◌≢◌, ℕ, List, ◌∷◌, ◌++◌, All}

-- no byte of the text has this value
abbrev pub HasNo : ℕ → List ℕ → Type 0
HasNo byte text = All (λ other. other ≢ byte) text

-- The text is cut at its first byte of this value.
pub record IsCutAt (byte : ℕ) (text front rest : List ℕ) : Type 0 where
  pub whole : text ≡ front ++ (byte ∷ rest)
  pub first : HasNo byte front
