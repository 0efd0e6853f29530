-- The words of a text.
use Rattle.std.specs.Prelude.{◌≡◌, ◌≢◌, List, ℕ, ◌++◌, codes, All}
use Rattle.dt_names.specs.Bytes.{space}

-- no byte of the text is a blank
abbrev pub HasNoBlank : List ℕ → Type 0
HasNoBlank text = All (λ byte. byte ≢ space) text

-- The text is cut at its first blank.
pub record IsCutAtBlank (text front rest : List ℕ) : Type 0 where
  pub whole : text ≡ front ++ (codes " " ++ rest)
  pub first : HasNoBlank front
