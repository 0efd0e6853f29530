-- When a pattern matches a text.
use Rattle.std.specs.Prelude.{◌≡◌, ℕ, List, [], ◌∷◌, ◌++◌}
use Rattle.dt_glob.specs.PatternItem.{PatternItem, Star, Takes}

-- A star matches any text, the empty one too. Any other item matches one byte, which it takes.
abbrev pub MatchesPiece : PatternItem → List ℕ → Type 0
MatchesPiece Star piece = Unit {0}
MatchesPiece item piece = (byte : ℕ) × (piece ≡ byte ∷ []) × Takes item byte

-- the text can be cut into pieces that the items match in order
abbrev pub Matches : List PatternItem → List ℕ → Type 0
Matches [] text = text ≡ []
Matches (item ∷ items) text = (piece : List ℕ) × (rest : List ℕ) × (text ≡ piece ++ rest)
    × MatchesPiece item piece × Matches items rest
