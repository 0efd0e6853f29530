-- What stands between tokens. Guide, Program Structure.
use Rattle.std.specs.Prelude.{◌≡◌, ◌≢◌, ℕ, ◌⊎◌, Bool, ◌==◌, ◌||◌, IsTrue, List, ◌∷◌, ◌++◌}
use Rattle.dt_names.specs.Bytes.{tab, newline, carriage_return, space, asterisk, slash}

-- what separates tokens
abbrev pub is_blank : ℕ → Bool
is_blank byte = byte == space || byte == tab || byte == newline || byte == carriage_return

-- a comment ends at the first `*` `/`
abbrev pub HasNoEnd : List ℕ → Type 0
HasNoEnd inside = (front back : List ℕ) → inside ≢ front ++ (asterisk ∷ slash ∷ back)

-- the text is a blank byte, and then the rest
pub record BeginsWithBlank (text rest : List ℕ) : Type 0 where
  pub byte : ℕ
  pub blank : IsTrue (is_blank byte)
  pub cut : text ≡ byte ∷ rest

-- the text, after a comment's beginning, is the rest of the comment, up to its first end, and then the rest
pub record EndsComment (text rest : List ℕ) : Type 0 where
  pub inside : List ℕ
  pub cut : text ≡ inside ++ (asterisk ∷ slash ∷ rest)
  pub first : HasNoEnd inside

-- The text is a comment, and then the rest. Comments don't nest.
pub record BeginsWithComment (text rest : List ℕ) : Type 0 where
  pub behind : List ℕ
  pub cut : text ≡ slash ∷ asterisk ∷ behind
  pub ends : EndsComment behind rest

-- one blank stands at the front of the text, and then the rest
abbrev pub StripsBlank : List ℕ → List ℕ → Type 0
StripsBlank text rest = BeginsWithBlank text rest ⊎ BeginsWithComment text rest

-- blanks stand at the front of the text, and then the rest, at whose front there is none
pub data SkipsBlanks : List ℕ → List ℕ → Type 0 where
  none_left : (text : List ℕ) → ((rest : List ℕ) → StripsBlank text rest → ⊥) → SkipsBlanks text text
  one_more : (text next rest : List ℕ) → StripsBlank text next → SkipsBlanks next rest → SkipsBlanks text rest
