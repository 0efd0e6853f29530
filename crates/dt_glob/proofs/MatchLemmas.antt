-- An item that takes the byte in front, and a star in front.
use Rattle.std.proofs.Common.{◌≡◌, ◌≢◌, ℕ, ◌⊎◌, inl, inr, List, [], ◌∷◌, ◌++◌}
use Rattle.std.proofs.Common.{refl, ap, ◌∙◌}
use Rattle.dt_glob.specs.PatternItem.{PatternItem, Star, AnyByte, Literal, OneOf, Takes}
use Rattle.dt_glob.specs.Matches.{Matches}

-- an item that takes the byte in front lets the rest match the rest
pub Matches-take : (item : PatternItem) (byte : ℕ) (items : List PatternItem) (rest : List ℕ) → Takes item byte
    → Matches items rest → Matches (item ∷ items) (byte ∷ rest)
Matches-take Star byte items rest t m = absurd t
Matches-take AnyByte byte items rest t m = (byte ∷ [], rest, refl, (byte, refl, t), m)
Matches-take (Literal own) byte items rest t m = (byte ∷ [], rest, refl, (byte, refl, t), m)
Matches-take (OneOf negated elements) byte items rest t m = (byte ∷ [], rest, refl, (byte, refl, t), m)

-- an item that is no star takes the byte in front
pub record TakesFirst (item : PatternItem) (items : List PatternItem) (text : List ℕ) : Type 0 where
  pub byte : ℕ
  pub rest : List ℕ
  pub text_is : text ≡ byte ∷ rest
  pub takes : Takes item byte
  pub matches : Matches items rest

taken : (item : PatternItem) (items : List PatternItem) (text : List ℕ)
    → (m : (piece : List ℕ) × (rest : List ℕ) × (text ≡ piece ++ rest)
    × ((byte : ℕ) × (piece ≡ byte ∷ []) × Takes item byte) × Matches items rest)
    → TakesFirst item items text
taken item items text (piece, rest, e, (byte, f, t), m) =
    record { byte = byte; rest = rest; text_is = e ∙ ap (λ (p : List ℕ). p ++ rest) f; takes = t; matches = m }

pub Matches-taken : (item : PatternItem) (items : List PatternItem) (text : List ℕ) → item ≢ Star
    → Matches (item ∷ items) text → TakesFirst item items text
Matches-taken Star items text n m = absurd (n refl)
Matches-taken AnyByte items text n m = taken AnyByte items text m
Matches-taken (Literal own) items text n m = taken (Literal own) items text m
Matches-taken (OneOf negated elements) items text n m = taken (OneOf negated elements) items text m

-- a star in front takes no byte or one more
pub Matches-star_none : (items : List PatternItem) (text : List ℕ) → Matches items text → Matches (Star ∷ items) text
Matches-star_none items text m = ([], text, refl, tt, m)

pub Matches-star_more : (items : List PatternItem) (byte : ℕ) (text : List ℕ) → Matches (Star ∷ items) text
    → Matches (Star ∷ items) (byte ∷ text)
Matches-star_more items byte text (piece, rest, e, u, m) = (byte ∷ piece, rest, ap (λ (r : List ℕ). byte ∷ r) e, tt, m)

pub Matches-star_cases : (items : List PatternItem) (byte : ℕ) (text : List ℕ) → Matches (Star ∷ items) (byte ∷ text)
    → Matches items (byte ∷ text) ⊎ Matches (Star ∷ items) text
Matches-star_cases items byte text m = go m.0 m.2
  where
    go : (piece : List ℕ) → byte ∷ text ≡ piece ++ m.1 → Matches items (byte ∷ text) ⊎ Matches (Star ∷ items) text
    go [] e = inl (rw e m.4)
    go (x ∷ piece) e = inr (piece, m.1, cc, tt, m.4)

pub Matches-star_empty : (items : List PatternItem) → Matches (Star ∷ items) [] → Matches items []
Matches-star_empty items m = go m.0 m.2
  where
    go : (piece : List ℕ) → [] ≡ piece ++ m.1 → Matches items []
    go [] e = rw e m.4
    go (x ∷ piece) e = cc
