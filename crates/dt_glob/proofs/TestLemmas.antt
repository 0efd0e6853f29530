-- The tests of specs/Test.antt say what the relations say.
use Rattle.std.proofs.Common.{◌≡◌, ◌≢◌, ℕ, ◌≤◌, ◌↔◌, ◌&&◌, ◌||◌, inl, inr, IsTrue, Bool, true, false, List, [], ◌∷◌, refl, nat_le}
use Rattle.std.specs.Bool.{Decides}
use Rattle.std.proofs.lemmas.Bool.{false≢true, leb-true, le-leb}
use Rattle.std.proofs.lemmas.Bool.Decides.{Decides-eqb, Decides-and, Decides-or, Decides-not, Decides-like, same_from_decides}
use Rattle.dt_glob.specs.declared.element.Element.{Element}
use Rattle.dt_glob.specs.declared.element.Element.TheVariants.{Single, Range}
use Rattle.dt_glob.specs.PatternItem.{PatternItem, Star, AnyByte, Literal, OneOf, Holds, HoldsAny, Takes}
use Rattle.dt_glob.specs.Matches.{Matches}
use Rattle.dt_glob.specs.Test.{element_holds, holds_any, takes, is_match}
use Rattle.dt_glob.proofs.MatchLemmas.{Matches-take, Matches-taken, Matches-star_none, Matches-star_more}
use Rattle.dt_glob.proofs.MatchLemmas.{Matches-star_cases, Matches-star_empty}

Decides-never : {P : Type 0} → (P → ⊥) → Decides false P
Decides-never n = (λ e. absurd (false≢true e), λ p. absurd (n p))

Decides-nat_le : (a b : ℕ) → Decides (nat_le a b) (a ≤ b)
Decides-nat_le a b = (leb-true a b, le-leb a b)

Decides-holds : (element : Element) (byte : ℕ) → Decides (element_holds element byte) (Holds element byte)
Decides-holds (Single own) byte = Decides-eqb byte own
Decides-holds (Range first last) byte =
    Decides-and (nat_le first byte) (nat_le byte last) (Decides-nat_le first byte) (Decides-nat_le byte last)

Decides-holds_any : (elements : List Element) (byte : ℕ) → Decides (holds_any elements byte) (HoldsAny elements byte)
Decides-holds_any [] byte = Decides-never (λ h. h)
Decides-holds_any (element ∷ elements) byte =
    Decides-or (element_holds element byte) (holds_any elements byte) (Decides-holds element byte)
    (Decides-holds_any elements byte)

Decides-takes : (item : PatternItem) (byte : ℕ) → Decides (takes item byte) (Takes item byte)
Decides-takes Star byte = Decides-never (λ h. h)
Decides-takes AnyByte byte = (λ e. tt, λ t. refl)
Decides-takes (Literal own) byte = Decides-eqb byte own
Decides-takes (OneOf true elements) byte = Decides-not (holds_any elements byte) (Decides-holds_any elements byte)
Decides-takes (OneOf false elements) byte = Decides-holds_any elements byte

-- an item that is no star takes the byte in front, if there is one
Decides-at_end : (item : PatternItem) (items : List PatternItem) → item ≢ Star
    → Decides false (Matches (item ∷ items) [])
Decides-at_end item items n =
    Decides-never (λ m. let first = Matches-taken item items [] n m in let none = first.text_is in cc)

Decides-first : (item : PatternItem) (items : List PatternItem) (byte : ℕ) (rest : List ℕ) → item ≢ Star
    → Decides (is_match items rest) (Matches items rest)
    → Decides (takes item byte && is_match items rest) (Matches (item ∷ items) (byte ∷ rest))
Decides-first item items byte rest n d =
    Decides-like (takes item byte && is_match items rest)
    (λ t. Matches-take item byte items rest t.0 t.1)
    (λ m. let first = Matches-taken item items (byte ∷ rest) n m in
    let bytes : byte ≡ first.byte = cc first.text_is in
    let rests : rest ≡ first.rest = cc first.text_is in
    (rw bytes first.takes, rw rests first.matches))
    (Decides-and (takes item byte) (is_match items rest) (Decides-takes item byte) d)

pub Decides-is_match : (items : List PatternItem) (text : List ℕ) → Decides (is_match items text) (Matches items text)
Decides-is_match [] [] = (λ e. refl, λ m. refl)
Decides-is_match [] (byte ∷ rest) = Decides-never (λ m. cc)
Decides-is_match (Star ∷ items) [] =
    Decides-like (is_match items []) (Matches-star_none items []) (Matches-star_empty items)
    (Decides-is_match items [])
Decides-is_match (Star ∷ items) (byte ∷ rest) =
    Decides-like (is_match items (byte ∷ rest) || is_match (Star ∷ items) rest)
    (λ s. elim s [ inl m ↦ Matches-star_none items (byte ∷ rest) m | inr m ↦ Matches-star_more items byte rest m ])
    (Matches-star_cases items byte rest)
    (Decides-or (is_match items (byte ∷ rest)) (is_match (Star ∷ items) rest) (Decides-is_match items (byte ∷ rest))
    (Decides-is_match (Star ∷ items) rest))
Decides-is_match (item ∷ items) [] = Decides-at_end item items (λ e. cc)
Decides-is_match (item ∷ items) (byte ∷ rest) =
    Decides-first item items byte rest (λ e. cc) (Decides-is_match items rest)

pub takes_from_cases : (item : PatternItem) (byte : ℕ) (found : Bool) → (IsTrue found ↔ Takes item byte)
    → takes item byte ≡ found
takes_from_cases item byte found same = same_from_decides (takes item byte) found (Decides-takes item byte) same
