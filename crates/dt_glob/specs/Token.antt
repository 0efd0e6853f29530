-- The items and elements that the code reads off a text.
use Rattle.std.specs.Prelude.{◌≡◌, ℕ, Bool, List, ◌∷◌, ◌++◌}
use Rattle.dt_glob.specs.declared.sign.PatternSign.{PatternSign}
use Rattle.dt_glob.specs.declared.element.Element.{Element}
use Rattle.dt_glob.specs.declared.token.PatternToken.{PatternToken}
use Rattle.dt_glob.specs.declared.token.PatternToken.TheVariants as token
use Rattle.dt_glob.specs.Sign.{text_of_signs, AreSigns, closing_bracket, closing_byte}
use Rattle.dt_glob.specs.PatternItem.{PatternItem, Star, AnyByte, Literal, OneOf}
use Rattle.dt_glob.specs.Spells.{Lacks, SpellsElements, SpellsSet, Spells}

-- the text is signs that spell these elements
pub record ShowsElements (text : List ℕ) (elements : List Element) : Type 0 where
  pub signs : List PatternSign
  pub written : text ≡ text_of_signs signs
  pub are_signs : AreSigns signs
  pub spells : SpellsElements signs elements

-- the elements are this one, and those that the text after it shows
pub record ReadsElement (element : Element) (elements : List Element) (rest : List ℕ) : Type 0 where
  pub tail : List Element
  pub elements_are : elements ≡ element ∷ tail
  pub shows : ShowsElements rest tail

-- the token is this item
abbrev pub IsToken : PatternToken → PatternItem → Type 0
IsToken token.Star item = item ≡ Star
IsToken token.AnyByte item = item ≡ AnyByte
IsToken (token.Literal byte) item = item ≡ Literal byte
IsToken (token.OneOf negated text) item = (elements : List Element) × (item ≡ OneOf negated elements)
    × ShowsElements text.now elements

-- the items are the token's, and those that the text after it spells
pub record ReadsToken (token : PatternToken) (items : List PatternItem) (rest : List ℕ) : Type 0 where
  pub item : PatternItem
  pub tail : List PatternItem
  pub items_are : items ≡ item ∷ tail
  pub is_token : IsToken token item
  pub spells : Spells rest tail

-- the text is an inside of a set, a plain `]`, the first one, and what stands after that
pub record ClosesAt (text inside rest : List ℕ) : Type 0 where
  pub signs : List PatternSign
  pub inside_is : inside ≡ text_of_signs signs
  pub are_signs : AreSigns signs
  pub unended : Lacks closing_bracket signs
  pub cut : text ≡ inside ++ closing_byte ∷ rest

-- the text, after a `[`, begins with the rest of this set
pub record BeginsSet (text : List ℕ) (negated : Bool) (elements : List Element) (behind : List ℕ) : Type 0 where
  pub inner : List PatternSign
  pub written : text ≡ text_of_signs inner ++ closing_byte ∷ behind
  pub are_signs : AreSigns inner
  pub spells : SpellsSet inner negated elements
