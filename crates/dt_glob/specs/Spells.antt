-- What items a pattern's text spells.
use Rattle.std.specs.Prelude.{◌≡◌, ◌≢◌, ℕ, ◌⊎◌, Bool, true, false, List, [], ◌∷◌, ◌++◌}
use Rattle.dt_glob.specs.declared.sign.PatternSign.{PatternSign}
use Rattle.dt_glob.specs.declared.sign.PatternSign.TheVariants.{Plain, Escaped}
use Rattle.dt_glob.specs.declared.element.Element.{Element}
use Rattle.dt_glob.specs.declared.element.Element.TheVariants.{Single, Range}
use Rattle.dt_glob.specs.Sign.{byte_of, text_of_signs, AreSigns, star, question, opening_bracket, closing_bracket, bang, dash}
use Rattle.dt_glob.specs.PatternItem.{PatternItem, Star, AnyByte, Literal, OneOf}

-- a plain `-` with a sign after it
abbrev pub BeginsRangeEnd : List PatternSign → Type 0
BeginsRangeEnd [] = ⊥
BeginsRangeEnd (sign ∷ []) = ⊥
BeginsRangeEnd (sign ∷ last ∷ signs) = sign ≡ dash

-- The inside of a set, element by element. A byte, a plain `-` and a byte make a range, unless the first is a
-- plain `-` itself. Any other byte, and a plain `-` at which an element begins, is an element of its own.
abbrev pub SpellsElements : List PatternSign → List Element → Type 0
SpellsElements signs [] = signs ≡ []
SpellsElements signs (Single byte ∷ elements) = (sign : PatternSign) × (rest : List PatternSign) × (signs ≡ sign ∷ rest)
    × (byte ≡ byte_of sign) × ((sign ≡ dash) ⊎ (¬ BeginsRangeEnd rest)) × SpellsElements rest elements
SpellsElements signs (Range first last ∷ elements) = (front : PatternSign) × (back : PatternSign) × (rest : List PatternSign)
    × (signs ≡ front ∷ dash ∷ back ∷ rest) × (first ≡ byte_of front) × (last ≡ byte_of back) × (front ≢ dash)
    × SpellsElements rest elements

-- this sign is none of the list
abbrev pub Lacks : PatternSign → List PatternSign → Type 0
Lacks sign [] = Unit {0}
Lacks sign (next ∷ signs) = (next ≢ sign) × Lacks sign signs

abbrev pub BeginsWithSign : PatternSign → List PatternSign → Type 0
BeginsWithSign sign [] = ⊥
BeginsWithSign sign (next ∷ signs) = next ≡ sign

-- how a negated set begins, after its `[`
abbrev pub mark : Bool → List PatternSign
mark true = bang ∷ []
mark false = []

-- a set without its brackets: it has an element, no plain `]`, and begins with a plain `!` where it is negated only
pub record SpellsSet (signs : List PatternSign) (negated : Bool) (elements : List Element) : Type 0 where
  pub inside : List PatternSign
  pub begins : signs ≡ mark negated ++ inside
  pub marked : negated ≡ false → ¬ BeginsWithSign bang inside
  pub unended : Lacks closing_bracket inside
  pub some : inside ≢ []
  pub spells : SpellsElements inside elements

-- signs that spell one item
abbrev pub SpellsItem : List PatternSign → PatternItem → Type 0
SpellsItem signs Star = signs ≡ star ∷ []
SpellsItem signs AnyByte = signs ≡ question ∷ []
SpellsItem signs (Literal byte) = (signs ≡ Escaped byte ∷ [])
    ⊎ ((signs ≡ Plain byte ∷ []) × (Plain byte ≢ star) × (Plain byte ≢ question) × (Plain byte ≢ opening_bracket))
SpellsItem signs (OneOf negated elements) = (inner : List PatternSign) × (signs ≡ opening_bracket ∷ (inner ++ closing_bracket ∷ []))
    × SpellsSet inner negated elements

-- the signs can be cut into pieces that spell the items in order
abbrev pub SpellsItems : List PatternSign → List PatternItem → Type 0
SpellsItems signs [] = signs ≡ []
SpellsItems signs (item ∷ items) = (front : List PatternSign) × (rest : List PatternSign) × (signs ≡ front ++ rest)
    × SpellsItem front item × SpellsItems rest items

-- the text is a pattern of these items
pub record Spells (text : List ℕ) (items : List PatternItem) : Type 0 where
  pub signs : List PatternSign
  pub written : text ≡ text_of_signs signs
  pub are_signs : AreSigns signs
  pub spells : SpellsItems signs items
