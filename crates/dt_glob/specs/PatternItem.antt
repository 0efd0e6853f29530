-- The items of a pattern.
use Rattle.std.specs.Prelude.{◌≡◌, ℕ, ◌≤◌, ◌⊎◌, Bool, true, false, List, [], ◌∷◌}
use Rattle.dt_glob.specs.declared.element.Element.{Element}
use Rattle.dt_glob.specs.declared.element.Element.TheVariants.{Single, Range}

-- the element of a set holds the byte
abbrev pub Holds : Element → ℕ → Type 0
Holds (Single own) byte = byte ≡ own
Holds (Range first last) byte = (first ≤ byte) × (byte ≤ last)

-- some element holds the byte
abbrev pub HoldsAny : List Element → ℕ → Type 0
HoldsAny [] byte = ⊥
HoldsAny (element ∷ elements) byte = Holds element byte ⊎ HoldsAny elements byte

-- any text; any one byte; this byte; one byte that some element holds, or where negated one that none holds
pub data PatternItem : Type 0 where
  Star : PatternItem
  AnyByte : PatternItem
  Literal : (byte : ℕ) → PatternItem
  OneOf : (negated : Bool) (elements : List Element) → PatternItem

-- the item takes this one byte: a star takes texts instead
abbrev pub Takes : PatternItem → ℕ → Type 0
Takes Star byte = ⊥
Takes AnyByte byte = Unit {0}
Takes (Literal own) byte = byte ≡ own
Takes (OneOf true elements) byte = ¬ HoldsAny elements byte
Takes (OneOf false elements) byte = HoldsAny elements byte
