-- `Matches` as a test, for definitions that filter lists by patterns; `tests_agree` says that they are the same.
use Rattle.std.specs.Prelude.{ℕ, ◌==◌, ◌&&◌, ◌||◌, not, nat_le, Bool, true, false, List, [], ◌∷◌}
use Rattle.dt_glob.specs.declared.element.Element.{Element}
use Rattle.dt_glob.specs.declared.element.Element.TheVariants.{Single, Range}
use Rattle.dt_glob.specs.PatternItem.{PatternItem, Star, AnyByte, Literal, OneOf}

-- the element of a set holds the byte
abbrev pub element_holds : Element → ℕ → Bool
element_holds (Single own) byte = byte == own
element_holds (Range first last) byte = nat_le first byte && nat_le byte last

-- some element holds the byte
abbrev pub holds_any : List Element → ℕ → Bool
holds_any [] byte = false
holds_any (element ∷ elements) byte = element_holds element byte || holds_any elements byte

-- the item takes this one byte: a star takes texts instead
abbrev pub takes : PatternItem → ℕ → Bool
takes Star byte = false
takes AnyByte byte = true
takes (Literal own) byte = byte == own
takes (OneOf true elements) byte = not (holds_any elements byte)
takes (OneOf false elements) byte = holds_any elements byte

-- The items match the text. A star takes no byte, or one and then stays.
abbrev pub is_match : List PatternItem → List ℕ → Bool
is_match [] [] = true
is_match [] (byte ∷ rest) = false
is_match (Star ∷ items) [] = is_match items []
is_match (Star ∷ items) (byte ∷ rest) = is_match items (byte ∷ rest) || is_match (Star ∷ items) rest
is_match (item ∷ items) [] = false
is_match (item ∷ items) (byte ∷ rest) = takes item byte && is_match items rest
