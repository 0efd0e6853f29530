-- The items that a text spells, as a function: what a contract sees of a `Pattern`. The law `one_answer` and the
-- contract of `Pattern::parse` say that they are what `Spells` names.
use Rattle.std.specs.Prelude.{ℕ, Bool, true, false, ◌==◌, if◌then◌else◌, List, [], ◌∷◌, ◌++◌, Option, Some, None, Result, Ok, Err}
use Rattle.dt_glob.specs.declared.sign.PatternSign.{PatternSign}
use Rattle.dt_glob.specs.declared.sign.PatternSign.TheVariants.{Plain, Escaped}
use Rattle.dt_glob.specs.declared.element.Element.{Element}
use Rattle.dt_glob.specs.declared.element.Element.TheVariants.{Single, Range}
use Rattle.dt_glob.specs.declared.fault.GlobFault.{GlobFault}
use Rattle.dt_glob.specs.declared.fault.GlobFault.TheVariants.{Unclosed, EmptySet, LoneEscape}
use Rattle.dt_glob.specs.Sign.{byte_of, escape, star_byte, question_byte, opening_byte, closing_byte, bang_byte, dash_byte}
use Rattle.dt_glob.specs.PatternItem.{PatternItem, Star, AnyByte, Literal, OneOf}

abbrev pub is_plain : ℕ → PatternSign → Bool
is_plain own (Plain byte) = byte == own
is_plain own (Escaped byte) = false

-- the signs of a text, and whether a lone `\` stands after them
pub record Signs : Type 0 where
  pub signs : List PatternSign
  pub lone : Bool

abbrev pub behind : PatternSign → Signs → Signs
behind sign read = record read { signs = sign ∷ read.signs }

unfoldable pub signs_of : List ℕ → Signs
signs_of [] = record { signs = []; lone = false }
signs_of (byte ∷ []) =
    if byte == escape then record { signs = []; lone = true } else record { signs = Plain byte ∷ []; lone = false }
signs_of (byte ∷ next ∷ text) =
    if byte == escape then behind (Escaped next) (signs_of text) else behind (Plain byte) (signs_of (next ∷ text))

unfoldable pub elements_of : List PatternSign → List Element
elements_of [] = []
elements_of (sign ∷ []) = Single (byte_of sign) ∷ []
elements_of (sign ∷ next ∷ []) = Single (byte_of sign) ∷ Single (byte_of next) ∷ []
elements_of (sign ∷ next ∷ last ∷ signs) =
    if is_plain dash_byte sign then Single (byte_of sign) ∷ elements_of (next ∷ last ∷ signs)
    else (if is_plain dash_byte next then Range (byte_of sign) (byte_of last) ∷ elements_of signs
    else Single (byte_of sign) ∷ elements_of (next ∷ last ∷ signs))

-- an item that is no set
abbrev pub item_of_sign : PatternSign → PatternItem
item_of_sign (Plain byte) =
    if byte == star_byte then Star else (if byte == question_byte then AnyByte else Literal byte)
item_of_sign (Escaped byte) = Literal byte

abbrev pub also : PatternItem → Result (List PatternItem) GlobFault → Result (List PatternItem) GlobFault
also item (Ok items) = Ok (item ∷ items)
also item (Err fault) = Err fault

-- a set of this inside, and then the rest
abbrev pub set_and : List PatternSign → Result (List PatternItem) GlobFault → Result (List PatternItem) GlobFault
set_and [] rest = Err EmptySet
set_and (sign ∷ []) rest =
    if is_plain bang_byte sign then Err EmptySet else also (OneOf false (elements_of (sign ∷ []))) rest
set_and (sign ∷ next ∷ signs) rest =
    if is_plain bang_byte sign then also (OneOf true (elements_of (next ∷ signs))) rest
    else also (OneOf false (elements_of (sign ∷ next ∷ signs))) rest

-- `inside` is what has come of an open set
unfoldable pub items_from : Bool → Option (List PatternSign) → List PatternSign → Result (List PatternItem) GlobFault
items_from lone None [] = if lone then Err LoneEscape else Ok []
items_from lone (Some inside) [] = if lone then Err LoneEscape else Err Unclosed
items_from lone None (sign ∷ signs) =
    if is_plain opening_byte sign then items_from lone (Some []) signs
    else also (item_of_sign sign) (items_from lone None signs)
items_from lone (Some inside) (sign ∷ signs) =
    if is_plain closing_byte sign then set_and inside (items_from lone None signs)
    else items_from lone (Some (inside ++ sign ∷ [])) signs

-- the items of a text, or its first fault
unfoldable pub reading_of : List ℕ → Result (List PatternItem) GlobFault
reading_of text = let read = signs_of text in items_from read.lone None read.signs

abbrev pub items_or_none : Result (List PatternItem) GlobFault → List PatternItem
items_or_none (Ok items) = items
items_or_none (Err fault) = []

unfoldable pub items_of_text : List ℕ → List PatternItem
items_of_text text = items_or_none (reading_of text)
