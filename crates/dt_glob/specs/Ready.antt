-- A pattern made ready: its items that take a byte, and the places beside them, as bits of numbers.
use Rattle.std.specs.Prelude.{◌≡◌, ℕ, ◌+◌, ◌*◌, ◌<◌, Bool, true, false, List, [], ◌∷◌, slice_index}
use Rattle.std.specs.Int.Bits.{bit_or}
use Rattle.dt_glob.specs.PatternItem.{PatternItem, Star}
use Rattle.dt_glob.specs.Test.{takes}

abbrev pub one_if : Bool → ℕ
one_if true = 1
one_if false = 0

-- the items that take the byte, the first of those that take one at the lowest bit
abbrev pub takers_of : List PatternItem → ℕ → ℕ
takers_of [] byte = 0
takers_of (Star ∷ items) byte = takers_of items byte
takers_of (item ∷ items) byte = one_if (takes item byte) + 2 * takers_of items byte

-- the places at which a star stands
abbrev pub stars_of : List PatternItem → ℕ
stars_of [] = 0
stars_of (Star ∷ items) = bit_or 1 (stars_of items)
stars_of (item ∷ items) = 2 * stars_of items

-- the place behind the last item
abbrev pub end_of : List PatternItem → ℕ
end_of [] = 1
end_of (Star ∷ items) = end_of items
end_of (item ∷ items) = 2 * end_of items

pub record IsMadeReady (items : List PatternItem) (takers : List ℕ) (stars end : ℕ) : Type 0 where
  pub takers_are : (byte : ℕ) → byte < 256 → slice_index takers byte ≡ takers_of items byte
  pub stars_are : stars ≡ stars_of items
  pub end_is : end ≡ end_of items
