-- What shares hold of keys and cells.
use Rattle.std.specs.Prelude.{ℕ, Option, None, Some, List, [], ◌∷◌, map}
use Rattle.dt_aggstore.specs.declared.key.KeyPart.{KeyPart}
use Rattle.dt_aggstore.specs.declared.key.KeyPart.TheVariants as part
use Rattle.dt_aggstore.specs.declared.part_share.PartShare.{PartShare}
use Rattle.dt_aggstore.specs.declared.part_share.PartShare.TheVariants.{Nothing, Number, Text}
use Rattle.dt_aggstore.specs.declared.share_cell.ShareCell.{ShareCell}
use Rattle.dt_aggstore.specs.declared.share_cell.ShareCell.TheVariants.{Word, Words}

-- the part that a place has
abbrev pub part_told : PartShare → Option KeyPart
part_told Nothing = None
part_told (Number number) = Some (part.Number number)
part_told (Text text) = Some (part.Text text.now)

-- the parts before the first place that has none
abbrev pub parts_before_none : List (Option KeyPart) → List KeyPart
parts_before_none [] = []
parts_before_none (None ∷ later) = []
parts_before_none (Some a ∷ later) = a ∷ parts_before_none later

-- the key whose parts these places have
abbrev pub parts_told : List PartShare → List KeyPart
parts_told places = parts_before_none (map part_told places)

-- the words that a share holds, one by value or all by reference
abbrev pub words_held : ShareCell → List ℕ
words_held (Word words) = words
words_held (Words words) = words.now

-- what a share holds: a key, and the cell that one store has of it
pub record ShareForm : Type 0 where
  pub key : List KeyPart
  pub cell : List ℕ

-- the share whose parts these places have, with this cell
abbrev pub share_told : List PartShare → ShareCell → ShareForm
share_told places cell = record { key = parts_told places; cell = words_held cell }
