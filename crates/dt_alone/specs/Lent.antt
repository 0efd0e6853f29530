-- Items as a text lends them.
use Rattle.std.specs.Prelude.{◌≡◌, ℕ, Bool, true, false, List, map}
use Rattle.std.specs.List.{flat_map, AllByRecursion}
use Rattle.dt_proto.specs.Trail.{WrittenItem, line_asked, long_asked, fired_at, item_text, IsWritable}
use Rattle.dt_alone.specs.declared.lent_item.LentItem.{LentItem}
use Rattle.dt_alone.specs.declared.lent_item.LentItem.TheVariants.{Line, Long, Fired}

abbrev pub form_of_lent : LentItem → WrittenItem
form_of_lent (Line line reply) = line_asked line.now reply.now
form_of_lent (Long reply) = long_asked reply.now
form_of_lent (Fired cpu place) = fired_at cpu place

-- An item of a firing has no reply.
abbrev pub has_reply : WrittenItem → Bool
has_reply (fired_at cpu place) = false
has_reply _ = true

abbrev pub forms_of_lent : List LentItem → List WrittenItem
forms_of_lent items = map form_of_lent items

-- The text is that of these items, one after the other.
pub record AreWrittenItems (text : List ℕ) (items : List WrittenItem) : Type 0 where
  pub spelled : text ≡ flat_map item_text items
  pub writable : AllByRecursion IsWritable items
