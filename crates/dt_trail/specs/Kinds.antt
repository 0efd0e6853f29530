-- What an item is, from how it is kept, how it is lent and what its cell shows.
use Rattle.std.specs.Prelude.{◌≡◌}
use Rattle.dt_trail.specs.Items.{TrailItem, line, long_line, fired, whose}
use Rattle.dt_trail.specs.declared.item.StoredItem.{StoredItem}
use Rattle.dt_trail.specs.declared.item.StoredItem.TheVariants as kept
use Rattle.dt_trail.specs.declared.item.ItemKind.{ItemKind}
use Rattle.dt_trail.specs.declared.item.ItemKind.TheVariants as lent
use Rattle.dt_trail.specs.declared.seen.Seen.{Seen}
use Rattle.dt_trail.specs.declared.seen.Seen.TheVariants as seen

abbrev pub item_of : StoredItem → TrailItem
item_of (kept.Line bytes) = line bytes.items
item_of kept.LongLine = long_line
item_of (kept.Fired cpu place) = fired cpu place

abbrev pub item_lent : ItemKind → TrailItem
item_lent (lent.Line bytes) = line bytes.now
item_lent lent.LongLine = long_line
item_lent (lent.Fired cpu place) = fired cpu place

-- the cell of the item shows this
abbrev pub ShowsItem : Seen → TrailItem → Type 0
ShowsItem seen.Line item = whose item ≡ 0
ShowsItem (seen.Fired cpu place) item = item ≡ fired cpu place
