-- What a session knows at a place of its trail.
use Rattle.std.specs.Prelude.{◌≡◌, ℕ, List, Some, slice_get}
use Rattle.dt_seat.specs.declared.known_item.KnownItem.{KnownItem}
use Rattle.dt_seat.specs.declared.known_item.KnownItem.TheVariants as known
use Rattle.dt_trail.specs.Items.{TrailItem, fired, own}

-- The item at this place of the list is this: a line, which has this number among the lines, or this firing.
abbrev pub IsKnownAt : List TrailItem → ℕ → KnownItem → Type 0
IsKnownAt items k (known.Line number) = (item : TrailItem) × (slice_get items k ≡ Some item) × (slice_get (own 0 items) number ≡ Some item)
IsKnownAt items k (known.Fired cpu place) = slice_get items k ≡ Some (fired cpu place)
