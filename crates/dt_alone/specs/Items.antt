-- What reaches a consumer that traces alone.
use Rattle.std.specs.Prelude.{List, map, reverse}
use Rattle.dt_proto.specs.Alone.{Reached, own_line, firing_made}
use Rattle.dt_proto.specs.Asked.{form_asked}
use Rattle.dt_alone.specs.declared.item.Item.{Item}
use Rattle.dt_alone.specs.declared.item.Item.TheVariants.{Line, Firing}

abbrev pub form_of_item : Item → Reached
form_of_item (Line line) = own_line (form_asked line)
form_of_item (Firing firing) = firing_made firing

-- the view that items are, which has the newest first
abbrev pub view_of : List Item → List Reached
view_of items = reverse (map form_of_item items)
