-- The life of a view, and what a session has seen of its view.
use Rattle.std.specs.Prelude.{List, [], ◌∷◌, if◌then◌else◌}
use Rattle.dt_cred.specs.declared.account.Account.{Account}
use Rattle.dt_machine.specs.Registry.{Registry}
use Rattle.dt_life.specs.Acceptance.{after_line}
use Rattle.dt_life.specs.Life.{Item, fired}
use Rattle.dt_proto.specs.Alone.{Reached, own_line, firing_made}
use Rattle.dt_proto.specs.Line.{ask_in}
use Rattle.dt_life.specs.Tests.{is_seen}

-- A view is what reached a session, the newest first.
module _ (account : Account) (registry : Registry) where
  -- The life of a view: without the firings that aren't seen, and the lines over the quota.
  abbrev pub life_of : List Reached → List Item
  life_of [] = []
  life_of (own_line line ∷ view) = after_line (life_of view) (ask_in line)
  life_of (firing_made firing ∷ view) =
      if is_seen account registry (life_of view) firing then fired firing ∷ life_of view else life_of view

  -- The seen view: without the firings that aren't seen at their place, and with all lines.
  abbrev pub seen_view : List Reached → List Reached
  seen_view [] = []
  seen_view (own_line line ∷ view) = own_line line ∷ seen_view view
  seen_view (firing_made firing ∷ view) =
      if is_seen account registry (life_of view) firing then firing_made firing ∷ seen_view view else seen_view view
