-- Views that a machine can bring to a consumer.
use Rattle.std.specs.Prelude.{◌≡◌, ℕ, ◌<◌, ◌≤◌, List, [], ◌∷◌, Some, length}
use Rattle.std.specs.List.{AllByRecursion}
use Rattle.dt_machine.specs.Registry.{Contents, firing_at}
use Rattle.dt_proto.specs.Alone.{Reached, own_line, firing_made}
use Rattle.dt_proto.specs.Lines.{LineForm, short_line, long_line}
use Rattle.dt_proto.specs.Limits.{line_max}
use Rattle.dt_proto.specs.Splits.{HasNoNewline}

-- A line is in its form: more than 65,536 bytes would be long.
abbrev pub IsInForm : LineForm → Type 0
IsInForm (short_line bytes) = length bytes ≤ line_max
IsInForm long_line = Unit {0}

-- A firing of this processor that reached the consumer has a lower place than this one.
abbrev pub IsLower : (cpu place : ℕ) → Reached → Type 0
IsLower cpu place (own_line line) = Unit {0}
IsLower cpu place (firing_made earlier) = earlier.cpu ≡ cpu → earlier.place < place

-- Lines in their form, and firings of the machine's scripts, those of each processor at rising places: the newest first.
abbrev pub IsBrought : Contents → List Reached → Type 0
IsBrought contents [] = Unit {0}
IsBrought contents (own_line line ∷ view) = IsBrought contents view × IsInForm line
IsBrought contents (firing_made firing ∷ view) = IsBrought contents view
    × (firing_at contents.scripts firing.cpu firing.place ≡ Some firing)
    × AllByRecursion (IsLower firing.cpu firing.place) view

-- A line as it stands in an input has no newline.
abbrev pub IsOneLine : LineForm → Type 0
IsOneLine (short_line bytes) = HasNoNewline bytes
IsOneLine long_line = Unit {0}

-- the lines of a view have no newlines
abbrev pub HasOneLine : Reached → Type 0
HasOneLine (own_line line) = IsOneLine line
HasOneLine (firing_made firing) = Unit {0}

abbrev pub HasOnlyLines : List Reached → Type 0
HasOnlyLines view = AllByRecursion HasOneLine view
