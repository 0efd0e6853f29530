-- Which rows a session's trail may have. A row has the oldest item first, and a life the newest.
use Rattle.std.specs.Prelude.{◌≡◌, ◌≢◌, ◌↔◌, ◌<◌, ◌≤◌, ◌+◌, ◌⊎◌, ℕ, Bool, false, List, [], map, reverse}
use Rattle.std.specs.List.{AllByRecursion}
use Rattle.dt_cred.specs.declared.account.Account.{Account}
use Rattle.dt_ecb.specs.Ecbs.{of_probe}
use Rattle.dt_machine.specs.Interest.{Names}
use Rattle.dt_machine.specs.Registry.{Contents}
use Rattle.dt_life.specs.Acceptance.{IsAcceptedGo}
use Rattle.dt_life.specs.Life.{Item, SetUp, ecbs, is_active, phase_of, seen_count, set_up}
use Rattle.dt_life.specs.Limits.{lines_max}
use Rattle.dt_proto.specs.Legal.{IsLegal, life_of_trail}
use Rattle.dt_proto.specs.Line.{ask_in}
use Rattle.dt_proto.specs.Lines.{LineForm, line_form}
use Rattle.dt_proto.specs.Lines.{long_line as long_form}
use Rattle.dt_proto.specs.Trail.{WrittenItem, line_asked, long_asked, fired_at}
use Rattle.dt_trail.specs.Items.{TrailItem, line, long_line, fired, own}

-- an item as a trail's text tells it, whatever was replied
abbrev pub told_as : TrailItem → WrittenItem
told_as (line bytes) = line_asked bytes []
told_as long_line = long_asked []
told_as (fired cpu place) = fired_at cpu place

-- the items of a row as a trail tells them, the newest first
abbrev pub past_of : List TrailItem → List WrittenItem
past_of row = reverse (map told_as row)

module _ (account : Account) (contents : Contents) where
  -- the life that a row tells
  abbrev pub life_of_row : List TrailItem → List Item
  life_of_row row = life_of_trail account contents (past_of row)

  -- The row is a legal trail: each line is within the quota; each firing stands in its processor's script, after those of that
  -- processor before it, and is seen.
  abbrev pub IsLegalRow : List TrailItem → Type 0
  IsLegalRow row = IsLegal account contents (past_of row)

  -- what the row has made of its consumer
  abbrev pub set_up_of : List TrailItem → SetUp
  set_up_of row = set_up account contents.registry (life_of_row row)

-- Cells suffice: for the quota of lines and the history, or, as long as nothing was seen and nothing is traced, for the lines alone.
abbrev pub Suffice : ℕ → SetUp → Type 0
Suffice cells s =
    (lines_max + s.options.histsize ≤ cells)
    ⊎ ((seen_count s.since ≡ 0) × (is_active (phase_of s) ≡ false) × (lines_max ≤ cells))

-- the form of a line's item
abbrev pub line_form_of : TrailItem → LineForm
line_form_of (line bytes) = line_form bytes
line_form_of long_line = long_form
line_form_of (fired cpu place) = long_form

-- The line is a `go` that is accepted after the items of the row.
abbrev pub IsGoAfter : Account → Contents → List TrailItem → TrailItem → Type 0
IsGoAfter account contents row item =
    IsAcceptedGo account contents.registry (life_of_row account contents row) (ask_in (line_form_of item))

-- These probes are exactly those that the ECBs name which the row's lines enabled.
abbrev pub AreOfEcbs : Account → Contents → List TrailItem → List Bool → Type 0
AreOfEcbs account contents row probes =
    (id : ℕ) → Names probes id ↔ (of_probe id (ecbs account contents.registry (life_of_row account contents row)) ≢ [])

-- an item of a processor stands at a lower place than this one
abbrev pub IsAtLowerPlace : (place : ℕ) → TrailItem → Type 0
IsAtLowerPlace place (fired cpu earlier) = earlier < place
IsAtLowerPlace place (line bytes) = Unit {0}
IsAtLowerPlace place long_line = Unit {0}

-- all firings of the processor in the row stand at lower places than this one
abbrev pub AreBelowPlace : (cpu place : ℕ) → List TrailItem → Type 0
AreBelowPlace cpu place row = AllByRecursion (IsAtLowerPlace place) (own (cpu + 1) row)
