-- One row that a session and a processor share. Rows have the oldest item first.
use Rattle.std.specs.Prelude.{◌≡◌, ◌≢◌, ◌≤◌, ◌+◌, ◌++◌, ◌∷◌, ℕ, zero, suc, Bool, false, List, [], Some, fold, length, slice_get, if◌then◌else◌}
use Rattle.std.specs.Option.{option_map_or}
use Rattle.dt_cred.specs.declared.account.Account.{Account}
use Rattle.dt_legal.specs.Rows.{life_of_row}
use Rattle.dt_life.specs.Tests.{is_seen}
use Rattle.dt_machine.specs.Registry.{Contents, firing_at}
use Rattle.dt_trail.specs.Items.{TrailItem, line, long_line, fired, own}

-- a processor's firings at so many places of its script, from this one on
abbrev pub firings_from : (cpu place count : ℕ) → List TrailItem
firings_from cpu place zero = []
firings_from cpu place (suc count) = fired cpu place ∷ firings_from cpu (place + 1) count

module _ (account : Account) (contents : Contents) where
  -- The firing at this place of a processor's script is seen after the items of a row.
  abbrev pub is_seen_after : List TrailItem → (cpu place : ℕ) → Bool
  is_seen_after row cpu place =
      option_map_or (is_seen account contents.registry (life_of_row account contents row)) (firing_at contents.scripts cpu place) false

  -- what was seen, once an item more has come: each line, and a firing where it is seen after that
  abbrev pub seen_with : List TrailItem → TrailItem → List TrailItem
  seen_with seen (line bytes) = seen ++ line bytes ∷ []
  seen_with seen long_line = seen ++ long_line ∷ []
  seen_with seen (fired cpu place) = if is_seen_after seen cpu place then (seen ++ fired cpu place ∷ []) else seen

  -- a row without the firings that aren't seen where they stand
  abbrev pub seen_row : List TrailItem → List TrailItem
  seen_row row = fold seen_with [] row

  -- The firing at this place stands after so many of the items that are seen.
  abbrev pub StandsAfter : (cpu : ℕ) → List TrailItem → (place count : ℕ) → Type 0
  StandsAfter cpu row place count = (before : List TrailItem) × (after : List TrailItem)
      × (row ≡ before ++ fired cpu place ∷ after) × (count ≤ length (seen_row before))

  -- A row that a session and a processor share. It has each firing of the processor so far, once, in the order of its script, each after
  -- as many items of the trail as the processor knew when it fired, and lines and other firings as the trail has them. Without the firings that
  -- aren't seen where they stand it is the trail.
  pub record IsShared (cpu : ℕ) (trail : List TrailItem) (knew : List ℕ) (row : List TrailItem) : Type 0 where
    pub seen : seen_row row ≡ trail
    pub mine : own (cpu + 1) row ≡ firings_from cpu 0 (length knew)
    pub others : (note : ℕ) → note ≢ cpu + 1 → own note row ≡ own note trail
    pub after : (place count : ℕ) → slice_get knew place ≡ Some count → StandsAfter cpu row place count
