-- What has come to a store of aggregations.
use Rattle.std.specs.Prelude.{ℕ, ◌+◌, ℤ, List, [], ◌∷◌, ◌++◌}
use Rattle.dt_aggstore.specs.declared.key.Aggregation.{Aggregation}
use Rattle.dt_aggstore.specs.declared.key.KeyPart.{KeyPart}

-- What comes to a store: a contribution, which gives a value to a key of an aggregation, or an aggregation is
-- truncated.
pub data Event : Type 0 where
  given : (aggregation : Aggregation) → (key : List KeyPart) → (value : ℤ) → Event
  truncated : (aggregation : Aggregation) → Event

-- A store's past: for how many bytes it was made, and what came to it since, the oldest first.
pub record Past : Type 0 where
  pub size : ℕ
  pub events : List Event

-- the past of a new store
abbrev pub new_past : ℕ → Past
new_past size = record { size = size; events = [] }

-- the past, one event longer
abbrev pub after : Past → Event → Past
after past event = record { size = past.size; events = past.events ++ event ∷ [] }

-- how many contributions there are
abbrev pub contribution_count : List Event → ℕ
contribution_count [] = 0
contribution_count (given aggregation key value ∷ later) = 1 + contribution_count later
contribution_count (truncated aggregation ∷ later) = contribution_count later
