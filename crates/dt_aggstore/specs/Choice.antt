-- Which contributions a store keeps. Guide, Aggregations (the buffer of aggregations and its drops).
use Rattle.std.specs.Prelude.{◌≡◌, ℕ, ◌+◌, ◌≤◌, ◌⊎◌, ◌↔◌, ℤ, Bool, false, List, IsTrue, Some, length, take, slice_get, slice_index_or, Contains}
use Rattle.dt_aggstore.specs.History.{Event, given, truncated, Past, after}
use Rattle.dt_aggstore.specs.Keys.{entry_cost, cost_of}
use Rattle.dt_aggstore.specs.Held.{entry_of, held_after}
use Rattle.dt_aggstore.specs.declared.key.Aggregation.{Aggregation}
use Rattle.dt_aggstore.specs.declared.key.KeyPart.{KeyPart}

-- A store of this size keeps an event after some, of which some were kept: it is a contribution whose entry is held
-- there, or whose entry's cost and the costs of all entries held there add up to at most the size.
abbrev pub IsKept : ℕ → List Event → List Bool → Event → Type 0
IsKept size events chosen (given aggregation key value) =
    Contains (held_after events chosen) (entry_of aggregation key)
    ⊎ (entry_cost aggregation key + cost_of (held_after events chosen) ≤ size)
IsKept size events chosen (truncated aggregation) = ⊥

-- The one choice in which a place is chosen exactly where its event is kept after the chosen ones before it.
pub record IsChoice (past : Past) (chosen : List Bool) : Type 0 where
  pub whole : length chosen ≡ length past.events
  pub exactly : (i : ℕ) (event : Event) → slice_get past.events i ≡ Some event →
      (IsTrue (slice_index_or chosen i false) ↔ IsKept past.size (take i past.events) (take i chosen) event)

-- After a past, a store keeps this contribution: it is the last of them, and chosen.
pub record KeepsContribution (past : Past) (aggregation : Aggregation) (key : List KeyPart) (value : ℤ) : Type 0 where
  pub chosen : List Bool
  pub choice : IsChoice (after past (given aggregation key value)) chosen
  pub last : IsTrue (slice_index_or chosen (length past.events) false)
