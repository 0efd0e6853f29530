-- Which contributions a store chooses, as a function of its past, and how many it drops.
use Rattle.std.specs.Prelude.{ℕ, ◌+◌, Bool, true, false, ◌&&◌, ◌||◌, not, nat_le, List, [], ◌∷◌, ◌++◌, length, take, zip, count_by}
use Rattle.std.specs.List.{fold, list_any}
use Rattle.dt_aggstore.specs.History.{Event, given, truncated, Past}
use Rattle.dt_aggstore.specs.Keys.{same_entry, entry_cost, cost_of}
use Rattle.dt_aggstore.specs.Held.{entry_of, held_after}

-- the test of `IsKept`
abbrev pub is_kept : ℕ → List Event → List Bool → Event → Bool
is_kept size events chosen (given aggregation key value) =
    list_any (λ other. same_entry other (entry_of aggregation key)) (held_after events chosen)
    || nat_le (entry_cost aggregation key + cost_of (held_after events chosen)) size
is_kept size events chosen (truncated aggregation) = false

-- the choice of a past: each event is chosen where it is kept after those before it, of which some were chosen
unfoldable pub choice_of : Past → List Bool
choice_of past =
    fold (λ chosen event. chosen ++ is_kept past.size (take (length chosen) past.events) chosen event ∷ []) []
    past.events

abbrev pub gives_value : Event → Bool
gives_value (given aggregation key value) = true
gives_value (truncated aggregation) = false

-- how many contributions of a past its choice doesn't choose
unfoldable pub drops : Past → ℕ
drops past = count_by (λ place. gives_value place.0 && not place.1) (zip past.events (choice_of past))
