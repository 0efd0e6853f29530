-- Stores after what takings gave them.
use Rattle.std.specs.Prelude.{◌≤◌, ℕ, List, ◌++◌, IfSome}
use Rattle.std.specs.Prelude.{slice_get}
use Rattle.dt_aggstore.specs.History as store
use Rattle.dt_aggstore.specs.IsAt.{IsAt, added_of}
use Rattle.dt_aggstore.specs.declared.store.AggStore.{AggStore}

-- the past of a store, and then these
abbrev pub given_then : store.Past → List store.Event → store.Past
given_then past events = record { size = past.size; events = past.events ++ events }

-- Each store is at the end of its past.
abbrev pub AreGiven : (ℕ → store.Past) → List AggStore → Type 0
AreGiven pasts stores = (cpu : ℕ) → IfSome (slice_get stores cpu) (IsAt (pasts cpu))

-- A store counts at most so many contributions.
abbrev pub GivenAtMost : ℕ → AggStore → Type 0
GivenAtMost n store = added_of store ≤ n
