-- Which assignments are kept. Guide, Options and Tunables (dynvarsize) and Thread-Local Variables (dynamic variable drops).
use Rattle.std.specs.Prelude.{◌≡◌, ◌≢◌, ℕ, ◌+◌, ◌*◌, ◌≤◌, ◌⊎◌, ◌↔◌, pos, Bool, false, List, IsTrue, Some, length, take, slice_get, slice_index_or}
use Rattle.dt_locals.specs.Limits.{local_size}
use Rattle.dt_locals.specs.History.{Assignment, LocalsPast}
use Rattle.dt_locals.specs.Values.{local_value, set_count}

-- With this room, an assignment after some, of which some were kept, is kept: its value is 0, or its variable isn't 0 then, or
-- it fits with all variables that aren't 0 then.
abbrev pub IsKeptAssignment : ℕ → List Assignment → List Bool → Assignment → Type 0
IsKeptAssignment dynvarsize assignments chosen assignment =
    (assignment.value ≡ pos 0)
    ⊎ ((local_value assignments chosen assignment.variable ≢ pos 0)
    ⊎ (local_size * (set_count assignments chosen + 1) ≤ dynvarsize))

-- The one choice in which a place is chosen exactly where its assignment is kept after the chosen ones before it.
pub record IsLocalsChoice (past : LocalsPast) (chosen : List Bool) : Type 0 where
  pub whole : length chosen ≡ length past.assignments
  pub exactly : (i : ℕ) (assignment : Assignment) → slice_get past.assignments i ≡ Some assignment →
      (IsTrue (slice_index_or chosen i false)
      ↔ IsKeptAssignment past.dynvarsize (take i past.assignments) (take i chosen) assignment)
