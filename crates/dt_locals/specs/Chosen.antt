-- Which assignments are kept, as a function of the past, and what that makes of variables and drops.
use Rattle.std.specs.Prelude.{ℕ, ◌+◌, ◌*◌, ℤ, pos, Bool, ◌||◌, not, nat_le, List, [], ◌∷◌, ◌++◌, length, take, count_by}
use Rattle.std.specs.List.{fold}
use Rattle.std.specs.Ordering.{int_eq}
use Rattle.dt_locals.specs.Limits.{local_size}
use Rattle.dt_locals.specs.History.{Assignment, LocalsPast}
use Rattle.dt_locals.specs.Values.{local_value, set_count, is_set}
use Rattle.dt_locals.specs.Kept.{IsKeptAssignment}
use Rattle.dt_locals.specs.declared.variable.LocalVariable.{LocalVariable}

-- the test of `IsKeptAssignment`
abbrev pub is_kept_assignment : ℕ → List Assignment → List Bool → Assignment → Bool
is_kept_assignment dynvarsize assignments chosen assignment =
    int_eq assignment.value (pos 0)
    || (is_set (local_value assignments chosen assignment.variable)
    || nat_le (local_size * (set_count assignments chosen + 1)) dynvarsize)

-- the choice of a past: each assignment is chosen where it is kept after those before it, of which some were chosen
unfoldable pub locals_choice : LocalsPast → List Bool
locals_choice past =
    fold (λ chosen assignment. chosen
    ++ is_kept_assignment past.dynvarsize (take (length chosen) past.assignments) chosen assignment ∷ [])
    [] past.assignments

-- After a past, this assignment is kept.
abbrev pub KeepsAssignment : LocalsPast → Assignment → Type 0
KeepsAssignment past = IsKeptAssignment past.dynvarsize past.assignments (locals_choice past)

-- the value of a variable after a past
unfoldable pub value_after : LocalsPast → LocalVariable → ℤ
value_after past variable = local_value past.assignments (locals_choice past) variable

-- how many assignments of a past aren't kept
unfoldable pub local_drops : LocalsPast → ℕ
local_drops past = count_by not (locals_choice past)
