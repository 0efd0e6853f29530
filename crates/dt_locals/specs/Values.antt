-- What variables have after assignments of which some were kept.
use Rattle.std.specs.Prelude.{ℕ, ℤ, pos, Bool, not, cond, List, [], ◌∷◌, Option, None, Some, filter, zip, count_by}
use Rattle.std.specs.List.{list_any}
use Rattle.std.specs.Ordering.{int_eq}
use Rattle.dt_locals.specs.History.{Assignment, same_local}
use Rattle.dt_locals.specs.declared.variable.LocalVariable.{LocalVariable}

-- whether an assignment is one of a variable
abbrev pub assigns : LocalVariable → Assignment → Bool
assigns variable assignment = same_local assignment.variable variable

-- the last of assignments, each with whether it was kept
abbrev pub last_assignment : List (Assignment × Bool) → Option (Assignment × Bool)
last_assignment [] = None
last_assignment (place ∷ []) = Some place
last_assignment (place ∷ other ∷ later) = last_assignment (other ∷ later)

-- what the last assignment of a variable gives it: its value if it was kept, else 0; and 0 where there is none
abbrev pub given_by : Option (Assignment × Bool) → ℤ
given_by None = pos 0
given_by (Some place) = cond place.1 place.0.value (pos 0)

-- The value of a variable: that of its last assignment, if that was kept, else 0.
abbrev pub local_value : List Assignment → List Bool → LocalVariable → ℤ
local_value assignments chosen variable =
    given_by (last_assignment (filter (λ place. assigns variable place.0) (zip assignments chosen)))

-- the variables that were assigned, each once
abbrev pub assigned_locals : List Assignment → List LocalVariable
assigned_locals [] = []
assigned_locals (assignment ∷ later) =
    cond (list_any (assigns assignment.variable) later) (assigned_locals later)
    (assignment.variable ∷ assigned_locals later)

abbrev pub is_set : ℤ → Bool
is_set value = not (int_eq value (pos 0))

-- How many variables aren't 0.
abbrev pub set_count : List Assignment → List Bool → ℕ
set_count assignments chosen =
    count_by (λ variable. is_set (local_value assignments chosen variable)) (assigned_locals assignments)
