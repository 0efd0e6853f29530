-- What has been assigned to thread-local variables. Guide, Thread-Local Variables.
use Rattle.std.specs.Prelude.{ℕ, ℤ, Bool, ◌&&◌, nat_eq, List, [], ◌∷◌, ◌++◌}
use Rattle.std.specs.Cmp.Lexicographic.{pointwise}
use Rattle.dt_locals.specs.declared.variable.LocalVariable.{LocalVariable}

-- An assignment gives a variable a value. A variable is that of a thread of a process, by its name.
pub record Assignment : Type 0 where
  pub variable : LocalVariable
  pub value : ℤ

-- The past of a consumer's variables: how many bytes of room they have, and the assignments since, the oldest first.
pub record LocalsPast : Type 0 where
  pub dynvarsize : ℕ
  pub assignments : List Assignment

-- the past of new variables
abbrev pub new_locals_past : ℕ → LocalsPast
new_locals_past dynvarsize = record { dynvarsize = dynvarsize; assignments = [] }

-- the past, some assignments longer
abbrev pub locals_then : LocalsPast → List Assignment → LocalsPast
locals_then past assignments = record { dynvarsize = past.dynvarsize; assignments = past.assignments ++ assignments }

-- the past, one assignment longer
abbrev pub locals_after : LocalsPast → Assignment → LocalsPast
locals_after past assignment = locals_then past (assignment ∷ [])

-- the variable of this name of a thread of a process
abbrev pub local_of : ℕ → ℕ → List ℕ → LocalVariable
local_of pid tid name = record { pid = pid; tid = tid; name = name }

-- an assignment of a value to the variable of this name of a thread of a process
abbrev pub assigned : ℕ → ℕ → List ℕ → ℤ → Assignment
assigned pid tid name value = record { variable = local_of pid tid name; value = value }

-- two variables are one where the process, the thread and the name are
abbrev pub same_local : LocalVariable → LocalVariable → Bool
same_local a b = nat_eq a.pid b.pid && nat_eq a.tid b.tid && pointwise nat_eq a.name b.name
