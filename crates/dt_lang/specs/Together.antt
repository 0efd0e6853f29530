-- Which statements stand together in a clause. Guide, Speculative Tracing.
use Rattle.std.specs.Prelude.{◌≡◌, false, List, ◌∷◌, ◌++◌}
use Rattle.std.specs.List.{list_any}
use Rattle.dt_program.specs.Clause.{StatementForm}
use Rattle.dt_program.specs.Kinds.{statement_kind, excludes}

-- none of the statements excludes a later one
abbrev pub StandTogether : List StatementForm → Type 0
StandTogether statements = (front back : List StatementForm) (later : StatementForm) → statements ≡ front ++ (later ∷ back)
    → list_any (λ earlier. excludes (statement_kind earlier) (statement_kind later)) front ≡ false
