-- Which identifiers are in use after some events, and what came since they were drawn. Guide, Speculative Tracing.
use Rattle.std.specs.Prelude.{ℕ, Bool, false, ◌&&◌, ◌||◌, ◌==◌, not, nat_lt, List, [], ◌∷◌, if◌then◌else◌}
use Rattle.dt_speculation.specs.History.{SpecEvent, draw, put_under, free}

-- whether a draw that answers so gives the identifier: 0 is none
abbrev pub gives : ℕ → ℕ → Bool
gives id answer = nat_lt 0 id && (answer == id)

-- whether some draw gives the identifier
abbrev pub is_given : ℕ → List SpecEvent → Bool
is_given id [] = false
is_given id (draw answer ∷ later) = gives id answer || is_given id later
is_given id (put_under other cpu bytes ∷ later) = is_given id later
is_given id (free other ∷ later) = is_given id later

-- whether the identifier is freed
abbrev pub is_freed : ℕ → List SpecEvent → Bool
is_freed id [] = false
is_freed id (draw answer ∷ later) = is_freed id later
is_freed id (put_under other cpu bytes ∷ later) = is_freed id later
is_freed id (free other ∷ later) = (other == id) || is_freed id later

-- what came after the last draw that gives the identifier, and nothing where none does
abbrev pub since_given : ℕ → List SpecEvent → List SpecEvent
since_given id [] = []
since_given id (draw answer ∷ later) =
    if is_given id later then since_given id later else (if gives id answer then later else [])
since_given id (put_under other cpu bytes ∷ later) = since_given id later
since_given id (free other ∷ later) = since_given id later

-- An identifier is in use: some draw gave it, and it wasn't freed since.
abbrev pub is_in_use : ℕ → List SpecEvent → Bool
is_in_use id events = is_given id events && not (is_freed id (since_given id events))

-- what came before the identifier is freed
abbrev pub until_freed : ℕ → List SpecEvent → List SpecEvent
until_freed id [] = []
until_freed id (draw answer ∷ later) = draw answer ∷ until_freed id later
until_freed id (put_under other cpu bytes ∷ later) = put_under other cpu bytes ∷ until_freed id later
until_freed id (free other ∷ later) = if other == id then [] else (free other ∷ until_freed id later)
