-- Which of the attempted records a switch buffer keeps. Guide, Buffers and Buffering (switch policy).
use Rattle.std.specs.Prelude.{◌≡◌, ℕ, ◌+◌, ◌-◌, ◌<◌, ◌≤◌, ◌↔◌, Bool, true, false, List, [], ◌∷◌, ◌++◌, IsTrue, length, take, slice_index_or}
use Rattle.std.specs.List.{concat}

-- the attempts that are chosen
abbrev pub chosen_of : List (List ℕ) → List Bool → List (List ℕ)
chosen_of [] chosen = []
chosen_of (attempt ∷ attempts) [] = []
chosen_of (attempt ∷ attempts) (true ∷ chosen) = attempt ∷ chosen_of attempts chosen
chosen_of (attempt ∷ attempts) (false ∷ chosen) = chosen_of attempts chosen

-- the bytes of the chosen ones, one after the other
abbrev pub chosen_bytes : List (List ℕ) → List Bool → List ℕ
chosen_bytes attempts chosen = concat (chosen_of attempts chosen)

-- The one choice in which a place is chosen exactly where its record fits after the chosen ones before it.
pub record IsFittingChoice (size : ℕ) (attempts : List (List ℕ)) (chosen : List Bool) : Type 0 where
  pub whole : length chosen ≡ length attempts
  pub exactly : (i : ℕ) → i < length attempts →
      IsTrue (slice_index_or chosen i false)
      ↔ (length (chosen_bytes (take i attempts) (take i chosen)) + length (slice_index_or attempts i []) ≤ size)

-- What a switch buffer holds of the records attempted since the last swap, and how many of them it dropped: as many as
-- are not chosen.
pub record ShowsSwitch (size : ℕ) (attempts : List (List ℕ)) (bytes : List ℕ) (drops : ℕ) : Type 0 where
  pub chosen : List Bool
  pub choice : IsFittingChoice size attempts chosen
  pub kept : bytes ≡ chosen_bytes attempts chosen
  pub dropped : drops ≡ length attempts - length (chosen_of attempts chosen)

-- A switch buffer keeps a record after some attempts: it is the last of them, and chosen.
pub record KeepsSwitch (size : ℕ) (attempts : List (List ℕ)) (bytes : List ℕ) : Type 0 where
  pub chosen : List Bool
  pub choice : IsFittingChoice size (attempts ++ bytes ∷ []) chosen
  pub last : IsTrue (slice_index_or chosen (length attempts) false)
