-- Which records a ring buffer keeps: the longest end that fits. Guide, Buffers and Buffering (ring policy); that a record
-- longer than the buffer is dropped and overwrites nothing is this project's own.
use Rattle.std.specs.Prelude.{◌≡◌, ℕ, ◌<◌, ◌≤◌, List, [], ◌∷◌, ◌++◌, All, length, drop, filter, nat_le, nat_lt}
use Rattle.std.specs.List.{concat}
use Rattle.dt_buffer.specs.Beginning.{size_of}

-- The longest end that adds up to at most the room is what stands after the first `passed` records.
pub record IsLongestEnd (room : ℕ) (records : List (List ℕ)) (passed : ℕ) : Type 0 where
  pub within : passed ≤ length records
  pub fits : size_of (drop passed records) ≤ room
  pub longest : (n : ℕ) → size_of (drop n records) ≤ room → passed ≤ n

-- the records that are not longer than a buffer
abbrev pub fitting : ℕ → List (List ℕ) → List (List ℕ)
fitting size records = filter (λ bytes. nat_le (length bytes) size) records

-- those that are longer
abbrev pub too_long : ℕ → List (List ℕ) → List (List ℕ)
too_long size records = filter (λ bytes. nat_lt size (length bytes)) records

-- What a ring buffer holds, and how many records it dropped: among those not longer than the size, the longest end that
-- adds up to at most the size. Those that are longer are dropped; those that were overwritten are not counted.
pub record ShowsRing (size : ℕ) (attempts : List (List ℕ)) (bytes : List ℕ) (drops : ℕ) : Type 0 where
  pub passed : ℕ
  pub newest : IsLongestEnd size (fitting size attempts) passed
  pub kept : bytes ≡ concat (drop passed (fitting size attempts))
  pub dropped : drops ≡ length (too_long size attempts)

-- the lengths of those records that have bytes
abbrev pub lengths_of : List (List ℕ) → List ℕ
lengths_of [] = []
lengths_of ([] ∷ records) = lengths_of records
lengths_of ((byte ∷ bytes) ∷ records) = length (byte ∷ bytes) ∷ lengths_of records

-- each of these lengths is this one
abbrev pub AreAllOf : List ℕ → ℕ → Type 0
AreAllOf lengths each = All (λ len. len ≡ each) lengths

-- The bytes of the records that a ring buffer holds, and the lengths of those that have bytes, the oldest first.
pub record HoldsRing (size : ℕ) (attempts : List (List ℕ)) (bytes lengths : List ℕ) : Type 0 where
  pub passed : ℕ
  pub newest : IsLongestEnd size (fitting size attempts) passed
  pub kept : bytes ≡ concat (drop passed (fitting size attempts))
  pub long : lengths ≡ lengths_of (drop passed (fitting size attempts))

-- A ring buffer keeps a record after some: it isn't longer than the size, and the longest end has it.
pub record KeepsRing (size : ℕ) (attempts : List (List ℕ)) (bytes : List ℕ) : Type 0 where
  pub short : length bytes ≤ size
  pub passed : ℕ
  pub newest : IsLongestEnd size (fitting size (attempts ++ bytes ∷ [])) passed
  pub last : passed < length (fitting size (attempts ++ bytes ∷ []))
