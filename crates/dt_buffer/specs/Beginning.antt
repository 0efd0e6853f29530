-- Which records a fill buffer keeps: the longest beginning that fits. Guide, Buffers and Buffering (fill policy); that
-- the policy keeps room for END's records stands there too.
use Rattle.std.specs.Prelude.{◌≡◌, ℕ, ◌+◌, ◌-◌, ◌<◌, ◌≤◌, ◌⊎◌, ◌↔◌, Bool, List, [], ◌∷◌, ◌++◌, IsTrue, length, take}
use Rattle.std.specs.List.{concat}

-- how many bytes records have together
abbrev pub size_of : List (List ℕ) → ℕ
size_of records = length (concat records)

-- The longest beginning that adds up to at most the room has `count` records.
pub record IsLongestBeginning (room : ℕ) (records : List (List ℕ)) (count : ℕ) : Type 0 where
  pub within : count ≤ length records
  pub fits : size_of (take count records) ≤ room
  pub longest : (n : ℕ) → n ≤ length records → size_of (take n records) ≤ room → n ≤ count

-- What a fill buffer holds, and whether it is filled: the longest beginning of the ordinary records that adds up to at
-- most the size less the reserve, and after it the longest beginning of END's that still fits into the size. It is
-- filled where some record isn't kept.
pub record ShowsFill (size reserve : ℕ) (ordinary of_end : List (List ℕ)) (bytes : List ℕ) (filled : Bool) : Type 0 where
  pub first : ℕ
  pub last : ℕ
  pub ordinary_kept : IsLongestBeginning (size - reserve) ordinary first
  pub end_kept : IsLongestBeginning (size - size_of (take first ordinary)) of_end last
  pub kept : bytes ≡ concat (take first ordinary) ++ concat (take last of_end)
  pub is_filled : IsTrue filled ↔ ((first < length ordinary) ⊎ (last < length of_end))

-- A fill buffer keeps an ordinary record after some: the longest beginning has it too.
abbrev pub KeepsOrdinary : (size reserve : ℕ) → List (List ℕ) → List ℕ → Type 0
KeepsOrdinary size reserve ordinary bytes =
    IsLongestBeginning (size - reserve) (ordinary ++ bytes ∷ []) (length ordinary + 1)

-- It keeps a record of END after some: the longest beginning of END's, after the ordinary ones, has it too.
pub record KeepsOfEnd (size reserve : ℕ) (ordinary of_end : List (List ℕ)) (bytes : List ℕ) : Type 0 where
  pub first : ℕ
  pub ordinary_kept : IsLongestBeginning (size - reserve) ordinary first
  pub end_kept : IsLongestBeginning (size - size_of (take first ordinary)) (of_end ++ bytes ∷ []) (length of_end + 1)
