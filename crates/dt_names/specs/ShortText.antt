-- How a short text lies in memory.
use Rattle.std.specs.Prelude.{◌≡◌, ℕ, ◌-◌, ◌≤◌, ◌++◌, List, length, take, drop, replicate}
use Rattle.dt_names.specs.Limits.{short_text_max, padded_size}
use Rattle.std.proofs.Common.{arith}
use Rattle.std.proofs.lemmas.List.{take-append-drop, length-take-le}

-- As many cells as a record has room for, of which those from len on are zero.
pub record IsPadded (cells : List ℕ) (len : ℕ) : Type 0 where
  pub short : len ≤ short_text_max
  pub full : length cells ≡ padded_size
  pub zeros : drop len cells ≡ replicate (padded_size - len) 0

-- the text and its length give the cells back
pub length-shown : (cells : List ℕ) (len : ℕ) → IsPadded cells len → length (take len cells) ≡ len
length-shown cells len h = length-take-le len cells (omega arith)

pub cells-from_shown : (cells : List ℕ) (len : ℕ) → IsPadded cells len
    → take len cells ++ replicate (padded_size - length (take len cells)) 0 ≡ cells
cells-from_shown cells len h =
    rw (length-shown cells len h) (rw (← h.zeros) (take-append-drop len cells))
