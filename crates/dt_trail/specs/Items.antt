-- Items as lists: what an item is, whose it is, and the word that stands for it.
use Rattle.std.specs.Prelude.{◌≡◌, ◌<◌, ◌^◌, ℕ, zero, suc, ◌+◌, ◌*◌, ◌==◌, List, [], ◌∷◌, ◌++◌, length, filter, cond, nat_lt, slice_get, Some}
use Rattle.dt_trail.specs.Limits.{trail_cpus_max}

-- a line of the session, of these bytes or too long, or a firing by its processor and its place in that processor's script
pub data TrailItem : Type 0 where
  line : (bytes : List ℕ) → TrailItem
  long_line : TrailItem
  fired : (cpu place : ℕ) → TrailItem

-- the note whose the item is: 0 is the session's, and the processors' begin with 1
abbrev pub whose : TrailItem → ℕ
whose (line bytes) = 0
whose long_line = 0
whose (fired cpu place) = cpu + 1

-- an item that the program can have
abbrev pub IsReal : TrailItem → Type 0
IsReal (line bytes) = Unit {0}
IsReal long_line = Unit {0}
IsReal (fired cpu place) = (cpu < trail_cpus_max) × (place < 2 ^ 32)

-- the word of a cell that stands for the item. Of a line it says only that it is one. The word of an empty cell is 0
abbrev pub code : TrailItem → ℕ
code (line bytes) = 1
code long_line = 1
code (fired cpu place) = 2 + cpu * 4294967296 + place

abbrev pub AllReal : List TrailItem → Type 0
AllReal [] = Unit {0}
AllReal (x ∷ xs) = IsReal x × AllReal xs

-- the items of one note, in order
abbrev pub own : ℕ → List TrailItem → List TrailItem
own note row = filter (λ x. whose x == note) row

-- the word at a place of the row: 0 behind its end
abbrev pub code_at : List TrailItem → ℕ → ℕ
code_at [] k = 0
code_at (x ∷ xs) zero = code x
code_at (x ∷ xs) (suc k) = code_at xs k

-- the word stands for the item at this place
abbrev pub IsWordAt : List TrailItem → ℕ → ℕ → Type 0
IsWordAt items k word = (item : TrailItem) × (slice_get items k ≡ Some item) × IsReal item × (word ≡ code item)

-- the list begins with what was seen
abbrev pub StartsWith : List TrailItem → List TrailItem → Type 0
StartsWith row seen = (rest : List TrailItem) × (row ≡ seen ++ rest)

-- the longer of two lists
abbrev pub longer : {A : Type 0} → List A → List A → List A
longer xs ys = cond (nat_lt (length xs) (length ys)) ys xs
