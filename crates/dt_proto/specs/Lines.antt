-- The lines of an input, each with its form.
use Rattle.std.specs.Prelude.{ℕ, ◌+◌, ◌==◌, Bool, List, [], ◌∷◌, length, map, min, nat_lt, Contains, if◌then◌else◌}
use Rattle.std.specs.List.{slice_split, position_or_len}
use Rattle.dt_names.specs.Bytes.{newline}
use Rattle.dt_proto.specs.Limits.{line_max}

abbrev pub is_newline : ℕ → Bool
is_newline byte = byte == newline

abbrev pub HasNewline : List ℕ → Type 0
HasNewline text = Contains text newline

-- a line's form: its bytes without the newline, or that it is long
pub data LineForm : Type 0 where
  short_line : (bytes : List ℕ) → LineForm
  long_line : LineForm

-- a line of more than 65,536 bytes is long, whatever they are
abbrev pub line_form : List ℕ → LineForm
line_form bytes = if nat_lt line_max (length bytes) then long_line else short_line bytes

-- what stands between the newlines: one part more than there are newlines
abbrev pub parts_of : List ℕ → List (List ℕ)
parts_of input = slice_split is_newline input

abbrev pub all_but_last : List (List ℕ) → List (List ℕ)
all_but_last [] = []
all_but_last (part ∷ []) = []
all_but_last (part ∷ next ∷ parts) = part ∷ all_but_last (next ∷ parts)

abbrev pub last_of : List (List ℕ) → List ℕ
last_of [] = []
last_of (part ∷ []) = part
last_of (part ∷ next ∷ parts) = last_of (next ∷ parts)

-- the parts before each newline, each in its form
abbrev pub lines_of : List ℕ → List LineForm
lines_of input = map line_form (all_but_last (parts_of input))

-- what stands after the last newline, which is no line
abbrev pub rest_of : List ℕ → List ℕ
rest_of input = last_of (parts_of input)

-- how many bytes of a piece go to one line: up to and including the first newline, or all where there is none
abbrev pub taken_bytes : List ℕ → ℕ
taken_bytes piece = min (position_or_len is_newline piece + 1) (length piece)
