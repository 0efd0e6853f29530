-- Bytes as a terminal is shown them.
use Rattle.std.specs.Prelude.{◌≡◌, ◌<◌, ◌⊎◌, ℕ, ◌+◌, ◌-◌, ◌/◌, ◌%◌, ◌≤◌, ◌==◌, ◌&&◌, nat_le, Bool, List, [], ◌∷◌, if◌then◌else◌, All}
use Rattle.std.specs.List.{flat_map}
use Rattle.dt_names.specs.Bytes.{newline, space, zero_digit, backslash, small_a, small_x, tilde}

-- A byte that a terminal can only show: no control byte, and none of another character set.
abbrev pub IsPlain : ℕ → Type 0
IsPlain byte = (space ≤ byte) × (byte ≤ tilde)

-- bytes, of a name, a text or a key
abbrev pub AreBytes : List ℕ → Type 0
AreBytes bytes = All (λ byte. byte < 256) bytes

-- bytes that a terminal can only show
abbrev pub ArePlain : List ℕ → Type 0
ArePlain bytes = All IsPlain bytes

-- lines of them
abbrev pub IsPlainOrNewline : ℕ → Type 0
IsPlainOrNewline byte = IsPlain byte ⊎ (byte ≡ newline)

abbrev pub ArePlainLines : List ℕ → Type 0
ArePlainLines bytes = All IsPlainOrNewline bytes

abbrev pub is_plain_byte : ℕ → Bool
is_plain_byte byte = nat_le space byte && nat_le byte tilde

-- a digit to the base of sixteen, in lower case
abbrev pub hex_digit : ℕ → ℕ
hex_digit n = if nat_le n 9 then zero_digit + n else small_a - 10 + n

-- What is shown for a byte: itself where it is plain; `\\` for a backslash, so that an escape is never taken for the text itself; and
-- else `\x` and two digits.
abbrev pub shown_byte : ℕ → List ℕ
shown_byte byte =
    if byte == backslash then backslash ∷ backslash ∷ []
    else if is_plain_byte byte then byte ∷ []
    else backslash ∷ small_x ∷ hex_digit (byte / 16) ∷ hex_digit (byte % 16) ∷ []

-- what is shown for bytes: what is shown for each, in order
abbrev pub shown : List ℕ → List ℕ
shown bytes = flat_map shown_byte bytes
