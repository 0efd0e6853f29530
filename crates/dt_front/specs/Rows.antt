-- Records as rows.
use Rattle.std.specs.Prelude.{ℕ, ◌-◌, max, min, ◌/◌, ◌%◌, ◌==◌, List, [], ◌∷◌, ◌++◌, codes, decimal, if◌then◌else◌}
use Rattle.std.specs.Fmt.{signed_decimal}
use Rattle.std.specs.List.{flat_map}
use Rattle.std.specs.Int.{bytes_high_first}
use Rattle.dt_record.specs.Split.{RecordedForm, RecordForm, number, text, frames}
use Rattle.dt_front.specs.Limits.{names_max, names_min, beside_names}
use Rattle.dt_front.specs.Columns.{at_right}
use Rattle.dt_front.specs.Parts.{before_byte}
use Rattle.dt_front.specs.Escaping.{hex_digit, shown}

-- a probe as a row names it: its identifier, and its function and name with a `:` between them
pub record ProbeForm : Type 0 where
  pub id : ℕ
  pub name : List ℕ

-- how many columns the names of probes have on a page of this width: 32, fewer where the page has fewer than 52, and never fewer than 20
abbrev pub name_width : ℕ → ℕ
name_width page = max names_min (min names_max (page - beside_names))

-- the head of all rows
abbrev pub rows_head : ℕ → List ℕ
rows_head page = codes "CPU     ID " ++ at_right (name_width page) (codes "FUNCTION:NAME") ++ codes "\n"

-- the columns of a row: its processor and its probe
abbrev pub row_columns : ℕ → ℕ → ProbeForm → List ℕ
row_columns page cpu probe =
    at_right 3 (decimal cpu) ++ codes " " ++ at_right 6 (decimal probe.id) ++ codes " " ++ at_right (name_width page) (shown probe.name)

-- a byte in two digits to the base of sixteen
abbrev pub hex_byte : ℕ → List ℕ
hex_byte byte = hex_digit (byte / 16) ∷ hex_digit (byte % 16) ∷ []

-- a frame's eight bytes, the highest first
unfoldable pub frame_bytes : ℕ → List ℕ
frame_bytes frame = bytes_high_first 8 frame

-- a frame's line; a frame that is 0 is missing, and has none
abbrev pub frame_line : ℕ → List ℕ
frame_line frame = if frame == 0 then [] else codes "\n              0x" ++ flat_map hex_byte (frame_bytes frame)

-- a value in a row: a number in decimal, a text without its zeros, a stack a frame a line
abbrev pub recorded_text : RecordedForm → List ℕ
recorded_text (number z) = codes "  " ++ signed_decimal z
recorded_text (text bytes) = codes "  " ++ shown (before_byte 0 bytes)
recorded_text (frames list) = flat_map frame_line list

-- A record's row. Without the column of probes only its values stand there.
abbrev pub values_text : RecordForm → List ℕ
values_text r = flat_map recorded_text r.values ++ codes "\n"

abbrev pub full_row : ℕ → ℕ → ProbeForm → RecordForm → List ℕ
full_row page cpu probe r = row_columns page cpu probe ++ values_text r
