-- Rows and pictures are plain lines.
use Rattle.std.proofs.Common.{ℕ, zero, suc, ◌-◌, ◌/◌, ◌%◌, ◌<◌, ◌^◌, ◌==◌, ◌||◌, ◌++◌, inl, Bool, List, [], ◌∷◌, Option, Some, None, replicate, length, refl, arith}
use Rattle.std.specs.Prelude.{IfSome, codes, decimal, drop, slice_get, take, reverse}
use Rattle.std.specs.Fmt.{signed_decimal}
use Rattle.std.specs.Int.{bytes_high_first, byte_at}
use Rattle.std.specs.List.{AllByRecursion, flat_map, position_or_len}
use Rattle.std.proofs.lemmas.List.Elements.{All-cons, All-nil, All-take}
use Rattle.dt_record.specs.Split.{RecordForm, RecordedForm, number, text, frames}
use Rattle.dt_names.specs.Bytes.{hyphen, at_sign}
use Rattle.dt_front.specs.Limits.{bar_min, label_width}
use Rattle.dt_front.specs.Columns.{at_right, blanks}
use Rattle.dt_front.specs.Escaping.{ArePlainLines, IsPlainOrNewline, hex_digit, shown}
use Rattle.dt_front.specs.Parts.{before_byte}
use Rattle.dt_front.specs.Picture.{PictureRowForm, bar, bar_columns, bar_width, bars_head, from_first, is_counted, picture, picture_head, row_line, shown_rows, total_of}
use Rattle.dt_front.specs.Printed.{IsPrintedProbe, IsPrintedRecord, IsPrintedRow, IsPrintedValue}
use Rattle.dt_front.specs.Records.{record_row, row_probe, rows_text}
use Rattle.dt_front.specs.Rows.{ProbeForm, frame_bytes, frame_line, hex_byte, name_width, recorded_text, row_columns, rows_head, values_text}
use Rattle.dt_front.proofs.Lines.{blank_lines, chosen, decimal_lines, each_is, flat_lines, glued, joined, repeated, right_lines, shown_lines, signed_lines, some_of, tested, plain_lines}
use Rattle.dt_front.proofs.Plain.{digit_plain}

pub head_lines : (page : ℕ) → ArePlainLines (rows_head page)
head_lines page =
    joined (codes "CPU     ID ") (at_right (name_width page) (codes "FUNCTION:NAME") ++ codes "\n") (tested (codes "CPU     ID ") refl)
    (joined (at_right (name_width page) (codes "FUNCTION:NAME")) (codes "\n") (right_lines (name_width page) (codes "FUNCTION:NAME") (tested (codes "FUNCTION:NAME") refl))
    (tested (codes "\n") refl))

hex_lines : (byte : ℕ) → byte < 256 → ArePlainLines (hex_byte byte)
hex_lines byte small =
    All-cons IsPlainOrNewline (hex_digit (byte / 16)) (hex_digit (byte % 16) ∷ []) (inl (digit_plain (byte / 16) (omega (arith, small))))
    (All-cons IsPlainOrNewline (hex_digit (byte % 16)) [] (inl (digit_plain (byte % 16) (omega arith))) (All-nil IsPlainOrNewline))

byte_small : (k n : ℕ) → byte_at k n < 256
byte_small zero n = omega arith
byte_small (suc k) n = omega arith

bytes_small : (k n : ℕ) → AllByRecursion (λ byte. ArePlainLines (hex_byte byte)) (bytes_high_first k n)
bytes_small zero n = tt
bytes_small (suc k) n = (hex_lines (byte_at k n) (byte_small k n), bytes_small k n)

frame_lines : (frame : ℕ) → ArePlainLines (frame_line frame)
unfolding frame_bytes
frame_lines frame =
    chosen ArePlainLines (frame == 0) [] (codes "\n              0x" ++ flat_map hex_byte (bytes_high_first 8 frame)) (All-nil IsPlainOrNewline)
    (joined (codes "\n              0x") (flat_map hex_byte (bytes_high_first 8 frame)) (tested (codes "\n              0x") refl)
    (flat_lines hex_byte (bytes_high_first 8 frame) (bytes_small 8 frame)))

all_frames : (list : List ℕ) → AllByRecursion (λ frame. ArePlainLines (frame_line frame)) list
all_frames [] = tt
all_frames (frame ∷ list) = (frame_lines frame, all_frames list)

value_lines : (value : RecordedForm) → IsPrintedValue value → ArePlainLines (recorded_text value)
value_lines (number z) is = joined (codes "  ") (signed_decimal z) (tested (codes "  ") refl) (signed_lines z is)
value_lines (text bytes) is =
    joined (codes "  ") (shown (before_byte 0 bytes)) (tested (codes "  ") refl)
    (shown_lines (before_byte 0 bytes) (All-take (λ byte. byte < 256) (position_or_len (λ b. b == 0) bytes) bytes is))
value_lines (frames list) is = flat_lines frame_line list (all_frames list)

values_lines : (r : RecordForm) → IsPrintedRecord r → ArePlainLines (values_text r)
values_lines r is =
    joined (flat_map recorded_text r.values) (codes "\n")
    (flat_lines recorded_text r.values (each_is IsPrintedValue (λ value. ArePlainLines (recorded_text value)) r.values value_lines is)) (tested (codes "\n") refl)

columns_lines : (page cpu : ℕ) (probe : ProbeForm) → cpu < 2 ^ 64 → IsPrintedProbe probe → ArePlainLines (row_columns page cpu probe)
columns_lines page cpu probe small is =
    let blank = tested (codes " ") refl in
    glued (at_right 3 (decimal cpu)) (codes " " ∷ at_right 6 (decimal probe.id) ∷ codes " " ∷ at_right (name_width page) (shown probe.name) ∷ [])
    (right_lines 3 (decimal cpu) (decimal_lines cpu small))
    (blank, (right_lines 6 (decimal probe.id) (decimal_lines probe.id is.0), (blank, (right_lines (name_width page) (shown probe.name) (shown_lines probe.name is.1), tt))))

record_lines : (page cpu : ℕ) (o : Option ProbeForm) (r : RecordForm) → cpu < 2 ^ 64 → IfSome o IsPrintedProbe → IsPrintedRecord r
    → ArePlainLines (record_row page cpu o r)
record_lines page cpu None r small probe is = values_lines r is
record_lines page cpu (Some probe') r small probe is =
    joined (row_columns page cpu probe') (values_text r) (columns_lines page cpu probe' small probe) (values_lines r is)

probe_is : (quiet : Bool) (probes : List ProbeForm) (epid : ℕ) → AllByRecursion IsPrintedProbe probes → IfSome (row_probe quiet probes epid) IsPrintedProbe
probe_is quiet probes epid each =
    chosen (λ o. IfSome o IsPrintedProbe) (quiet || (epid == 0)) None (slice_get probes (epid - 1)) tt (some_of IsPrintedProbe probes (epid - 1) each)

pub rows_lines : (page cpu : ℕ) (quiet : Bool) (probes : List ProbeForm) (records : List RecordForm) → cpu < 2 ^ 64
    → AllByRecursion IsPrintedProbe probes → AllByRecursion IsPrintedRecord records → ArePlainLines (rows_text page quiet cpu probes records)
rows_lines page cpu quiet probes records small each is =
    flat_lines (λ r. record_row page cpu (row_probe quiet probes r.epid) r) records
    (each_is IsPrintedRecord (λ r. ArePlainLines (record_row page cpu (row_probe quiet probes r.epid) r)) records
    (λ r. record_lines page cpu (row_probe quiet probes r.epid) r small (probe_is quiet probes r.epid each)) is)

bar_lines : (longest columns : ℕ) → ArePlainLines (bar longest columns)
bar_lines longest columns = joined _ (blanks (longest - columns)) (repeated columns at_sign (inl (omega arith, omega arith))) (blank_lines (longest - columns))

row_lines : (longest total : ℕ) (row : PictureRowForm) → IsPrintedRow row → ArePlainLines (row_line longest total row)
row_lines longest total row is =
    let columns = bar_columns longest row.count total in
    glued (at_right label_width row.label) (codes " |" ∷ bar longest columns ∷ codes " " ∷ decimal row.count ∷ codes "\n" ∷ [])
    (right_lines label_width row.label (plain_lines row.label is.0))
    (tested (codes " |") refl, (bar_lines longest columns, (tested (codes " ") refl, (decimal_lines row.count is.1, (tested (codes "\n") refl, tt)))))

picture_head_lines : (longest : ℕ) → ArePlainLines (picture_head longest)
picture_head_lines longest =
    let dash : IsPlainOrNewline hyphen = inl (omega arith, omega arith) in
    let before = replicate ((longest - bar_min) / 2) hyphen in
    let after = replicate (longest - bar_min - (longest - bar_min) / 2) hyphen in
    let head : ArePlainLines (bars_head longest) =
    glued before (codes " Distribution " ∷ after ∷ []) (repeated ((longest - bar_min) / 2) hyphen dash)
    (tested (codes " Distribution ") refl, (repeated (longest - bar_min - (longest - bar_min) / 2) hyphen dash, tt)) in
    glued (codes "           value  ") (bars_head longest ∷ codes " count\n" ∷ []) (tested (codes "           value  ") refl)
    (head, (tested (codes " count\n") refl, tt))

kept_drop : {X : Type 0} (P : X → Type 0) (n : ℕ) (xs : List X) → AllByRecursion P xs → AllByRecursion P (drop n xs)
kept_drop P zero xs each = each
kept_drop P (suc n) [] each = tt
kept_drop P (suc n) (x ∷ xs) each = kept_drop P n xs each.1

kept_take : {X : Type 0} (P : X → Type 0) (n : ℕ) (xs : List X) → AllByRecursion P xs → AllByRecursion P (take n xs)
kept_take P zero xs each = tt
kept_take P (suc n) [] each = tt
kept_take P (suc n) (x ∷ xs) each = (each.0, kept_take P n xs each.1)

shown_printed : (rows : List PictureRowForm) → AllByRecursion IsPrintedRow rows → AllByRecursion IsPrintedRow (shown_rows rows)
shown_printed rows each =
    kept_take IsPrintedRow (length (from_first rows) - (position_or_len is_counted (reverse (from_first rows)) - 1)) (from_first rows)
    (kept_drop IsPrintedRow (position_or_len is_counted rows - 1) rows each)

pub picture_lines : (page : ℕ) (rows : List PictureRowForm) → AllByRecursion IsPrintedRow rows → ArePlainLines (picture page rows)
picture_lines page rows each =
    joined (picture_head (bar_width page)) _ (picture_head_lines (bar_width page))
    (flat_lines (row_line (bar_width page) (total_of rows)) (shown_rows rows)
    (each_is IsPrintedRow (λ row. ArePlainLines (row_line (bar_width page) (total_of rows) row)) (shown_rows rows) (row_lines (bar_width page) (total_of rows))
    (shown_printed rows each)))
