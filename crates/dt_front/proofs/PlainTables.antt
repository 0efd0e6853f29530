-- Tables are plain lines, and the rows of a function's picture have plain labels.
use Rattle.std.proofs.Common.{ℕ, ◌+◌, ◌<◌, ◌^◌, ◌==◌, List, [], ◌∷◌, ℤ, refl}
use Rattle.std.specs.Prelude.{FitsSigned, codes, decimal, nat_lt}
use Rattle.std.specs.Fmt.{signed_decimal}
use Rattle.std.specs.Int.{w64}
use Rattle.std.specs.List.{AllByRecursion, position_or_len}
use Rattle.std.proofs.lemmas.List.Elements.{All-drop, All-take}
use Rattle.dt_names.specs.Bytes.{colon}
use Rattle.dt_front.specs.Limits.{table_width}
use Rattle.dt_front.specs.Columns.{at_left, at_right}
use Rattle.dt_front.specs.Escaping.{AreBytes, ArePlainLines, shown}
use Rattle.dt_front.specs.Parts.{after_byte, before_byte}
use Rattle.dt_front.specs.Printed.{IsPrintedPart}
use Rattle.dt_front.specs.Probes.{narrow_head, narrow_line, probe_columns, probe_line, probe_names, probes_head, table_head, table_line}
use Rattle.dt_front.specs.Tables.{KeyForm, number, text, key_column, key_columns, number_line, table_title}
use Rattle.dt_front.proofs.Lines.{chosen, decimal_lines, each_is, flat_lines, glued, joined, left_lines, right_lines, shown_lines, signed_lines, tested}

before_is : (byte : ℕ) (bytes : List ℕ) → AreBytes bytes → AreBytes (before_byte byte bytes)
before_is byte bytes are = All-take (λ b. b < 256) (position_or_len (λ b. b == byte) bytes) bytes are

after_is : (byte : ℕ) (bytes : List ℕ) → AreBytes bytes → AreBytes (after_byte byte bytes)
after_is byte bytes are = All-drop (λ b. b < 256) (position_or_len (λ b. b == byte) bytes + 1) bytes are

pub table_head_lines : (page : ℕ) → ArePlainLines (table_head page)
table_head_lines page = chosen ArePlainLines (nat_lt page table_width) narrow_head probes_head (tested narrow_head refl) (tested probes_head refl)

-- a name at the right of a column
column_lines : (width : ℕ) (name : List ℕ) → AreBytes name → ArePlainLines (at_right width (shown name))
column_lines width name are = right_lines width (shown name) (shown_lines name are)

number_lines : (id : ℕ) → id < 2 ^ 64 → ArePlainLines (at_right 5 (decimal id))
number_lines id small = right_lines 5 (decimal id) (decimal_lines id small)

narrow_lines : (id : ℕ) (name : List ℕ) → id < 2 ^ 64 → AreBytes name → ArePlainLines (narrow_line id name)
narrow_lines id name small are =
    glued (at_right 5 (decimal id)) (codes " " ∷ shown name ∷ codes "\n" ∷ []) (number_lines id small)
    (tested (codes " ") refl, (shown_lines name are, (tested (codes "\n") refl, tt)))

probe_lines : (id : ℕ) (name : List ℕ) → id < 2 ^ 64 → AreBytes name → ArePlainLines (probe_line id name)
probe_lines id name small are =
    let after = after_byte colon name in
    let last = after_byte colon after in
    let after_are = after_is colon name are in
    let last_are = after_is colon after after_are in
    let blank = tested (codes " ") refl in
    let first : ArePlainLines (probe_columns id name) =
    glued (at_right 5 (decimal id)) (codes " " ∷ at_right 10 (shown (before_byte colon name)) ∷ codes " " ∷ at_right 17 (shown (before_byte colon after)) ∷ [])
    (number_lines id small)
    (blank, (column_lines 10 (before_byte colon name) (before_is colon name are), (blank, (column_lines 17 (before_byte colon after) (before_is colon after after_are), tt)))) in
    let second : ArePlainLines (probe_names last) =
    glued (codes " ") (at_right 33 (shown (before_byte colon last)) ∷ codes " " ∷ shown (after_byte colon last) ∷ codes "\n" ∷ []) blank (
      column_lines 33 (before_byte colon last) (before_is colon last last_are),
      (
        blank,
        (shown_lines (after_byte colon last) (after_is colon last last_are), (tested (codes "\n") refl, tt)),
      ),
    ) in
    joined (probe_columns id name) (probe_names last) first second

pub table_lines : (page id : ℕ) (name : List ℕ) → id < 2 ^ 64 → AreBytes name → ArePlainLines (table_line page id name)
table_lines page id name small are =
    chosen ArePlainLines (nat_lt page table_width) (narrow_line id name) (probe_line id name) (narrow_lines id name small are) (probe_lines id name small are)

pub title_lines : (name function : List ℕ) → AreBytes name → AreBytes function → ArePlainLines (table_title name function)
title_lines name function names functions =
    glued (codes "\n@") (shown name ∷ codes " = " ∷ shown function ∷ codes "()\n" ∷ []) (tested (codes "\n@") refl)
    (shown_lines name names, (tested (codes " = ") refl, (shown_lines function functions, (tested (codes "()\n") refl, tt))))

part_lines : (part : KeyForm) → IsPrintedPart part → ArePlainLines (key_column part)
part_lines (number z) is = joined (codes "  ") (at_right 10 (signed_decimal z)) (tested (codes "  ") refl) (right_lines 10 (signed_decimal z) (signed_lines z is))
part_lines (text bytes) is = joined (codes "  ") (at_left 20 (shown bytes)) (tested (codes "  ") refl) (left_lines 20 (shown bytes) (shown_lines bytes is))

pub key_lines : (key : List KeyForm) → AllByRecursion IsPrintedPart key → ArePlainLines (key_columns key)
key_lines key is = flat_lines key_column key (each_is IsPrintedPart (λ part. ArePlainLines (key_column part)) key part_lines is)

pub value_lines : (key : List KeyForm) (value : ℤ) → AllByRecursion IsPrintedPart key → FitsSigned w64 value → ArePlainLines (number_line key value)
value_lines key value is fits =
    glued (key_columns key) (codes "  " ∷ at_right 16 (signed_decimal value) ∷ codes "\n" ∷ []) (key_lines key is)
    (tested (codes "  ") refl, (right_lines 16 (signed_decimal value) (signed_lines value fits), (tested (codes "\n") refl, tt)))
