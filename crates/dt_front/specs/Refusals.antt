-- Why a line was refused, and the program's text with a caret under the byte that is wrong.
use Rattle.std.specs.Prelude.{ℕ, zero, suc, ◌-◌, ◌*◌, ◌/◌, ◌%◌, ◌==◌, Bool, List, [], ◌++◌, if◌then◌else◌, codes, drop, take, length, reverse, Option, option_map}
use Rattle.std.specs.List.{position_or_len}
use Rattle.serde_json.specs.Data.{Data}
use Rattle.dt_names.specs.Bytes.{newline}
use Rattle.dt_front.specs.Columns.{blanks}
use Rattle.dt_front.specs.Parts.{before_byte}
use Rattle.dt_front.specs.Escaping.{shown}
use Rattle.dt_front.specs.Replies.{told_number, told_text}

-- a refusal: its number, and what else is told of it
pub record RefusalForm : Type 0 where
  pub number : ℕ
  pub at : Option ℕ
  pub clause : Option ℕ
  pub why : Option (List ℕ)
  pub what : Option (List ℕ)

-- the refusal that a reply is, if it is one: a reply with the field `error`
abbrev pub refusal_in : Data → Option RefusalForm
refusal_in d = option_map (λ number. record {
  number = number;
  at = told_number (codes "at") d;
  clause = told_number (codes "clause") d;
  why = told_text (codes "why") d;
  what = told_text (codes "what") d;
}) (told_number (codes "error") d)

abbrev pub ends_line : ℕ → Bool
ends_line byte = byte == newline

-- of bytes, how many come after the last newline
abbrev pub tail_length : List ℕ → ℕ
tail_length bytes = position_or_len ends_line (reverse bytes)

-- of a text and a place, what stands on the place's line before it, and what stands there from it on
abbrev pub before_place : List ℕ → ℕ → List ℕ
before_place text at = drop (length (take at text) - tail_length (take at text)) (take at text)

abbrev pub from_place : List ℕ → ℕ → List ℕ
from_place text at = before_byte newline (drop at text)

-- on a page of this width, the column of a place, from 0 on, on whose line so many columns are before it; and how many its row has from there on
abbrev pub caret_column : ℕ → ℕ → ℕ
caret_column page columns = columns % page

abbrev pub columns_left : ℕ → ℕ → ℕ
columns_left page columns = page - columns % page

-- a line, where it isn't empty
abbrev pub rest_line : List ℕ → List ℕ
rest_line bytes = if length bytes == 0 then [] else bytes ++ codes "\n"

-- the first rows of a text on a page of this width, each with its newline
abbrev pub full_rows : ℕ → List ℕ → ℕ → List ℕ
full_rows page text zero = []
full_rows page text (suc row) = full_rows page text row ++ take page (drop (row * page) text) ++ codes "\n"

-- A text in rows of a page of this width. A newline ends each full one, and what is left of the text stands after the last of them: nothing, where it fills its rows.
abbrev pub in_rows : ℕ → List ℕ → List ℕ
in_rows page text = full_rows page text (length text / page) ++ drop (length text / page * page) text

-- A line as a page of this width shows it, and a caret in the column of a place and below the row that has it. What comes before the place and from it on
-- is given; what has no room in that row comes below the caret. Each full row before the place ends with a newline of its own: so the caret is below its byte on
-- a wider terminal too, and below an empty row where nothing comes from the place on and what is before it fills its rows.
abbrev pub marked_line : ℕ → List ℕ → List ℕ → List ℕ
marked_line page before from =
    in_rows page before ++ take (columns_left page (length before)) from ++ codes "\n"
    ++ blanks (caret_column page (length before)) ++ codes "^\n"
    ++ rest_line (drop (columns_left page (length before)) from)

-- The line of a place as a terminal is shown it, after four blanks, and a caret under the place's byte.
abbrev pub caret_text : ℕ → List ℕ → ℕ → List ℕ
caret_text page text at = marked_line page (codes "    " ++ shown (before_place text at)) (shown (from_place text at))
