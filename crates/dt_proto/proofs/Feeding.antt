-- What bytes fed do to the lines and the rest.
use Rattle.std.proofs.Common.{◌≡◌, ◌≢◌, ℕ, ◌+◌, ◌<◌, false, true, List, [], ◌∷◌, ◌++◌, take, drop, length, map, sym, ap}
use Rattle.std.proofs.Common.{◌∙◌, inl, inr, ◌⊎◌, arith, append_assoc}
use Rattle.std.proofs.lemmas.List.{length-append, length-take, take_at}
use Rattle.std.proofs.lemmas.List.Elements.{All-append}
use Rattle.std.proofs.Math.Seq.{take-length}
use Rattle.dt_proto.specs.Lines.{LineForm, all_but_last, last_of, parts_of, line_form, lines_of, rest_of}
use Rattle.dt_proto.specs.Splits.{HasNoNewline, with_newline, IsCut}
use Rattle.dt_proto.specs.HasRead.{HasRead, is_whole, form_held}
use Rattle.dt_proto.specs.declared.lines.Lines.{Lines}
use Rattle.dt_proto.specs.laws.Parts.{lines-append, rest-append}
use Rattle.dt_proto.specs.laws.Splitting.{parts-none, parts-line, splits}

unmarked_behind : (input bytes : List ℕ) → HasNoNewline bytes → HasNoNewline (rest_of input ++ bytes)
unmarked_behind input bytes none = All-append (λ byte. byte ≢ 10) (rest_of input) bytes (splits input).last none

-- bytes without a newline
parts-more : (input bytes : List ℕ) → HasNoNewline bytes
    → parts_of (rest_of input ++ bytes) ≡ (rest_of input ++ bytes) ∷ []
parts-more input bytes none = parts-none (rest_of input ++ bytes) (unmarked_behind input bytes none)

pub lines-more : (input bytes : List ℕ) → HasNoNewline bytes → lines_of (input ++ bytes) ≡ lines_of input ++ []
lines-more input bytes none =
    lines-append input bytes
    ∙ ap (λ parts. lines_of input ++ map line_form (all_but_last parts)) (parts-more input bytes none)

pub rest-more : (input bytes : List ℕ) → HasNoNewline bytes → rest_of (input ++ bytes) ≡ rest_of input ++ bytes
rest-more input bytes none = rest-append input bytes ∙ ap last_of (parts-more input bytes none)

-- a line's end
parts-end : (input line : List ℕ) → HasNoNewline line
    → parts_of (rest_of input ++ with_newline line) ≡ (rest_of input ++ line) ∷ [] ∷ []
parts-end input line none =
    ap parts_of (sym (append_assoc (rest_of input) line (10 ∷ [])))
    ∙ parts-line (rest_of input ++ line) [] (unmarked_behind input line none)

pub lines-end : (input line : List ℕ) → HasNoNewline line
    → lines_of (input ++ with_newline line) ≡ lines_of input ++ line_form (rest_of input ++ line) ∷ []
lines-end input line none =
    lines-append input (with_newline line)
    ∙ ap (λ parts. lines_of input ++ map line_form (all_but_last parts)) (parts-end input line none)

pub rest-end : (input line : List ℕ) → HasNoNewline line → rest_of (input ++ with_newline line) ≡ []
rest-end input line none = rest-append input (with_newline line) ∙ ap last_of (parts-end input line none)

-- the bytes that a line takes of a piece with a newline
pub take-cut : (piece line rest : List ℕ) (at : ℕ) → at ≡ length line → IsCut piece line rest
    → take (at + 1) piece ≡ with_newline line
take-cut piece line rest at is cut =
    ap (take (at + 1)) (cut.whole ∙ sym (append_assoc line (10 ∷ []) rest))
    ∙ take_at (with_newline line) rest (at + 1) (length-append line (10 ∷ []) ∙ omega (arith, is))

-- where a line begins, the rest is held
pub begun : (input : List ℕ) (old now : Lines) → HasRead input old
    → ((is_whole old ≡ true) × (form_held now ≡ line_form [])) ⊎ ((is_whole old ≡ false) × (now ≡ old))
    → form_held now ≡ line_form (rest_of input)
begun input old now read (inl begins) =
    let ends = rw begins.0 at read in begins.1 ∙ ap line_form (sym ends.nothing_after)
begun input old now read (inr goes_on) =
    let holds = rw goes_on.0 at read in ap form_held goes_on.1 ∙ holds

-- a piece whose first newline stands here was fed, as far as that newline
pub fed_line : (input piece : List ℕ) (at : ℕ) (form : LineForm) → at < length piece
    → IsCut piece (take at piece) (drop (at + 1) piece) → form ≡ line_form (rest_of input ++ take at piece)
    → (lines_of (input ++ take (at + 1) piece) ≡ lines_of input ++ form ∷ [])
    × (rest_of (input ++ take (at + 1) piece) ≡ [])
fed_line input piece at form inside cut is =
    let taken : take (at + 1) piece ≡ with_newline (take at piece) =
    take-cut piece (take at piece) (drop (at + 1) piece) at (omega (arith, length-take at piece)) cut in (
      ap (λ bytes. lines_of (input ++ bytes)) taken ∙ lines-end input (take at piece) cut.first
          ∙ ap (λ (last : LineForm). lines_of input ++ last ∷ []) (sym is),
      ap (λ bytes. rest_of (input ++ bytes)) taken ∙ rest-end input (take at piece) cut.first,
    )

-- no line is whole, and the rest is held
pub still_read : (input : List ℕ) (now : Lines) → is_whole now ≡ false → form_held now ≡ line_form (rest_of input)
    → HasRead input now
still_read input now open_line holds = rw open_line holds

-- a piece without a newline was fed
pub fed_more : (input piece : List ℕ) (now : Lines) → HasNoNewline piece → is_whole now ≡ false
    → form_held now ≡ line_form (rest_of input ++ piece) → HasRead (input ++ take (length piece) piece) now
fed_more input piece now none open_line holds =
    rw (take-length piece)
    (still_read (input ++ piece) now open_line (holds ∙ ap line_form (sym (rest-more input piece none))))
