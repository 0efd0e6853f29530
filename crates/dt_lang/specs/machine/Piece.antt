-- Private to the proofs.
-- How what stands at the front of a text is found, by its first byte.
use Rattle.std.specs.Prelude.{◌≡◌, ℕ, ◌+◌, ◌≤◌, Bool, ◌==◌, nat_lt, ◌&&◌, true, false, List, [], ◌∷◌, ◌++◌, length, drop, Result, slice_index, pos, if◌then◌else◌}
use Rattle.std.specs.List.{take_while}
use Rattle.std.specs.Char.{is_ascii_digit}
use Rattle.dt_expr.specs.Operators.{wrapped}
use Rattle.dt_program.specs.declared.description.Description.{Description}
use Rattle.dt_program.specs.declared.description.DescriptionFault.{DescriptionFault}
use Rattle.dt_lang.specs.declared.fault.Limit.TheVariants.{StringBytes, NameBytes}
use Rattle.dt_names.specs.Bytes.{quote, asterisk, comma, slash, at_sign, open_brace}
use Rattle.dt_names.specs.Limits.{short_text_max}
use Rattle.dt_lang.specs.declared.mode.LexerMode.{LexerMode}
use Rattle.dt_lang.specs.declared.mode.LexerMode.TheVariants.{Head, Predicate, Tail, Body}
use Rattle.dt_lang.specs.declared.piece.Piece.{Piece}
use Rattle.dt_lang.specs.declared.piece.Piece.TheVariants as piece
use Rattle.dt_lang.specs.declared.piece.Start.{Start}
use Rattle.dt_lang.specs.declared.piece.Start.TheVariants as start
use Rattle.dt_lang.specs.declared.token.Sign.{Sign}
use Rattle.dt_lang.specs.declared.token.Sign.TheVariants as sign
use Rattle.dt_lang.specs.declared.token.Token.TheVariants as token
use Rattle.dt_lang.specs.declared.word.Word.{Word}
use Rattle.dt_lang.specs.Class.{is_word_byte, is_string_byte, is_description_byte}
use Rattle.dt_lang.specs.Lexeme.{IsDescriptionToken}
use Rattle.dt_lang.specs.Number.{IsNumber}
use Rattle.dt_lang.specs.Spelling.{spelling}
use Rattle.dt_lang.specs.Word.{IsWord}

-- what the first byte of a piece in a body or a predicate says of it
abbrev pub start_of : ℕ → Start
start_of byte = if is_ascii_digit byte then start.Digit else (if is_word_byte byte then start.Letter
    else (if byte == quote then start.Quote else (if byte == at_sign then start.At else start.Other)))

-- the identifier at the front of the text, if one stands there: the longest run, which no digit begins
abbrev pub identifier_at : List ℕ → List ℕ
identifier_at text = if is_ascii_digit (slice_index text 0) then [] else take_while is_word_byte text

abbrev pub FindsWord : List ℕ → Piece → Type 0
FindsWord text found = (word : Word) × IsWord (identifier_at text) word
    × (found ≡ piece.Token (token.Word word) (length (identifier_at text)))

-- the longest run of letters, digits and `_` is a number or nothing
abbrev pub NumberOf : List ℕ → Piece → Type 0
NumberOf run (piece.Token t size) = (n : ℕ) × IsNumber run n × (t ≡ token.Number (wrapped (pos n)))
    × (size ≡ length run)
NumberOf run piece.Stray = (n : ℕ) → IsNumber run n → ⊥
NumberOf run _ = ⊥

-- a string after its opening `"`, whose bytes these are
abbrev pub string_piece : List ℕ → List ℕ → Piece
string_piece bytes rest = if nat_lt short_text_max (length bytes) then piece.Overlong StringBytes (length bytes + 1)
    else (if slice_index rest (length bytes) == quote then piece.Token (token.String bytes) (length bytes + 2)
    else piece.Stray)

-- an aggregation's name after its `@`
abbrev pub aggregation_read : List ℕ → Piece
aggregation_read name = if nat_lt short_text_max (length name) then piece.Overlong NameBytes (length name + 1)
    else piece.Token (token.Aggregation name) (length name + 1)

abbrev pub BeginsWith : List ℕ → List ℕ → Type 0
BeginsWith text front = (rest : List ℕ) × (text ≡ front ++ rest)

-- The text begins with this sign, and with no longer one.
pub record IsSignAt (text : List ℕ) (s : Sign) : Type 0 where
  pub begins : BeginsWith text (spelling s)
  pub longest : (other : Sign) → BeginsWith text (spelling other) → length (spelling other) ≤ length (spelling s)

-- the longest sign, or nothing
abbrev pub FindsSign : List ℕ → Piece → Type 0
FindsSign text (piece.Token t size) = (s : Sign) × IsSignAt text s × (t ≡ token.Sign s) × (size ≡ length (spelling s))
FindsSign text piece.Stray = (s : Sign) → BeginsWith text (spelling s) → ⊥
FindsSign text _ = ⊥

abbrev pub FindsAs : Start → List ℕ → Piece → Type 0
FindsAs start.Letter text found = FindsWord text found
FindsAs start.Digit text found = NumberOf (take_while is_word_byte text) found
FindsAs start.Quote text found = found ≡ string_piece (take_while is_string_byte (drop 1 text)) (drop 1 text)
FindsAs start.At text found = found ≡ aggregation_read (identifier_at (drop 1 text))
FindsAs start.Other text found = FindsSign text found

-- in a predicate or a body
abbrev pub FindsInBody : List ℕ → Piece → Type 0
FindsInBody text found = FindsAs (start_of (slice_index text 0)) text found

-- the signs of a head
abbrev pub head_sign : ℕ → Piece
head_sign byte = if byte == comma then piece.Token (token.Sign sign.Comma) 1
    else (if byte == slash then piece.Token (token.Sign sign.Slash) 1
    else (if byte == open_brace then piece.Token (token.Sign sign.OpenBrace) 1 else piece.Stray))

-- a run of bytes of a description is read as it is, or as none
abbrev pub FindsDescription : List ℕ → Piece → Type 0
FindsDescription run found = (d : Result Description DescriptionFault) × IsDescriptionToken run d
    × (found ≡ piece.Token (token.Description d) (length run))

abbrev pub FindsRun : List ℕ → List ℕ → Piece → Type 0
FindsRun [] text found = found ≡ head_sign (slice_index text 0)
FindsRun (byte ∷ run) text found = FindsDescription (byte ∷ run) found

-- in a head, the longest run of bytes of a description, or else a sign
abbrev pub FindsInHead : List ℕ → Piece → Type 0
FindsInHead text found = FindsRun (take_while is_description_byte text) text found

-- whether a comment begins at the front of a text
abbrev pub opens_comment : List ℕ → Bool
opens_comment text = slice_index text 0 == slash && slice_index text 1 == asterisk

abbrev pub FindsInMode : LexerMode → List ℕ → Piece → Type 0
FindsInMode Head text found = FindsInHead text found
FindsInMode Tail text found = FindsInHead text found
FindsInMode (Predicate depth) text found = FindsInBody text found
FindsInMode Body text found = FindsInBody text found

-- a comment that isn't closed is nothing
abbrev pub FindsUncommented : Bool → LexerMode → List ℕ → Piece → Type 0
FindsUncommented true mode text found = found ≡ piece.Stray
FindsUncommented false mode text found = FindsInMode mode text found

-- What stands at the front of a text, read in this mode, where no blanks stand there.
abbrev pub FindsPiece : LexerMode → List ℕ → Piece → Type 0
FindsPiece mode [] found = found ≡ piece.End
FindsPiece mode (byte ∷ rest) found = FindsUncommented (opens_comment (byte ∷ rest)) mode (byte ∷ rest) found
