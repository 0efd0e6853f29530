-- What is read next of a text. Guide, Program Structure, and Types, Operators and Expressions.
use Rattle.std.specs.Prelude.{◌≡◌, ◌≢◌, ℕ, ◌+◌, ◌-◌, ◌<◌, ◌≤◌, ◌⊎◌, true, false, Result, Ok, Err, List, [], ◌∷◌, ◌++◌, length, drop, slice_index, pos}
use Rattle.std.specs.Char.{is_ascii_digit}
use Rattle.std.specs.List.{All, AllPass}
use Rattle.dt_expr.specs.Operators.{wrapped}
use Rattle.dt_program.specs.Description.{form_of_description, ReadsDescription}
use Rattle.dt_program.specs.declared.description.Description.{Description}
use Rattle.dt_program.specs.declared.description.DescriptionFault.{DescriptionFault}
use Rattle.dt_lang.specs.declared.fault.Limit.{Limit}
use Rattle.dt_lang.specs.declared.fault.Limit.TheVariants.{StringBytes, NameBytes}
use Rattle.dt_names.specs.Bytes.{quote, asterisk, slash, colon, at_sign}
use Rattle.dt_names.specs.Name.{IsNameByte}
use Rattle.dt_names.specs.Limits.{short_text_max}
use Rattle.dt_lang.specs.declared.lexer.Lexeme.{Lexeme}
use Rattle.dt_lang.specs.declared.lexer.Lexeme.TheVariants as lexeme
use Rattle.dt_lang.specs.declared.mode.LexerMode.{LexerMode}
use Rattle.dt_lang.specs.declared.mode.LexerMode.TheVariants.{Head, Predicate, Tail, Body}
use Rattle.dt_lang.specs.declared.piece.Piece.{Piece}
use Rattle.dt_lang.specs.declared.piece.Piece.TheVariants as piece
use Rattle.dt_lang.specs.declared.token.Sign.{Sign}
use Rattle.dt_lang.specs.declared.token.Sign.TheVariants as sign
use Rattle.dt_lang.specs.declared.token.Token.{Token}
use Rattle.dt_lang.specs.declared.token.Token.TheVariants as token
use Rattle.dt_lang.specs.Blanks.{SkipsBlanks}
use Rattle.dt_lang.specs.Class.{is_word_byte, is_string_byte}
use Rattle.dt_lang.specs.Number.{IsNumber}
use Rattle.dt_lang.specs.Spelling.{spelling}
use Rattle.dt_lang.specs.Word.{IsWord}

-- a letter or `_`, and then letters, digits and `_`
pub record IsIdentifier (bytes : List ℕ) : Type 0 where
  pub some : bytes ≢ []
  pub begins : is_ascii_digit (slice_index bytes 0) ≡ false
  pub all : AllPass is_word_byte bytes

-- a digit, and then letters, digits and `_`
pub record IsDigitRun (bytes : List ℕ) : Type 0 where
  pub some : bytes ≢ []
  pub begins : is_ascii_digit (slice_index bytes 0) ≡ true
  pub all : AllPass is_word_byte bytes

-- an aggregation's name, which may be empty
abbrev pub IsAggregationName : List ℕ → Type 0
IsAggregationName name = (name ≡ []) ⊎ IsIdentifier name

-- The bytes are this token of a predicate or a body.
abbrev pub IsBodyToken : List ℕ → Token → Type 0
IsBodyToken bytes (token.Word w) = IsIdentifier bytes × IsWord bytes w
IsBodyToken bytes (token.Number z) = (n : ℕ) × IsNumber bytes n × (z ≡ wrapped (pos n))
IsBodyToken bytes (token.String t) = (bytes ≡ quote ∷ (t ++ (quote ∷ []))) × AllPass is_string_byte t
    × (length t ≤ short_text_max)
IsBodyToken bytes (token.Aggregation name) = (bytes ≡ at_sign ∷ name) × IsAggregationName name × (length name ≤ short_text_max)
IsBodyToken bytes (token.Sign s) = bytes ≡ spelling s
IsBodyToken bytes (token.Description d) = ⊥

-- a `"` and bytes of a string, or a `@` and an identifier
abbrev pub BeginsLong : List ℕ → (inside : List ℕ) → Limit → Type 0
BeginsLong bytes inside StringBytes = (bytes ≡ quote ∷ inside) × AllPass is_string_byte inside
BeginsLong bytes inside NameBytes = (bytes ≡ at_sign ∷ inside) × IsIdentifier inside
BeginsLong bytes inside _ = ⊥

-- too many of these bytes for a token
pub record IsOverlong (bytes : List ℕ) (limit : Limit) : Type 0 where
  pub inside : List ℕ
  pub begins : BeginsLong bytes inside limit
  pub long : short_text_max < length inside

-- a comment's beginning, which where no blanks stand is one of a comment that isn't closed
abbrev pub OPENING : List ℕ
OPENING = slash ∷ asterisk ∷ []

-- What the bytes are in a predicate or a body. What begins with a digit is a number, or no token as a whole.
abbrev pub IsBodyPiece : List ℕ → Piece → Type 0
IsBodyPiece bytes (piece.Token t size) = IsBodyToken bytes t × (size ≡ length bytes)
IsBodyPiece bytes (piece.Overlong limit size) = IsOverlong bytes limit × (size ≡ length bytes)
IsBodyPiece bytes piece.Stray = (bytes ≡ OPENING) ⊎ (IsDigitRun bytes × ((n : ℕ) → IsNumber bytes n → ⊥))
IsBodyPiece bytes piece.End = ⊥

-- the signs of a head
abbrev pub IsHeadSign : Sign → Type 0
IsHeadSign sign.Comma = Unit {0}
IsHeadSign sign.Slash = Unit {0}
IsHeadSign sign.OpenBrace = Unit {0}
IsHeadSign _ = ⊥

-- a byte of a description: a name byte, or a colon between fields
abbrev pub IsDescriptionByte : ℕ → Type 0
IsDescriptionByte byte = IsNameByte byte ⊎ (byte ≡ colon)

-- how the bytes are read as a description
abbrev pub IsDescriptionToken : List ℕ → Result Description DescriptionFault → Type 0
IsDescriptionToken bytes (Ok d) = ReadsDescription bytes (Ok (form_of_description d))
IsDescriptionToken bytes (Err fault) = ReadsDescription bytes (Err fault)

-- The bytes are this token of a head: a description is read as it is, or as none for its first fault.
abbrev pub IsHeadToken : List ℕ → Token → Type 0
IsHeadToken bytes (token.Description d) = (bytes ≢ []) × All IsDescriptionByte bytes
    × IsDescriptionToken bytes d
IsHeadToken bytes (token.Sign s) = (bytes ≡ spelling s) × IsHeadSign s
IsHeadToken bytes _ = ⊥

-- What the bytes are in a head.
abbrev pub IsHeadPiece : List ℕ → Piece → Type 0
IsHeadPiece bytes (piece.Token t size) = IsHeadToken bytes t × (size ≡ length bytes)
IsHeadPiece bytes piece.Stray = bytes ≡ OPENING
IsHeadPiece bytes _ = ⊥

-- What the bytes are in this mode.
abbrev pub IsPiece : LexerMode → List ℕ → Piece → Type 0
IsPiece Head bytes found = IsHeadPiece bytes found
IsPiece Tail bytes found = IsHeadPiece bytes found
IsPiece (Predicate depth) bytes found = IsBodyPiece bytes found
IsPiece Body bytes found = IsBodyPiece bytes found

-- Of the fronts of the text that are a piece, the longest is this one.
pub record IsLongest (mode : LexerMode) (text : List ℕ) (found : Piece) : Type 0 where
  pub bytes : List ℕ
  pub rest : List ℕ
  pub cut : text ≡ bytes ++ rest
  pub is : IsPiece mode bytes found
  pub longest : (front behind : List ℕ) (other : Piece) → text ≡ front ++ behind → IsPiece mode front other
      → length front ≤ length bytes

-- no front of the text is a piece
abbrev pub HasNoPiece : LexerMode → List ℕ → Type 0
HasNoPiece mode text = (front behind : List ℕ) (other : Piece) → text ≡ front ++ behind → IsPiece mode front other → ⊥

-- What stands at the front of a text where no blanks stand: its longest piece. Where there is none, no token stands.
abbrev pub Stands : LexerMode → List ℕ → Piece → Type 0
Stands mode [] found = found ≡ piece.End
Stands mode (byte ∷ rest) found =
    IsLongest mode (byte ∷ rest) found ⊎ ((found ≡ piece.Stray) × HasNoPiece mode (byte ∷ rest))

-- a piece, as it stands at this place
abbrev pub placed : ℕ → Piece → Lexeme
placed at (piece.Token token size) = lexeme.Token at token (at + size)
placed at (piece.Overlong limit size) = lexeme.Overlong at limit (at + size)
placed at piece.Stray = lexeme.Stray at
placed at piece.End = lexeme.End at

-- What is read of the text from this byte on: what stands after the blanks. Its place is told by what is left there.
pub record Lexes (text : List ℕ) (mode : LexerMode) (from : ℕ) (lexeme : Lexeme) : Type 0 where
  pub rest : List ℕ
  pub skipped : SkipsBlanks (drop from text) rest
  pub found : Piece
  pub stands : Stands mode rest found
  pub lexeme_is : lexeme ≡ placed (length text - length rest) found

-- the lexeme lies between these places, and what has an end has a byte at least
abbrev pub LiesWithin : ℕ → Lexeme → ℕ → Type 0
LiesWithin from (lexeme.Token at token end) to = (from ≤ at) × (at < end) × (end ≤ to)
LiesWithin from (lexeme.Overlong at limit end) to = (from ≤ at) × (at < end) × (end ≤ to)
LiesWithin from (lexeme.Stray at) to = (from ≤ at) × (at ≤ to)
LiesWithin from (lexeme.End at) to = (from ≤ at) × (at ≤ to)
