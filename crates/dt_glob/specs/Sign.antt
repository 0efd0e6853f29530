-- The bytes of a pattern's text: a byte after a `\` is escaped, and any other byte is plain.
use Rattle.std.specs.Prelude.{◌≢◌, ℕ, List, [], ◌∷◌, ◌++◌}
use Rattle.dt_glob.specs.declared.sign.PatternSign.{PatternSign}
use Rattle.dt_glob.specs.declared.sign.PatternSign.TheVariants.{Plain, Escaped}

-- the byte that a sign stands for
abbrev pub byte_of : PatternSign → ℕ
byte_of (Plain byte) = byte
byte_of (Escaped byte) = byte

-- a `\`
abbrev pub escape : ℕ
escape = 92

-- how a sign is written
abbrev pub sign_text : PatternSign → List ℕ
sign_text (Plain byte) = byte ∷ []
sign_text (Escaped byte) = escape ∷ byte ∷ []

-- how signs are written, one after another
abbrev pub text_of_signs : List PatternSign → List ℕ
text_of_signs [] = []
text_of_signs (sign ∷ signs) = sign_text sign ++ text_of_signs signs

-- no `\` is plain
abbrev pub IsSign : PatternSign → Type 0
IsSign (Plain byte) = byte ≢ escape
IsSign (Escaped byte) = Unit {0}

abbrev pub AreSigns : List PatternSign → Type 0
AreSigns [] = Unit {0}
AreSigns (sign ∷ signs) = IsSign sign × AreSigns signs

-- the bytes that have a meaning where they are plain: a star, a question mark, brackets, an exclamation mark and a dash
abbrev pub star_byte : ℕ
star_byte = 42

abbrev pub question_byte : ℕ
question_byte = 63

abbrev pub opening_byte : ℕ
opening_byte = 91

abbrev pub closing_byte : ℕ
closing_byte = 93

abbrev pub bang_byte : ℕ
bang_byte = 33

abbrev pub dash_byte : ℕ
dash_byte = 45

-- the signs that have a meaning
abbrev pub star : PatternSign
star = Plain star_byte

abbrev pub question : PatternSign
question = Plain question_byte

abbrev pub opening_bracket : PatternSign
opening_bracket = Plain opening_byte

abbrev pub closing_bracket : PatternSign
closing_bracket = Plain closing_byte

abbrev pub bang : PatternSign
bang = Plain bang_byte

abbrev pub dash : PatternSign
dash = Plain dash_byte
