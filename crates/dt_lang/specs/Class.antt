-- The bytes that run together. Guide, Program Structure.
use Rattle.std.specs.Prelude.{ℕ, Bool, not, ◌==◌, ◌&&◌, ◌||◌, nat_le}
use Rattle.std.specs.Char.{is_ascii_alphanumeric}
use Rattle.dt_names.specs.Bytes.{space, exclamation_mark, quote, comma, slash, backslash, underscore, open_brace, close_brace, tilde}
use Rattle.dt_lang.specs.declared.byte_class.ByteClass.{ByteClass}
use Rattle.dt_lang.specs.declared.byte_class.ByteClass.TheVariants.{Word, String, Description}

-- letters, digits and `_`
abbrev pub is_word_byte : ℕ → Bool
is_word_byte byte = is_ascii_alphanumeric byte || byte == underscore

-- what a string has: visible ASCII and the space, but neither `"` nor `\`
abbrev pub is_string_byte : ℕ → Bool
is_string_byte byte = nat_le space byte && nat_le byte tilde && not (byte == quote || byte == backslash)

-- a byte of a description: visible ASCII, but none of `,` `/` `{` `}` and the double quote
abbrev pub is_description_byte : ℕ → Bool
is_description_byte byte = nat_le exclamation_mark byte && nat_le byte tilde
    && not (byte == comma || byte == slash || byte == open_brace || byte == close_brace || byte == quote)

abbrev pub members : ByteClass → ℕ → Bool
members Word = is_word_byte
members String = is_string_byte
members Description = is_description_byte
