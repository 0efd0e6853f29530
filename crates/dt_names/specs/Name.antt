-- What a name is.
use Rattle.std.specs.Prelude.{◌≢◌, ℕ, ◌≤◌, List, length, All}
use Rattle.dt_names.specs.Bytes.{exclamation_mark, quote, comma, slash, colon, open_brace, close_brace, tilde}
use Rattle.dt_names.specs.Limits.{name_max}

-- A name byte is a visible ASCII character, but none of : , / { } and the double quote.
pub record IsNameByte (byte : ℕ) : Type 0 where
  pub above_blanks : exclamation_mark ≤ byte
  pub below_delete : byte ≤ tilde
  pub no_colon : byte ≢ colon
  pub no_comma : byte ≢ comma
  pub no_slash : byte ≢ slash
  pub no_open_brace : byte ≢ open_brace
  pub no_close_brace : byte ≢ close_brace
  pub no_quote : byte ≢ quote

-- A name has at most 31 bytes, each of them a name byte.
pub record IsName (bytes : List ℕ) : Type 0 where
  pub short : length bytes ≤ name_max
  pub plain : All IsNameByte bytes
