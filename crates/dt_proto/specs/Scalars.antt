-- Numbers and texts as JSON has them.
use Rattle.std.specs.Prelude.{ℕ, ℤ, List, encode_utf8}
use Rattle.std.specs.List.{flat_map}
use Rattle.serde_json.specs.Data.{Data, number, unsigned}
use Rattle.serde_json.specs.Find.{of_integer}

abbrev pub of_number : ℕ → Data
of_number n = number (unsigned n)

abbrev pub of_signed : ℤ → Data
of_signed z = number (of_integer z)

-- the text whose characters have these numbers: an ASCII text itself
abbrev pub characters : List ℕ → List ℕ
characters bytes = flat_map encode_utf8 bytes
