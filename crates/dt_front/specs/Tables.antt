-- The tables of aggregations.
use Rattle.std.specs.Prelude.{ℕ, ℤ, List, ◌++◌, codes}
use Rattle.std.specs.Fmt.{signed_decimal}
use Rattle.std.specs.List.{flat_map}
use Rattle.dt_front.specs.Columns.{at_left, at_right}
use Rattle.dt_front.specs.Escaping.{shown}

-- a part of a key
pub data KeyForm : Type 0 where
  number : ℤ → KeyForm
  text : List ℕ → KeyForm

-- a part's column
abbrev pub key_column : KeyForm → List ℕ
key_column (number z) = codes "  " ++ at_right 10 (signed_decimal z)
key_column (text bytes) = codes "  " ++ at_left 20 (shown bytes)

-- a key's columns, in order
abbrev pub key_columns : List KeyForm → List ℕ
key_columns key = flat_map key_column key

-- the line of a row whose value is a number
abbrev pub number_line : List KeyForm → ℤ → List ℕ
number_line key value = key_columns key ++ codes "  " ++ at_right 16 (signed_decimal value) ++ codes "\n"

-- an aggregation's title: its name and its function
abbrev pub table_title : List ℕ → List ℕ → List ℕ
table_title name function = codes "\n@" ++ shown name ++ codes " = " ++ shown function ++ codes "()\n"
