-- What a value of the machine file gives under its keys.
use Rattle.std.specs.Prelude.{ℕ, ℤ, Bool, true, false, List, [], ◌∷◌, Option, is_some, unwrap_or, option_map, option_and_then}
use Rattle.std.specs.Option.{option_map_or}
use Rattle.std.specs.List.{list_all}
use Rattle.serde_json.specs.Data.{Data, Items, no_items, item}
use Rattle.serde_json.specs.Find.{get, as_number, as_integer, as_u64, as_i64, as_str, as_array}

abbrev pub list_of : Items → List Data
list_of no_items = []
list_of (item d ds) = d ∷ list_of ds

-- the items, where the value is a list
abbrev pub items : Data → Option (List Data)
items d = option_map list_of (as_array d)

-- None for a negative number, and for what is no integer
abbrev pub unsigned : Data → Option ℕ
unsigned d = option_and_then as_u64 (as_number d)

-- None for a number past 64 bits with a sign, and for what is no integer
abbrev pub signed : Data → Option ℤ
signed d = option_and_then as_i64 (as_number d)

-- An integer is what is held as a signed or an unsigned number of 64 bits.
abbrev pub is_integer : Data → Bool
is_integer d = is_some (option_and_then as_integer (as_number d))

abbrev pub is_text : Data → Bool
is_text d = is_some (as_str d)

abbrev pub is_list_of : (Data → Bool) → Data → Bool
is_list_of test d = option_map_or (list_all test) (items d) false

-- the key is there, with a value that passes
abbrev pub has_field : List ℕ → (Data → Bool) → Data → Bool
has_field key test d = option_map_or test (get key d) false

-- the key is not there, or its value passes
abbrev pub may_have : List ℕ → (Data → Bool) → Data → Bool
may_have key test d = option_map_or test (get key d) true

-- What stands under a key, or what it is where there is no such key.
abbrev pub unsigned_at : List ℕ → Option ℕ → Data → Option ℕ
unsigned_at key other d = option_map_or unsigned (get key d) other

abbrev pub text_of : Data → List ℕ
text_of d = unwrap_or (as_str d) []

abbrev pub text_at : List ℕ → List ℕ → Data → List ℕ
text_at key other d = option_map_or text_of (get key d) other

abbrev pub items_of : Data → List Data
items_of d = unwrap_or (items d) []

-- the items of the list under a key, where there is such a list
abbrev pub items_at : List ℕ → Data → Option (List Data)
items_at key d = option_and_then items (get key d)

abbrev pub list_at : List ℕ → Data → List Data
list_at key d = option_map_or items_of (get key d) []
