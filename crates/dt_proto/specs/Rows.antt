-- The rows of an aggregation: as JSON, and letter by letter.
use Rattle.std.specs.Prelude.{ℕ, ◌==◌, ℤ, List, [], ◌∷◌, ◌++◌, Option, Some, None, codes, decimal, map}
use Rattle.std.specs.Fmt.{signed_decimal}
use Rattle.std.specs.List.{before_first, join_with_byte}
use Rattle.serde_json.specs.Data.{Data, null, string, array, object, no_members, member}
use Rattle.serde_json.specs.View.{items_of}
use Rattle.serde_json.specs.Written.{compact_text}
use Rattle.dt_names.specs.Bytes.{comma}
use Rattle.dt_aggfn.specs.Answers.{AnswerForm, number, rows}
use Rattle.dt_aggfn.specs.declared.function.AggFn.{AggFn}
use Rattle.dt_aggfn.specs.declared.function.AggFn.TheVariants.{Count, Sum, Avg, Min, Max, Quantize, Lquantize}
use Rattle.dt_aggstore.specs.Table.{RowForm}
use Rattle.dt_aggstore.specs.declared.key.KeyPart.{KeyPart}
use Rattle.dt_aggstore.specs.declared.key.KeyPart.TheVariants.{Number, Text}
use Rattle.dt_proto.specs.Scalars.{characters, of_number, of_signed}

-- the word for an aggregating function
abbrev pub function_word : AggFn → List ℕ
function_word Count = codes "count"
function_word Sum = codes "sum"
function_word Avg = codes "avg"
function_word Min = codes "min"
function_word Max = codes "max"
function_word Quantize = codes "quantize"
function_word (Lquantize bounds) = codes "lquantize"

-- the text that is filled with zeros: what stands before the first of them
abbrev pub unfilled : List ℕ → List ℕ
unfilled bytes = before_first (λ byte. byte == 0) bytes

-- a part of a key: a number or a text
abbrev pub part_data : KeyPart → Data
part_data (Number z) = of_signed z
part_data (Text bytes) = string (characters (unfilled bytes))

-- the least value that is counted; null for the row below all levels
abbrev pub least_data : Option ℤ → Data
least_data None = null
least_data (Some z) = of_signed z

-- the least value that is counted, and how many are
abbrev pub counted_data : Option ℤ × ℕ → Data
counted_data counted = array (items_of (least_data counted.0 ∷ of_number counted.1 ∷ []))

-- what a function makes of the values of a key: a number, or a list of counts
abbrev pub value_data : AnswerForm → Data
value_data (number z) = of_signed z
value_data (rows counted) = array (items_of (map counted_data counted))

abbrev pub row_data : RowForm → Data
row_data row = object (member (codes "key") (array (items_of (map part_data row.key)))
    (member (codes "value") (value_data row.value) no_members))

-- a part's text; a text is quoted as JSON quotes it
abbrev pub part_text : KeyPart → List ℕ
part_text (Number z) = signed_decimal z
part_text (Text bytes) = compact_text (string (characters (unfilled bytes)))

abbrev pub least_text : Option ℤ → List ℕ
least_text None = codes "null"
least_text (Some z) = signed_decimal z

abbrev pub counted_text : Option ℤ × ℕ → List ℕ
counted_text counted = codes "[" ++ least_text counted.0 ++ codes "," ++ decimal counted.1 ++ codes "]"

abbrev pub value_text : AnswerForm → List ℕ
value_text (number z) = signed_decimal z
value_text (rows counted) = codes "[" ++ join_with_byte comma (map counted_text counted) ++ codes "]"

abbrev pub row_text : RowForm → List ℕ
row_text row =
    codes "{\"key\":[" ++ join_with_byte comma (map part_text row.key) ++ codes "],\"value\":" ++ value_text row.value
    ++ codes "}"
