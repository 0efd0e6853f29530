-- How the table of an aggregation is written.
use Rattle.std.proofs.Common.{◌≡◌, ℕ, ℤ, List, [], ◌∷◌, ◌++◌, false, Option, Some, None, codes, decimal, map}
use Rattle.std.proofs.Common.{append_assoc, refl, ap, ◌∙◌}
use Rattle.std.specs.List.{join_with_byte}
use Rattle.serde_json.specs.Data.{string}
use Rattle.serde_json.specs.View.{items_of}
use Rattle.serde_json.specs.Written.{compact_text, items_text}
use Rattle.serde_json.proofs.OnLiterals.{serde_json_on_literals}
use Rattle.dt_aggfn.specs.Answers.{AnswerForm, number, rows}
use Rattle.dt_aggfn.specs.declared.function.AggFn.{AggFn}
use Rattle.dt_aggfn.specs.declared.function.AggFn.TheVariants.{Count, Sum, Avg, Min, Max, Quantize, Lquantize}
use Rattle.dt_aggstore.specs.Table.{RowForm}
use Rattle.dt_aggstore.specs.declared.key.KeyPart.{KeyPart}
use Rattle.dt_aggstore.specs.declared.key.KeyPart.TheVariants.{Number, Text}
use Rattle.dt_life.specs.Answer.{aggregated}
use Rattle.dt_proto.specs.Reply.{reply_text}
use Rattle.dt_proto.specs.Rows.{counted_data, counted_text, function_word, least_data, least_text, part_data, part_text}
use Rattle.dt_proto.specs.Rows.{row_data, row_text, value_data, value_text}
use Rattle.dt_proto.specs.Scalars.{characters}
use Rattle.dt_proto.proofs.ItemTexts.{items_written}
use Rattle.dt_proto.proofs.Texts.{signed_written}

word_written : (function : AggFn) → compact_text (string (function_word function))
    ≡ 34 ∷ (function_word function ++ 34 ∷ [])
unfolding serde_json_on_literals
word_written Count = refl
word_written Sum = refl
word_written Avg = refl
word_written Min = refl
word_written Max = refl
word_written Quantize = refl
word_written (Lquantize bounds) = refl

part_written : (part : KeyPart) → compact_text (part_data part) ≡ part_text part
part_written (Number z) = signed_written z
part_written (Text bytes) = refl

least_written : (least : Option ℤ) → compact_text (least_data least) ≡ least_text least
unfolding serde_json_on_literals
least_written None = refl
least_written (Some z) = signed_written z

in_brackets : (a b : List ℕ) → 91 ∷ (a ++ 44 ∷ (b ++ 93 ∷ [])) ≡ codes "[" ++ a ++ codes "," ++ b ++ codes "]"
in_brackets a b = simp append_assoc

counted_written : (counted : Option ℤ × ℕ) → compact_text (counted_data counted) ≡ counted_text counted
counted_written counted =
    ap (λ least. 91 ∷ (least ++ 44 ∷ (decimal counted.1 ++ 93 ∷ []))) (least_written counted.0)
    ∙ in_brackets (least_text counted.0) (decimal counted.1)

value_written : (value : AnswerForm) → compact_text (value_data value) ≡ value_text value
value_written (number z) = signed_written z
value_written (rows counted) =
    ap (λ items. 91 ∷ items) (items_written (Option ℤ × ℕ) counted_data counted_text counted_written counted)

-- a row's text, round those of its key and its value
row_round : List ℕ → List ℕ → List ℕ
row_round key value = codes "{\"key\":[" ++ (key ++ (codes ",\"value\":" ++ (value ++ codes "}")))

row_parts : (row : RowForm) → compact_text (row_data row)
    ≡ row_round (items_text false (items_of (map part_data row.key))) (compact_text (value_data row.value))
unfolding serde_json_on_literals row_round
row_parts row = refl

row_closed : (a b c : List ℕ) → a ++ ((b ++ 93 ∷ []) ++ (codes ",\"value\":" ++ (c ++ codes "}")))
    ≡ a ++ b ++ codes "],\"value\":" ++ c ++ codes "}"
row_closed a b c = simp append_assoc

row_written : (row : RowForm) → compact_text (row_data row) ≡ row_text row
unfolding row_round
row_written row =
    row_parts row
    ∙ ap (λ key. row_round key (compact_text (value_data row.value)))
    (items_written KeyPart part_data part_text part_written row.key)
    ∙ ap (row_round (join_with_byte 44 (map part_text row.key) ++ 93 ∷ [])) (value_written row.value)
    ∙ row_closed (codes "{\"key\":[") (join_with_byte 44 (map part_text row.key)) (value_text row.value)

-- a table's text, round those of its function, its name and its rows
round : (word name items : List ℕ) → List ℕ
round word name items =
    (codes "{\"fn\":" ++ (word ++ (codes ",\"name\":" ++ (name ++ (codes ",\"ok\":true,\"rows\":[" ++ (items
    ++ codes "}")))))) ++ 10 ∷ []

parts : (name : List ℕ) (function : AggFn) (table : List RowForm) → reply_text (aggregated name function table)
    ≡ round (compact_text (string (function_word function))) (compact_text (string (characters name)))
    (items_text false (items_of (map row_data table)))
unfolding serde_json_on_literals round
parts name function table = refl

closed : (a b c d e f g n bracket quote : List ℕ)
    → (a ++ ((quote ++ (b ++ quote)) ++ (c ++ (d ++ (e ++ ((f ++ bracket) ++ g)))))) ++ n
    ≡ (a ++ quote) ++ b ++ (quote ++ c) ++ d ++ e ++ f ++ (bracket ++ g ++ n)
closed a b c d e f g n bracket quote = simp append_assoc

rounded : (word name items : List ℕ) → round (34 ∷ (word ++ 34 ∷ [])) name (items ++ 93 ∷ [])
    ≡ codes "{\"fn\":\"" ++ word ++ codes "\",\"name\":" ++ name ++ codes ",\"ok\":true,\"rows\":[" ++ items
    ++ codes "]}\n"
unfolding round
rounded word name items =
    closed (codes "{\"fn\":") word (codes ",\"name\":") name (codes ",\"ok\":true,\"rows\":[") items (codes "}")
    (10 ∷ []) (93 ∷ []) (34 ∷ [])

pub text-aggregated : (name : List ℕ) (function : AggFn) (table : List RowForm)
    → reply_text (aggregated name function table)
    ≡ codes "{\"fn\":\"" ++ function_word function ++ codes "\",\"name\":" ++ compact_text (string (characters name))
    ++ codes ",\"ok\":true,\"rows\":[" ++ join_with_byte 44 (map row_text table) ++ codes "]}\n"
text-aggregated name function table =
    parts name function table
    ∙ ap (λ word. round word (compact_text (string (characters name))) (items_text false (items_of (map row_data
    table)))) (word_written function)
    ∙ ap (round (34 ∷ (function_word function ++ 34 ∷ [])) (compact_text (string (characters name))))
    (items_written RowForm row_data row_text row_written table)
    ∙ rounded (function_word function) (compact_text (string (characters name))) (join_with_byte 44 (map row_text
    table))
