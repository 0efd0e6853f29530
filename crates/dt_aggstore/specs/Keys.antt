-- Keys of aggregations: which are the same, which comes first, and what an entry costs.
use Rattle.std.specs.Prelude.{◌≡◌, ℕ, ◌+◌, ◌*◌, Bool, true, false, ◌&&◌, nat_eq, not, List, filter}
use Rattle.std.specs.Ordering.{int_eq, int_cmp, nat_cmp}
use Rattle.std.specs.List.{sum_by}
use Rattle.std.specs.Cmp.Lexicographic.{pointwise, slice_cmp}
use Rattle.std.specs.declared.cmp.Ordering.{Ordering}
use Rattle.std.specs.declared.cmp.Ordering.TheVariants.{Less, Greater}
use Rattle.dt_aggfn.specs.declared.function.AggFn.{AggFn}
use Rattle.dt_aggfn.specs.declared.function.AggFn.TheVariants.{Count, Sum, Avg, Min, Max, Quantize, Lquantize}
use Rattle.dt_aggfn.specs.Cells.{cell_words}
use Rattle.dt_aggstore.specs.declared.key.Aggregation.{Aggregation}
use Rattle.dt_aggstore.specs.declared.key.KeyPart.{KeyPart}
use Rattle.dt_aggstore.specs.declared.key.KeyPart.TheVariants.{Number, Text}

-- An entry's name: its aggregation and its key.
pub record Entry : Type 0 where
  pub aggregation : Aggregation
  pub key : List KeyPart

-- the order of parts: numbers before texts, numbers by size, texts by bytes
abbrev pub part_cmp : KeyPart → KeyPart → Ordering
part_cmp (Number a) (Number b) = int_cmp a b
part_cmp (Number a) (Text b) = Less
part_cmp (Text a) (Number b) = Greater
part_cmp (Text a) (Text b) = slice_cmp nat_cmp a b

-- the order of keys: the first position that differs decides, and a key that ends there comes first
abbrev pub key_cmp : List KeyPart → List KeyPart → Ordering
key_cmp = slice_cmp part_cmp

abbrev pub IsBelow : List KeyPart → List KeyPart → Type 0
IsBelow a b = key_cmp a b ≡ Less

abbrev pub same_part : KeyPart → KeyPart → Bool
same_part (Number a) (Number b) = int_eq a b
same_part (Text a) (Text b) = pointwise nat_eq a b
same_part _ _ = false

abbrev pub same_key : List KeyPart → List KeyPart → Bool
same_key = pointwise same_part

abbrev pub same_function : AggFn → AggFn → Bool
same_function Count Count = true
same_function Sum Sum = true
same_function Avg Avg = true
same_function Min Min = true
same_function Max Max = true
same_function Quantize Quantize = true
same_function (Lquantize a) (Lquantize b) =
    int_eq a.lower b.lower && int_eq a.upper b.upper && int_eq a.step b.step
same_function _ _ = false

abbrev pub same_aggregation : Aggregation → Aggregation → Bool
same_aggregation a b = nat_eq a.number b.number && same_function a.function b.function

abbrev pub same_entry : Entry → Entry → Bool
same_entry a b = same_aggregation a.aggregation b.aggregation && same_key a.key b.key

-- the words that a part takes: a number one, a text of 32 bytes four
abbrev pub part_words : KeyPart → ℕ
part_words (Number number) = 1
part_words (Text bytes) = 4

abbrev pub key_words : List KeyPart → ℕ
key_words key = sum_by part_words key

-- the bytes that an entry costs: eight for each word of its head, its key and its cell
abbrev pub entry_cost : Aggregation → List KeyPart → ℕ
entry_cost aggregation key = 8 * (1 + key_words key + cell_words aggregation.function)

abbrev pub cost_of : List Entry → ℕ
cost_of entries = sum_by (λ e. entry_cost e.aggregation e.key) entries

-- the entries of other aggregations
abbrev pub without : Aggregation → List Entry → List Entry
without aggregation entries = filter (λ e. not (same_aggregation aggregation e.aggregation)) entries
