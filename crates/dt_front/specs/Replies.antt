-- Replies as what they tell: fields, the keys and the counts of rows, and the layouts of records.
use Rattle.std.specs.Prelude.{◌≡◌, ℕ, ◌≤◌, ℤ, List, [], ◌∷◌, length, map, Option, Some, None, option_and_then, option_map}
use Rattle.std.specs.Option.{option_or}
use Rattle.std.specs.List.{AllByRecursion}
use Rattle.serde_json.specs.Data.{Data, string}
use Rattle.serde_json.specs.Find.{at, get, as_i64, as_null, as_number, as_str, as_u64}
use Rattle.dt_program.specs.Limits.{frames_max, statements_max}
use Rattle.dt_record.specs.Layout.{FieldForm, field_word, number, text, stack, ustack}
use Rattle.dt_front.specs.Tables.{KeyForm}
use Rattle.dt_front.specs.Tables as key

-- a value as a number of 64 bits, with a sign or without one
abbrev pub told_signed : Data → Option ℤ
told_signed d = option_and_then as_i64 (as_number d)

abbrev pub told_unsigned : Data → Option ℕ
told_unsigned d = option_and_then as_u64 (as_number d)

-- the number of an object's field, where it is one without a sign, and the text of one, where it is a text
abbrev pub told_number : List ℕ → Data → Option ℕ
told_number key d = option_and_then told_unsigned (get key d)

abbrev pub told_text : List ℕ → Data → Option (List ℕ)
told_text key d = option_and_then as_str (get key d)

-- what each of some values is, in order; nothing where one of them is nothing
abbrev pub all_told : {X Y : Type 0} → (X → Option Y) → List X → Option (List Y)
all_told told [] = Some []
all_told told (x ∷ xs) = option_and_then (λ y. option_map (λ ys. y ∷ ys) (all_told told xs)) (told x)

-- a part of a key: a number with a sign, or a text
abbrev pub told_part : Data → Option KeyForm
told_part d = option_or (option_map (λ z. key.number z) (told_signed d)) (option_map (λ bytes. key.text bytes) (as_str d))

-- a row's name: a number with a sign; `null` names the row below all levels
abbrev pub told_name : Data → Option (Option ℤ)
told_name d = option_or (option_map (λ z. Some z) (told_signed d)) (option_map (λ _. None) (as_null d))

-- a row's count: an array whose first value is the row's name, and whose second is how many values it counts
abbrev pub told_count : Data → Option (Option ℤ × ℕ)
told_count d = option_and_then (λ name. option_map (λ count. (name, count)) (option_and_then told_unsigned (at 1 d))) (option_and_then told_name (at 0 d))

-- a value that a record may have: a stack has 1 to 8 frames
abbrev pub IsLayoutField : FieldForm → Type 0
IsLayoutField number = Unit {0}
IsLayoutField text = Unit {0}
IsLayoutField (stack n) = (1 ≤ n) × (n ≤ frames_max)
IsLayoutField (ustack n) = (1 ≤ n) × (n ≤ frames_max)

-- The values are the words of a record's fields, in order.
pub record AreWordsOf (words : List Data) (fields : List FieldForm) : Type 0 where
  pub each : AllByRecursion IsLayoutField fields
  pub few : length fields ≤ statements_max
  pub same : words ≡ map (λ field. string (field_word field)) fields
