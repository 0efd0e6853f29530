-- Of the words of a layout's fields.
use Rattle.std.proofs.Common.{◌≡◌, ℕ, zero, suc, ◌+◌, ◌<◌, ◌≤◌, List, [], ◌∷◌, length, get_or, drop, take, map, length-take-le, Option, Some, None, ℤ, pos, ◌-ℤ◌, refl, ap, sym, ◌∙◌, arith}
use Rattle.std.specs.Prelude.{IfSome, IfNone, MatchOption, decimal}
use Rattle.std.specs.List.{AllByRecursion}
use Rattle.std.proofs.lemmas.Fmt.{decimal_digit}
use Rattle.std.proofs.lemmas.Int.{ints}
use Rattle.serde_json.specs.Data.{Data, null, boolean, number, string, array, object}
use Rattle.serde_json.specs.Find.{as_str}
use Rattle.dt_program.specs.declared.clause.Frames.{Frames}
use Rattle.dt_record.specs.Layout.{FieldForm, field_word}
use Rattle.dt_record.specs.Fields.{form_of_field}
use Rattle.dt_record.specs.declared.layout.Field.{Field}
use Rattle.dt_record.specs.declared.layout.Field.TheVariants.{Number, Text, Stack, Ustack}
use Rattle.std.proofs.lemmas.List.{get_or-map, length-map, take_all}
use Rattle.dt_names.specs.Bytes.{zero_digit}
use Rattle.dt_front.specs.Replies.{AreWordsOf, IsLayoutField}

pub text_is : (d : Data) (s : List ℕ) → Some s ≡ as_str d → d ≡ string s
text_is null s is = absurd (grind (arith, is))
text_is (boolean b) s is = absurd (grind (arith, is))
text_is (number n) s is = absurd (grind (arith, is))
text_is (string t) s is = let same : s ≡ t = grind (arith, is) in ap (λ r. string r) (sym same)
text_is (array ds) s is = absurd (grind (arith, is))
text_is (object ms) s is = absurd (grind (arith, is))

pub one_digit : (count : List ℕ) (n : ℕ) → n ≤ 8 → count ≡ decimal n → count ≡ (zero_digit + n) ∷ []
one_digit count n few same = same ∙ decimal_digit n (omega (arith, few))

pub frames_by_digit : (count : List ℕ) (digit : ℕ) (z : ℤ) (r : Option Frames) → count ≡ digit ∷ [] → z ≡ pos digit -ℤ pos zero_digit
    → IfSome r (λ frames. z ≡ pos frames.count) → IfNone r ((n : ℕ) → z ≡ pos n → 1 ≤ n → n ≤ 8 → ⊥)
    → MatchOption r ((n : ℕ) → 1 ≤ n → n ≤ 8 → count ≡ decimal n → ⊥) (λ frames. count ≡ decimal frames.count)
frames_by_digit count digit z None is gives found none = λ n some few same.
    let digits : digit ∷ [] ≡ (zero_digit + n) ∷ [] = sym is ∙ one_digit count n few same in
    let first : digit ≡ zero_digit + n = ap (λ l. get_or l 0 0) digits in
    none n (omega (arith, ints, gives, first)) some few
frames_by_digit count digit z (Some frames) is gives found none =
    let few : frames.count ≤ 8 = frames.few in
    let first : digit ≡ zero_digit + frames.count = omega (arith, ints, gives, found) in
    is ∙ ap (λ n. n ∷ []) first ∙ sym (decimal_digit frames.count (omega (arith, few)))

-- each value of a layout is one that a record may have
each_field : (fields : List Field) → AllByRecursion IsLayoutField (map form_of_field fields)
each_field [] = tt
each_field (Number ∷ fields) = (tt, each_field fields)
each_field (Text ∷ fields) = (tt, each_field fields)
each_field (Stack frames ∷ fields) = ((frames.some, frames.few), each_field fields)
each_field (Ustack frames ∷ fields) = ((frames.some, frames.few), each_field fields)

pub are_fields : (fields : List Field) → AllByRecursion IsLayoutField (map form_of_field fields)
are_fields fields = each_field fields

-- values of which one is no field's word are no words of fields
pub no_word : (words : List Data) (fields : List FieldForm) (k : ℕ) (d : Data) → k < length words
    → ((field : FieldForm) → IsLayoutField field → get_or words k d ≡ string (field_word field) → ⊥)
    → AllByRecursion IsLayoutField fields → words ≡ map (λ field. string (field_word field)) fields → ⊥
no_word [] fields k d within none each same = absurd (omega (arith, within))
no_word (word ∷ words) [] k d within none each same = let e = ap length same in absurd (omega (arith, e))
no_word (word ∷ words) (field ∷ fields) zero d within none each same = none field each.0 (ap (λ l. get_or l 0 d) same)
no_word (word ∷ words) (field ∷ fields) (suc k) d within none each same =
    no_word words fields k d (omega (arith, within)) none each.1 (ap (drop 1) same)

pub no_word_at : {V : Type 0} (view : V → Data) (vs : List V) (fields : List FieldForm) (k : ℕ) (v : V) → k < length vs → v ≡ get_or vs k v
    → ((field : FieldForm) → IsLayoutField field → view v ≡ string (field_word field) → ⊥) → AreWordsOf (map view vs) fields → ⊥
no_word_at view vs fields k v within is none words =
    no_word (map view vs) fields k (view v) (omega (arith, within, length-map vs view))
    (λ field fits same. none field fits (ap view is ∙ sym (get_or-map view vs k v (view v) within) ∙ same))
    words.each words.same

-- more words than a layout has fields
pub too_many : {V : Type 0} (view : V → Data) (vs : List V) (k : ℕ) (some fields : List FieldForm) → k < length vs
    → map view (take k vs) ≡ map (λ field. string (field_word field)) some → 8 ≤ length some → AreWordsOf (map view vs) fields → ⊥
too_many view vs k some fields within before many words =
    let all = ap length words.same in
    let whole = length-map vs view in
    let theirs = length-map fields (λ field. string (field_word field)) in
    let taken = ap length before in
    let part = length-map (take k vs) view in
    let kept = length-take-le k vs (omega (arith, within)) in
    let ours = length-map some (λ field. string (field_word field)) in
    let few = words.few in
    omega (arith, within, all, whole, theirs, taken, part, kept, ours, few, many)

pub single : (xs : List ℕ) → 1 ≤ length xs → length xs < 2 → xs ≡ get_or xs 0 0 ∷ []
single [] some few = absurd (omega (arith, some))
single (x ∷ []) some few = refl
single (x ∷ y ∷ xs) some few = absurd (omega (arith, few))

-- all words are those of the fields
pub all_words : {V : Type 0} (view : V → Data) (vs : List V) (k : ℕ) (fields : List Field) → length vs ≤ k → length fields ≤ 8
    → map view (take k vs) ≡ map (λ field. string (field_word field)) (map form_of_field fields) → AreWordsOf (map view vs) (map form_of_field fields)
all_words view vs k fields all few same = record {
  each = are_fields fields;
  few = let l = length-map fields form_of_field in omega (arith, few, l);
  same = ap (map view) (sym (take_all k vs all)) ∙ same;
}
