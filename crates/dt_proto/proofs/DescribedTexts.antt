-- How the description of an ECB is written.
use Rattle.std.proofs.Common.{◌≡◌, ℕ, zero, suc, ◌+◌, ◌/◌, ◌%◌, ◌<◌, ◌≤◌, ◌==◌, Bool, true, false, List, [], ◌∷◌, ◌++◌}
use Rattle.std.proofs.Common.{Some, None, codes, decimal, drop, map, nat_lt, if◌then◌else◌, append_assoc, refl, ap, ◌∙◌}
use Rattle.std.proofs.Common.{arith}
use Rattle.std.proofs.lemmas.Bool.{le-ltb, lt-ltb, ne_eqb}
use Rattle.std.specs.Fmt.{digits, digits_onto, digit_glyph}
use Rattle.std.specs.List.{join_with_byte}
use Rattle.serde_json.specs.Data.{string}
use Rattle.serde_json.specs.View.{items_of}
use Rattle.serde_json.specs.Written.{compact_text, items_text}
use Rattle.serde_json.proofs.OnLiterals.{serde_json_on_literals}
use Rattle.dt_cred.specs.declared.probe.Probe.{Probe}
use Rattle.dt_record.specs.Layout.{FieldForm, number, text, stack, ustack, layout_size}
use Rattle.dt_life.specs.Answer.{described}
use Rattle.dt_proto.specs.Reply.{describe_text, field_data, quoted_word, reply_text, tuple_text}
use Rattle.dt_proto.proofs.ItemTexts.{items_written}
use Rattle.dt_proto.proofs.Texts.{IsPlain}

digit_plain : (x : ℕ) → 48 ≤ x → x ≤ 57 → IsPlain x
unfolding serde_json_on_literals
digit_plain x low high =
    let quote : (x == 34) ≡ false = ne_eqb x 34 (λ e. omega (arith, e, low)) in
    let slash : (x == 92) ≡ false = ne_eqb x 92 (λ e. omega (arith, e, high)) in
    let back : (x == 8) ≡ false = ne_eqb x 8 (λ e. omega (arith, e, low)) in
    let feed : (x == 12) ≡ false = ne_eqb x 12 (λ e. omega (arith, e, low)) in
    let line : (x == 10) ≡ false = ne_eqb x 10 (λ e. omega (arith, e, low)) in
    let return : (x == 13) ≡ false = ne_eqb x 13 (λ e. omega (arith, e, low)) in
    let tab : (x == 9) ≡ false = ne_eqb x 9 (λ e. omega (arith, e, low)) in
    let printed : nat_lt x 32 ≡ false = le-ltb x 32 (omega (arith, low)) in
    λ rest. rw (quote, slash, back, feed, line, return, tab, printed) refl

glyph_plain : (d : ℕ) → d < 10 → IsPlain (digit_glyph false d)
glyph_plain d small = rw (lt-ltb d 10 small) (digit_plain (48 + d) (omega arith) (omega (arith, small)))

-- in quotes the text is written as it is
abbrev IsWrittenPlain : List ℕ → Type 0
IsWrittenPlain bytes = compact_text (string bytes) ≡ 34 ∷ (bytes ++ 34 ∷ [])

glyph_more : (n : ℕ) (after : List ℕ) → IsWrittenPlain after → IsWrittenPlain (digit_glyph false (n % 10) ∷ after)
glyph_more n after plain =
    glyph_plain (n % 10) (omega arith) after ∙ ap (λ more. 34 ∷ digit_glyph false (n % 10) ∷ drop 1 more) plain

either_plain : (ends : Bool) (short long : List ℕ) → IsWrittenPlain short → IsWrittenPlain long
    → IsWrittenPlain (if ends then short else long)
either_plain true short long some more = some
either_plain false short long some more = more

onto_plain : (k n : ℕ) (after : List ℕ) → IsWrittenPlain after → IsWrittenPlain (digits_onto k 10 false n after)
onto_plain zero n after plain = plain
onto_plain (suc k) n after plain =
    let digit = digit_glyph false (n % 10) in
    let some = glyph_more n after plain in
    either_plain (n / 10 == 0) (digit ∷ after) (digits_onto k 10 false (n / 10) (digit ∷ after)) some
    (onto_plain k (n / 10) (digit ∷ after) some)

decimal_plain : (n : ℕ) → IsWrittenPlain (decimal n)
unfolding digits
decimal_plain n = onto_plain 64 n [] refl

field_written : (field : FieldForm) → compact_text (field_data field) ≡ quoted_word field
unfolding serde_json_on_literals
field_written number = refl
field_written text = refl
field_written (stack frames) = ap (λ digits. codes "\"stack" ++ drop 1 digits) (decimal_plain frames)
field_written (ustack frames) = ap (λ digits. codes "\"ustack" ++ drop 1 digits) (decimal_plain frames)

closed : (a b c d e f g h i j k n bracket : List ℕ)
    → (a ++ (b ++ (c ++ (d ++ (e ++ ((f ++ bracket) ++ (g ++ (h ++ (i ++ (j ++ k)))))))))) ++ n
    ≡ a ++ b ++ c ++ d ++ e ++ f ++ (bracket ++ g) ++ h ++ i ++ j ++ (k ++ n)
closed a b c d e f g h i j k n bracket = simp append_assoc

-- a description's text, round that of its values
round : ℕ → Probe → (words size : List ℕ) → List ℕ
round epid probe words size =
    (codes "{\"epid\":" ++ (decimal epid ++ (codes ",\"id\":" ++ (decimal probe.id
    ++ (codes ",\"layout\":[" ++ (words ++ (codes ",\"ok\":true,\"probe\":"
    ++ (compact_text (string (tuple_text probe.tuple)) ++ (codes ",\"size\":" ++ (size
    ++ codes "}")))))))))) ++ 10 ∷ []

rounded : (epid : ℕ) (probe : Probe) (words size : List ℕ) → round epid probe (words ++ 93 ∷ []) size
    ≡ describe_text epid probe words size
unfolding round
rounded epid probe words size =
    closed (codes "{\"epid\":") (decimal epid) (codes ",\"id\":") (decimal probe.id) (codes ",\"layout\":[") words
    (codes ",\"ok\":true,\"probe\":") (compact_text (string (tuple_text probe.tuple))) (codes ",\"size\":") size
    (codes "}") (10 ∷ []) (93 ∷ [])

parts : (epid : ℕ) (probe : Probe) (fields : List FieldForm) → reply_text (described epid probe (Some fields))
    ≡ round epid probe (items_text false (items_of (map field_data fields))) (decimal (layout_size (Some fields)))
unfolding serde_json_on_literals round
parts epid probe fields = refl

pub text-described : (epid : ℕ) (probe : Probe) (fields : List FieldForm)
    → reply_text (described epid probe (Some fields))
    ≡ describe_text epid probe (join_with_byte 44 (map quoted_word fields)) (decimal (layout_size (Some fields)))
text-described epid probe fields =
    parts epid probe fields
    ∙ ap (λ words. round epid probe words (decimal (layout_size (Some fields))))
    (items_written FieldForm field_data quoted_word field_written fields)
    ∙ rounded epid probe (join_with_byte 44 (map quoted_word fields)) (decimal (layout_size (Some fields)))

zero_written : decimal 0 ≡ codes "0"
unfolding digits
zero_written = refl

unrecorded : (epid : ℕ) (probe : Probe) → reply_text (described epid probe None)
    ≡ round epid probe (93 ∷ []) (decimal 0)
unfolding serde_json_on_literals round
unrecorded epid probe = refl

pub text-unrecorded : (epid : ℕ) (probe : Probe) → reply_text (described epid probe None)
    ≡ describe_text epid probe [] (codes "0")
text-unrecorded epid probe =
    unrecorded epid probe ∙ ap (round epid probe (93 ∷ [])) zero_written ∙ rounded epid probe [] (codes "0")
