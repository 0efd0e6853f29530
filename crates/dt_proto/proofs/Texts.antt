-- How the parts of a reply are written.
use Rattle.std.proofs.Common.{◌≡◌, ℕ, suc, ◌/◌, ◌%◌, ◌<◌, ℤ, pos, negsuc, List, [], ◌∷◌, ◌++◌, Bool, true, false}
use Rattle.std.proofs.Common.{if◌then◌else◌, codes, decimal, get_or, drop, append_assoc, refl, ap, ◌∙◌, arith}
use Rattle.std.proofs.lemmas.List.Elements.{All-from_recursion}
use Rattle.std.specs.Fmt.{signed_decimal}
use Rattle.std.specs.List.{AllByRecursion}
use Rattle.hex.specs.Hex.{encode_with, encode_lower, lower_digits}
use Rattle.serde_json.specs.Data.{boolean, string}
use Rattle.serde_json.specs.Find.{of_integer}
use Rattle.serde_json.specs.Written.{compact_text, number_text}
use Rattle.serde_json.proofs.OnLiterals.{serde_json_on_literals}
use Rattle.dt_life.specs.Answer.{done, enabled, snapped}
use Rattle.dt_proto.specs.Reply.{reply_text}

-- the pieces of a line that are added one after the other
pub added_five : (a b c d e : List ℕ) (one two three four all : List ℕ) → one ≡ a → two ≡ one ++ b → three ≡ two ++ c
    → four ≡ three ++ d → all ≡ four ++ e → all ≡ a ++ b ++ c ++ d ++ e
added_five a b c d e one two three four all e1 e2 e3 e4 e5 = rw (e5, e4, e3, e2, e1) (simp append_assoc)

pub added_seven : (a b c d e f g : List ℕ) (one two three four five six all : List ℕ) → one ≡ a → two ≡ one ++ b
    → three ≡ two ++ c → four ≡ three ++ d → five ≡ four ++ e → six ≡ five ++ f → all ≡ six ++ g
    → all ≡ a ++ b ++ c ++ d ++ e ++ f ++ g
added_seven a b c d e f g one two three four five six all e1 e2 e3 e4 e5 e6 e7 =
    rw (e7, e6, e5, e4, e3, e2, e1) (simp append_assoc)

pub added_nine : (a b c d e f g h i : List ℕ) (one two three four five six seven eight all : List ℕ)
    → one ≡ a → two ≡ one ++ b → three ≡ two ++ c → four ≡ three ++ d → five ≡ four ++ e → six ≡ five ++ f
    → seven ≡ six ++ g → eight ≡ seven ++ h → all ≡ eight ++ i
    → all ≡ a ++ b ++ c ++ d ++ e ++ f ++ g ++ h ++ i
added_nine a b c d e f g h i one two three four five six seven eight all e1 e2 e3 e4 e5 e6 e7 e8 e9 =
    rw (e9, e8, e7, e6, e5, e4, e3, e2, e1) (simp append_assoc)

pub text-done : reply_text done ≡ codes "{\"ok\":true}\n"
unfolding serde_json_on_literals
text-done = refl

pub text-enabled : (count first : ℕ) → reply_text (enabled count first)
    ≡ codes "{\"count\":" ++ decimal count ++ codes ",\"first\":" ++ decimal first ++ codes ",\"ok\":true}\n"
unfolding serde_json_on_literals
text-enabled count first = simp append_assoc

pub signed_written : (z : ℤ) → number_text (of_integer z) ≡ signed_decimal z
signed_written (pos n) = refl
signed_written (negsuc n) = refl

-- in a text the byte is written as it is
abbrev pub IsPlain : ℕ → Type 0
IsPlain x = (rest : List ℕ) → compact_text (string (x ∷ rest)) ≡ 34 ∷ x ∷ drop 1 (compact_text (string rest))

digits_plain : AllByRecursion IsPlain lower_digits
unfolding serde_json_on_literals
digits_plain = (
  λ r. refl,
  (
    λ r. refl,
    (
      λ r. refl,
      (
        λ r. refl,
        (
          λ r. refl,
          (
            λ r. refl,
            (
              λ r. refl,
              (
                λ r. refl,
                (
                  λ r. refl,
                  (
                    λ r. refl,
                    (
                      λ r. refl,
                      (
                        λ r. refl,
                        (
                          λ r. refl,
                          (
                            λ r. refl,
                            (
                              λ r. refl,
                              (
                                λ r. refl,
                                tt,
                              ),
                            ),
                          ),
                        ),
                      ),
                    ),
                  ),
                ),
              ),
            ),
          ),
        ),
      ),
    ),
  ),
)

digit_plain : (k : ℕ) → k < 16 → IsPlain (get_or lower_digits k 0)
digit_plain k h = All-from_recursion IsPlain lower_digits digits_plain k 0 h

text-encode_lower : (bytes : List ℕ) → AllByRecursion (λ byte. byte < 256) bytes
    → compact_text (string (encode_lower bytes)) ≡ 34 ∷ (encode_lower bytes ++ 34 ∷ [])
unfolding encode_with
text-encode_lower [] h = refl
text-encode_lower (b ∷ rest) h =
    let low = get_or lower_digits (b % 16) 0 in
    digit_plain (b / 16) (omega arith) (low ∷ encode_lower rest)
    ∙ ap (λ text. 34 ∷ get_or lower_digits (b / 16) 0 ∷ drop 1 text)
    (digit_plain (b % 16) (omega arith) (encode_lower rest)
    ∙ ap (λ text. 34 ∷ low ∷ drop 1 text) (text-encode_lower rest h.1))

text-boolean : (b : Bool) → compact_text (boolean b) ≡ (if b then codes "true" else codes "false")
text-boolean true = refl
text-boolean false = refl

-- a snapshot's text, round those of its data and of its flag
snapped_round : (cpu drops : ℕ) → List ℕ → List ℕ → List ℕ
snapped_round cpu drops «data» flag =
    codes "{\"cpu\":" ++ decimal cpu ++ codes ",\"data\":" ++ «data» ++ codes ",\"drops\":" ++ decimal drops ++ codes
    ",\"filled\":" ++ flag ++ codes ",\"ok\":true}\n"

closed : (a b c d e f g h i n : List ℕ) → (a ++ (b ++ (c ++ (d ++ (e ++ (f ++ (g ++ (h ++ i)))))))) ++ n
    ≡ a ++ b ++ c ++ d ++ e ++ f ++ g ++ h ++ (i ++ n)
closed a b c d e f g h i n = simp append_assoc

snapped_parts : (cpu drops : ℕ) (bytes : List ℕ) (filled : Bool) → reply_text (snapped cpu bytes drops filled)
    ≡ snapped_round cpu drops (compact_text (string (encode_lower bytes))) (compact_text (boolean filled))
unfolding serde_json_on_literals snapped_round
snapped_parts cpu drops bytes filled =
    closed (codes "{\"cpu\":") (decimal cpu) (codes ",\"data\":") (compact_text (string (encode_lower bytes)))
    (codes ",\"drops\":") (decimal drops) (codes ",\"filled\":") (compact_text (boolean filled))
    (codes ",\"ok\":true}") (10 ∷ [])

quotes_apart : (a b h c : List ℕ) → a ++ b ++ (34 ∷ (h ++ 34 ∷ [])) ++ c ≡ a ++ (b ++ 34 ∷ []) ++ h ++ (34 ∷ c)
quotes_apart a b h c = simp append_assoc

pub text-snapped : (cpu drops : ℕ) (bytes : List ℕ) (filled : Bool) → AllByRecursion (λ byte. byte < 256) bytes
    → reply_text (snapped cpu bytes drops filled)
    ≡ codes "{\"cpu\":" ++ decimal cpu ++ codes ",\"data\":\"" ++ encode_lower bytes ++ codes "\",\"drops\":" ++
    decimal drops ++ codes ",\"filled\":" ++ (if filled then codes "true" else codes "false") ++ codes
    ",\"ok\":true}\n"
unfolding snapped_round
text-snapped cpu drops bytes filled small =
    snapped_parts cpu drops bytes filled
    ∙ ap (λ text. snapped_round cpu drops text (compact_text (boolean filled))) (text-encode_lower bytes small)
    ∙ ap (snapped_round cpu drops (34 ∷ (encode_lower bytes ++ 34 ∷ []))) (text-boolean filled)
    ∙ ap (λ front. front ++ decimal drops ++ codes ",\"filled\":" ++ (if filled then codes "true" else codes "false")
    ++ codes ",\"ok\":true}\n") (quotes_apart (codes "{\"cpu\":" ++ decimal cpu) (codes ",\"data\":") (encode_lower
    bytes) (codes ",\"drops\":"))

pub bytes_small : (bytes : List ℕ) → ((i : ℕ) → get_or bytes i 0 < 256) → AllByRecursion (λ byte. byte < 256) bytes
bytes_small [] small = tt
bytes_small (byte ∷ rest) small = (small 0, bytes_small rest (λ i. small (suc i)))
