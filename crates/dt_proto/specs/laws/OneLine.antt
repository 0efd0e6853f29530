-- The text of JSON without blanks is one line: no byte of it is a newline. So a reply is one line.
use Rattle.std.proofs.Common.{◌≡◌, ◌≢◌, ℕ, zero, suc, ◌+◌, ◌/◌, ◌%◌, ◌==◌, ◌||◌, Bool, true, false, cond, ℤ, pos, negsuc, List, []}
use Rattle.std.proofs.Common.{◌∷◌, ◌++◌, nat_lt, decimal, refl, sym, subst, arith, inl, inr}
use Rattle.std.proofs.lemmas.Bool.{both_ways, cond_both, eq-eqb}
use Rattle.std.proofs.lemmas.Bool.Decides.{eqb_tells}
use Rattle.std.proofs.lemmas.List.Elements.{All-nil, All-cons, All-append}
use Rattle.std.specs.List.{list_any}
use Rattle.std.specs.Fmt.{digit_glyph, digits_onto, digits, signed_decimal}
use Rattle.std.specs.Char.{digit_char}
use Rattle.json.specs.Print.{escape_letter, escape_byte, escape, quoted}
use Rattle.serde_json.specs.Data.{Num, unsigned, negative, float, Data, null, boolean, number, string, array, object}
use Rattle.serde_json.specs.Data.{Items, no_items, item, Members, no_members, member}
use Rattle.serde_json.specs.Written.{number_text, comma_if, compact_text, items_text, members_text}
use Rattle.dt_life.specs.Answer.{Answer}
use Rattle.dt_proto.specs.Reply.{reply_members, reply_text}
use Rattle.dt_proto.specs.Splits.{HasNoNewline, with_newline}

-- a byte that is no newline
abbrev Other : ℕ → Type 0
Other byte = byte ≢ 10

none : HasNoNewline []
none = All-nil Other

more : (byte : ℕ) (text : List ℕ) → byte ≢ 10 → HasNoNewline text → HasNoNewline (byte ∷ text)
more = All-cons Other

pub both : (a b : List ℕ) → HasNoNewline a → HasNoNewline b → HasNoNewline (a ++ b)
both = All-append Other

or_false : (a b : Bool) → (a || b) ≡ false → (a ≡ false) × (b ≡ false)
or_false true b h = cc
or_false false b h = (refl, h)

-- a text of which each byte was looked at
free : (text : List ℕ) → list_any (λ byte. byte == 10) text ≡ false → HasNoNewline text
free [] h = none
free (byte ∷ text) h =
    let parts = or_false (byte == 10) (list_any (λ other. other == 10) text) h in
    more byte text (λ same. both_ways (byte == 10) parts.0 (eq-eqb byte 10 same)) (free text parts.1)

-- digits
glyph_other : (upper : Bool) (d : ℕ) → digit_glyph upper d ≢ 10
glyph_other upper d =
    cond_both (nat_lt d 10) (48 + d) (cond upper (55 + d) (87 + d)) Other
    (λ _ e. omega arith)
    (λ _. cond_both upper (55 + d) (87 + d) Other (λ _ e. omega arith) (λ _ e. omega arith))

digits_line : (k base : ℕ) (upper : Bool) (n : ℕ) (text : List ℕ) → HasNoNewline text
    → HasNoNewline (digits_onto k base upper n text)
digits_line zero base upper n text h = h
digits_line (suc k) base upper n text h =
    let one = more (digit_glyph upper (n % base)) text (glyph_other upper (n % base)) h in
    cond_both (n / base == 0) (digit_glyph upper (n % base) ∷ text)
    (digits_onto k base upper (n / base) (digit_glyph upper (n % base) ∷ text)) HasNoNewline
    (λ _. one) (λ _. digits_line k base upper (n / base) (digit_glyph upper (n % base) ∷ text) one)

pub decimal_line : (n : ℕ) → HasNoNewline (decimal n)
unfolding digits
decimal_line n = digits_line 64 10 false n [] none

signed_line : (z : ℤ) → HasNoNewline (signed_decimal z)
signed_line (pos n) = decimal_line n
signed_line (negsuc n) = more 45 (decimal (suc n)) (λ e. cc) (decimal_line (suc n))

-- strings
char_other : (d : ℕ) → digit_char d ≢ 10
char_other d = cond_both (nat_lt d 10) (48 + d) (87 + d) Other (λ _ e. omega arith) (λ _ e. omega arith)

letter_other : (x : ℕ) → x ≢ 10 → escape_letter x ≢ 10
letter_other x other =
    cond_both ((x == 34) || (x == 92)) x _ Other (λ _. other)
    (λ _. cond_both (x == 8) 98 _ Other (λ _ e. cc)
    (λ _. cond_both (x == 12) 102 _ Other (λ _ e. cc)
    (λ _. cond_both (x == 10) 110 _ Other (λ _ e. cc)
    (λ _. cond_both (x == 13) 114 _ Other (λ _ e. cc)
    (λ _. cond_both (x == 9) 116 0 Other (λ _ e. cc) (λ _ e. cc))))))

-- six bytes, of which the last two are digits
hexadecimal : (high low : ℕ) → high ≢ 10 → low ≢ 10 → HasNoNewline (92 ∷ 117 ∷ 48 ∷ 48 ∷ high ∷ low ∷ [])
hexadecimal high low h l =
    more 92 (117 ∷ 48 ∷ 48 ∷ high ∷ low ∷ []) (λ e. cc)
    (more 117 (48 ∷ 48 ∷ high ∷ low ∷ []) (λ e. cc)
    (more 48 (48 ∷ high ∷ low ∷ []) (λ e. cc)
    (more 48 (high ∷ low ∷ []) (λ e. cc)
    (more high (low ∷ []) h (more low [] l none)))))

escaped_other : (x : ℕ) → x ≢ 10 → HasNoNewline (escape_byte x)
unfolding escape_byte
escaped_other x other =
    cond_both (nat_lt 0 (escape_letter x)) (92 ∷ escape_letter x ∷ []) _ HasNoNewline
    (λ _. more 92 (escape_letter x ∷ []) (λ e. cc) (more (escape_letter x) [] (letter_other x other) none))
    (λ _. cond_both (nat_lt x 32) (92 ∷ 117 ∷ 48 ∷ 48 ∷ digit_char (x / 16) ∷ digit_char (x % 16) ∷ []) (x ∷ [])
    HasNoNewline
    (λ _. hexadecimal (digit_char (x / 16)) (digit_char (x % 16)) (char_other (x / 16)) (char_other (x % 16)))
    (λ _. more x [] other none))

newline_escaped : HasNoNewline (escape_byte 10)
unfolding escape_byte
newline_escaped = more 92 (110 ∷ []) (λ e. cc) (more 110 [] (λ e. cc) none)

escaped : (x : ℕ) → HasNoNewline (escape_byte x)
escaped x = elim (eqb_tells x 10) [
  | inl is ↦ subst (λ byte. HasNoNewline (escape_byte byte)) (sym is.1) newline_escaped
  | inr is_not ↦ escaped_other x is_not.1
]

escape_line : (s : List ℕ) → HasNoNewline (escape s)
escape_line [] = none
escape_line (x ∷ s) = both (escape_byte x) (escape s) (escaped x) (escape_line s)

quoted_line : (s : List ℕ) → HasNoNewline (quoted s)
quoted_line s = more 34 (escape s ++ 34 ∷ []) (λ e. cc) (both (escape s) (34 ∷ []) (escape_line s) (more 34 [] (λ e. cc) none))

-- values
number_line : (n : Num) → HasNoNewline (number_text n)
number_line (unsigned n) = decimal_line n
number_line (negative z) = signed_line z
number_line (float x) = none

comma_line : (later : Bool) → HasNoNewline (comma_if later)
comma_line true = more 44 [] (λ e. cc) none
comma_line false = none

mutual
  pub value_line : (d : Data) → HasNoNewline (compact_text d)
  value_line null = free (110 ∷ 117 ∷ 108 ∷ 108 ∷ []) refl
  value_line (boolean true) = free (116 ∷ 114 ∷ 117 ∷ 101 ∷ []) refl
  value_line (boolean false) = free (102 ∷ 97 ∷ 108 ∷ 115 ∷ 101 ∷ []) refl
  value_line (number n) = number_line n
  value_line (string s) = quoted_line s
  value_line (array ds) = more 91 (items_text false ds) (λ e. cc) (items_line false ds)
  value_line (object ms) = more 123 (members_text false ms) (λ e. cc) (members_line false ms)

  items_line : (later : Bool) (ds : Items) → HasNoNewline (items_text later ds)
  items_line later no_items = more 93 [] (λ e. cc) none
  items_line later (item d ds) =
      both (comma_if later) (compact_text d ++ items_text true ds) (comma_line later)
      (both (compact_text d) (items_text true ds) (value_line d) (items_line true ds))

  members_line : (later : Bool) (ms : Members) → HasNoNewline (members_text later ms)
  members_line later no_members = more 125 [] (λ e. cc) none
  members_line later (member k d ms) =
      both (comma_if later) (quoted k ++ 58 ∷ (compact_text d ++ members_text true ms)) (comma_line later)
      (both (quoted k) (58 ∷ (compact_text d ++ members_text true ms)) (quoted_line k)
      (more 58 (compact_text d ++ members_text true ms) (λ e. cc)
      (both (compact_text d) (members_text true ms) (value_line d) (members_line true ms))))

-- A reply is one line and its newline.
pub reply_is_line : (answer : Answer) → (reply : List ℕ) × (reply_text answer ≡ with_newline reply) × HasNoNewline reply
reply_is_line answer = (compact_text (object (reply_members answer)), refl, value_line (object (reply_members answer)))
