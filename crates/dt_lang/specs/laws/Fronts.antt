-- What a piece of a predicate or a body is, by its first byte.
use Rattle.std.proofs.Common.{◌≡◌, ◌≢◌, ℕ, ◌+◌, ◌<◌, ◌≤◌, ◌⊎◌, inl, inr, true, false, cond, ltb, List, [], ◌∷◌, ◌++◌}
use Rattle.std.proofs.Common.{length, get_or, refl, sym, ap, ◌∙◌, subst, arith}
use Rattle.std.proofs.lemmas.Bool.Decides.{nat_tests}
use Rattle.std.specs.Char.{is_ascii_digit}
use Rattle.std.specs.List.{AllPass}
use Rattle.std.specs.Str.Parse.{AllDigits}
use Rattle.dt_names.specs.declared.short_text.TheConstants.{SHORT_TEXT_MAX}
use Rattle.dt_lang.specs.Class.{is_word_byte, is_string_byte}
use Rattle.dt_lang.specs.Lexeme.{IsIdentifier, IsAggregationName, OPENING, IsBodyPiece}
use Rattle.dt_lang.specs.Number.{IsNumber, IsDecimal, IsOctal}
use Rattle.dt_lang.specs.machine.Piece.{start_of, NumberOf, aggregation_read}
use Rattle.dt_lang.specs.Spelling.{spelling}
use Rattle.dt_lang.specs.Word.{IsWord}
use Rattle.dt_lang.specs.declared.piece.Piece.{Piece}
use Rattle.dt_lang.specs.declared.piece.Piece.TheVariants as piece
use Rattle.dt_lang.specs.declared.piece.Start.{Start}
use Rattle.dt_lang.specs.declared.piece.Start.TheVariants as start
use Rattle.dt_lang.specs.declared.token.Sign.{Sign}
use Rattle.dt_lang.specs.declared.fault.Limit.TheVariants.{StringBytes, NameBytes}
use Rattle.dt_lang.specs.declared.token.Sign.TheVariants as sign
use Rattle.dt_lang.specs.declared.token.Token.TheVariants as token
use Rattle.dt_lang.specs.declared.word.Word.{Word}
use Rattle.dt_lang.specs.laws.Lists.{some_length}
use Rattle.dt_lang.specs.laws.Runs.{all_pass, none_pass}
use Rattle.dt_lang.specs.laws.Signs.{some_byte}
use Rattle.dt_lang.specs.laws.Starts.{letter, digit, decimal_digit, word_of_value}

-- a text with its closing quote, and one that is too long
pub record Closed (bytes inside : List ℕ) (found : Piece) : Type 0 where
  pub cut : bytes ≡ 34 ∷ (inside ++ (34 ∷ []))
  pub short : length inside ≤ SHORT_TEXT_MAX
  pub is : found ≡ piece.Token (token.String inside) (length bytes)

pub record Open (bytes inside : List ℕ) (found : Piece) : Type 0 where
  pub cut : bytes ≡ 34 ∷ inside
  pub long : SHORT_TEXT_MAX < length inside
  pub is : found ≡ piece.Overlong StringBytes (length bytes)

-- what is known of a piece that begins so
abbrev pub Fits : Start → List ℕ → Piece → Type 0
Fits start.Letter bytes found = AllPass is_word_byte bytes
    × ((w : Word) × IsWord bytes w × (found ≡ piece.Token (token.Word w) (length bytes)))
Fits start.Digit bytes found = AllPass is_word_byte bytes × NumberOf bytes found
Fits start.Quote bytes found =
    (inside : List ℕ) × AllPass is_string_byte inside × (Closed bytes inside found ⊎ Open bytes inside found)
Fits start.At bytes found =
    (name : List ℕ) × (bytes ≡ 64 ∷ name) × IsAggregationName name × (found ≡ aggregation_read name)
Fits start.Other bytes found =
    ((s : Sign) × (bytes ≡ spelling s) × (found ≡ piece.Token (token.Sign s) (length bytes)))
    ⊎ ((bytes ≡ OPENING) × (found ≡ piece.Stray))

pub record Front (bytes : List ℕ) (found : Piece) : Type 0 where
  pub some : bytes ≢ []
  pub fits : Fits (start_of (get_or bytes 0 0)) bytes found

-- a front of this start
front : (s : Start) (bytes : List ℕ) (found : Piece) → bytes ≢ [] → start_of (get_or bytes 0 0) ≡ s
    → Fits s bytes found → Front bytes found
front s bytes found some e h = record { some = some; fits = subst (λ t. Fits t bytes found) (sym e) h }

pub cons_some : (bytes : List ℕ) (x : ℕ) (xs : List ℕ) → bytes ≡ x ∷ xs → bytes ≢ []
cons_some bytes x xs e n = let bad : x ∷ xs ≡ [] = sym e ∙ n in cc

start_at : (bytes : List ℕ) (x : ℕ) (xs : List ℕ) → bytes ≡ x ∷ xs → start_of (get_or bytes 0 0) ≡ start_of x
start_at bytes x xs e = ap (λ (s : List ℕ). start_of (get_or s 0 0)) e

-- numbers
digits_pass : (radix : ℕ) (digits : List ℕ) → radix ≤ 36 → AllDigits radix digits → AllPass is_word_byte digits
digits_pass radix [] small h = none_pass is_word_byte
digits_pass radix (d ∷ ds) small h =
    all_pass is_word_byte d ds (word_of_value d (let k = h.0 in omega arith)) (digits_pass radix ds small h.1)

-- the bytes of a number: a digit, and what passes
pub record NumberRun (bytes : List ℕ) : Type 0 where
  pub some : bytes ≢ []
  pub begins : is_ascii_digit (get_or bytes 0 0) ≡ true
  pub all : AllPass is_word_byte bytes

decimal_run : (bytes digits : List ℕ) (radix : ℕ) → IsDecimal bytes radix digits → AllDigits radix digits
    → NumberRun bytes
decimal_run [] digits radix w all = absurd (w.some refl)
decimal_run (x ∷ xs) digits radix w all =
    let h : AllDigits 10 (x ∷ xs) = subst (λ r. AllDigits r (x ∷ xs)) w.base (subst (AllDigits radix) w.cut all) in
    record {
      some = cons_some (x ∷ xs) x xs refl;
      begins = decimal_digit x h.0;
      all = digits_pass 10 (x ∷ xs) (omega arith) h;
    }

octal_run : (bytes digits : List ℕ) (radix : ℕ) → IsOctal bytes radix digits → AllDigits radix digits
    → NumberRun bytes
octal_run bytes digits radix w all =
    let base = w.base in
    record {
      some = cons_some bytes 48 digits w.cut;
      begins = ap (λ (s : List ℕ). is_ascii_digit (get_or s 0 0)) w.cut;
      all =
          subst (AllPass is_word_byte) (sym w.cut)
          (all_pass is_word_byte 48 digits refl (digits_pass radix digits (omega arith) all));
    }

hex_run : (bytes digits : List ℕ) (radix x : ℕ) → is_word_byte x ≡ true → radix ≡ 16 → bytes ≡ 48 ∷ x ∷ digits
    → AllDigits radix digits → NumberRun bytes
hex_run bytes digits radix x word base cut all = record {
  some = cons_some bytes 48 (x ∷ digits) cut;
  begins = ap (λ (s : List ℕ). is_ascii_digit (get_or s 0 0)) cut;
  all =
      subst (AllPass is_word_byte) (sym cut)
      (all_pass is_word_byte 48 (x ∷ digits) refl
      (all_pass is_word_byte x digits word (digits_pass radix digits (omega arith) all)));
}

pub number_run : (bytes : List ℕ) (n : ℕ) → IsNumber bytes n → NumberRun bytes
number_run bytes n h = elim h.written [
  | inl w ↦ decimal_run bytes h.digits h.radix w h.all
  | inr w ↦ elim w [
    | inl o ↦ octal_run bytes h.digits h.radix o h.all
    | inr x ↦ elim x.cut [
      | inl e ↦ hex_run bytes h.digits h.radix 120 refl x.base e h.all
      | inr e ↦ hex_run bytes h.digits h.radix 88 refl x.base e h.all
    ]
  ]
]

-- no sign begins otherwise
sign_starts : (s : Sign) → start_of (get_or (spelling s) 0 0) ≡ start.Other
sign_starts sign.OrOr = refl
sign_starts _ = refl

spelled_some : (s : Sign) (bytes : List ℕ) → bytes ≡ spelling s → bytes ≢ []
spelled_some s bytes e n =
    let f : length (spelling s) ≡ 0 = ap (λ (t : List ℕ). length t) (sym e ∙ n) in
    let g = some_byte s in
    omega arith

not_long : (n m : ℕ) → n ≤ m → ltb m n ≡ false
not_long n m h = grind (arith, nat_tests)

is_long : (n m : ℕ) → m < n → ltb m n ≡ true
is_long n m h = grind (arith, nat_tests)

pub short_aggregation : (name : List ℕ) → length name ≤ SHORT_TEXT_MAX
    → aggregation_read name ≡ piece.Token (token.Aggregation name) (length name + 1)
short_aggregation name h =
    ap (λ b. cond b (piece.Overlong NameBytes (length name + 1)) (piece.Token (token.Aggregation name) (length name + 1)))
    (not_long (length name) SHORT_TEXT_MAX h)

pub long_aggregation : (name : List ℕ) → SHORT_TEXT_MAX < length name
    → aggregation_read name ≡ piece.Overlong NameBytes (length name + 1)
long_aggregation name h =
    ap (λ b. cond b (piece.Overlong NameBytes (length name + 1)) (piece.Token (token.Aggregation name) (length name + 1)))
    (is_long (length name) SHORT_TEXT_MAX h)

word_front : (bytes : List ℕ) (w : Word) (size : ℕ) → IsIdentifier bytes → IsWord bytes w → size ≡ length bytes
    → Front bytes (piece.Token (token.Word w) size)
word_front bytes w size i is e =
    front start.Letter bytes _ i.some
    (letter (get_or bytes 0 0) i.begins (i.all 0 0 (some_length bytes i.some)))
    (i.all, (w, is, ap (λ n. piece.Token (token.Word w) n) e))

number_front : (bytes : List ℕ) (found : Piece) → NumberRun bytes → NumberOf bytes found → Front bytes found
number_front bytes found r h = front start.Digit bytes found r.some (digit (get_or bytes 0 0) r.begins) (r.all, h)

pub front_of : (bytes : List ℕ) (found : Piece) → IsBodyPiece bytes found → Front bytes found
front_of bytes (piece.Token (token.Word w) size) (t, e) = word_front bytes w size t.0 t.1 e
front_of bytes (piece.Token (token.Number z) size) (t, e) =
    number_front bytes _ (number_run bytes t.0 t.1) (t.0, t.1, ap token.Number t.2, e)
front_of bytes (piece.Token (token.String inside) size) (t, e) =
    front start.Quote bytes _ (cons_some bytes 34 _ t.0) (start_at bytes 34 _ t.0)
    (inside, t.1, inl (record { cut = t.0; short = t.2; is = ap (λ n. piece.Token (token.String inside) n) e }))
front_of bytes (piece.Token (token.Aggregation name) size) (t, e) =
    let len : size ≡ length name + 1 = e ∙ ap (λ (s : List ℕ). length s) t.0 ∙ (omega arith) in
    front start.At bytes _ (cons_some bytes 64 name t.0) (start_at bytes 64 name t.0)
    (name, t.0, t.1, ap (λ n. piece.Token (token.Aggregation name) n) len ∙ sym (short_aggregation name t.2))
front_of bytes (piece.Token (token.Sign s) size) (t, e) =
    front start.Other bytes _ (spelled_some s bytes t)
    (ap (λ (b : List ℕ). start_of (get_or b 0 0)) t ∙ sign_starts s)
    (inl (s, t, ap (λ n. piece.Token (token.Sign s) n) e))
front_of bytes (piece.Token (token.Description d) size) (t, e) = absurd t
front_of bytes (piece.Overlong StringBytes size) (h, e) =
    front start.Quote bytes _ (cons_some bytes 34 h.inside h.begins.0) (start_at bytes 34 h.inside h.begins.0)
    (h.inside, h.begins.1, inr (record { cut = h.begins.0; long = h.long; is = ap (piece.Overlong StringBytes) e }))
front_of bytes (piece.Overlong NameBytes size) (h, e) =
    let len : size ≡ length h.inside + 1 = e ∙ ap (λ (s : List ℕ). length s) h.begins.0 ∙ (omega arith) in
    front start.At bytes _ (cons_some bytes 64 h.inside h.begins.0) (start_at bytes 64 h.inside h.begins.0)
    (h.inside, h.begins.0, inr h.begins.1, ap (piece.Overlong NameBytes) len ∙ sym (long_aggregation h.inside h.long))
front_of bytes (piece.Overlong _ size) (h, e) = absurd h.begins
front_of bytes piece.Stray (inl e) =
    front start.Other bytes piece.Stray (cons_some bytes 47 (42 ∷ []) e) (start_at bytes 47 (42 ∷ []) e)
    (inr (e, refl))
front_of bytes piece.Stray (inr (r, none)) =
    number_front bytes piece.Stray (record { some = r.some; begins = r.begins; all = r.all }) none
front_of bytes piece.End h = absurd h

-- a front of a text begins as the text does
pub front_fits : (text bytes behind : List ℕ) (found : Piece) → text ≡ bytes ++ behind → IsBodyPiece bytes found
    → Fits (start_of (get_or text 0 0)) bytes found
front_fits text [] behind found cut h = absurd ((front_of [] found h).some refl)
front_fits text (x ∷ xs) behind found cut h =
    let same : get_or text 0 0 ≡ x = ap (λ (s : List ℕ). get_or s 0 0) cut in
    subst (λ b. Fits (start_of b) (x ∷ xs) found) (sym same) (front_of (x ∷ xs) found h).fits
