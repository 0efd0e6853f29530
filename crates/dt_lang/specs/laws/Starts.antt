-- What the first byte of a piece says.
use Rattle.std.proofs.Common.{◌≡◌, ℕ, ◌<◌, Bool, true, false, cond, ◌||◌, eqb, List, refl, sym, arith, ◌≤◌, ◌≢◌, inl, inr, ap}
use Rattle.std.proofs.Common.{◌∙◌, ◌⊎◌, ◌&&◌, not, length}
use Rattle.std.proofs.lemmas.Bool.Decides.{nat_tests}
use Rattle.std.proofs.lemmas.Bool.{cases_eq, cases_lt, false≢true}
use Rattle.std.proofs.lemmas.List.Sums.{AllPass-from_list_all, list_all-from_AllPass}
use Rattle.std.specs.Char.{is_ascii_digit, digit_value}
use Rattle.std.specs.List.{All, AllPass, list_all}
use Rattle.dt_names.specs.Limits.{name_max}
use Rattle.dt_names.specs.Name.{IsNameByte, IsName}
use Rattle.dt_lang.specs.Class.{is_word_byte, is_description_byte}
use Rattle.dt_lang.specs.Lexeme.{IsDescriptionByte}
use Rattle.dt_lang.specs.laws.Runs.{truth_of}
use Rattle.dt_lang.specs.machine.Piece.{start_of}
use Rattle.dt_lang.specs.declared.piece.Start.{Start}
use Rattle.dt_lang.specs.declared.piece.Start.TheVariants as start

abbrev StartBy : Bool → Bool → Bool → Bool → Start → Type 0
StartBy digit word quote at start.Digit = digit ≡ true
StartBy digit word quote at start.Letter = (digit ≡ false) × (word ≡ true)
StartBy digit word quote at start.Quote = quote ≡ true
StartBy digit word quote at start.At = at ≡ true
StartBy digit word quote at start.Other = Unit {0}

start_by : (digit word quote at : Bool) → StartBy digit word quote at (cond digit start.Digit (cond word start.Letter
    (cond quote start.Quote (cond at start.At start.Other))))
start_by true word quote at = refl
start_by false true quote at = (refl, refl)
start_by false false true at = refl
start_by false false false true = refl
start_by false false false false = tt

-- what is known of a byte that begins so
abbrev pub Starts : ℕ → Start → Type 0
Starts byte s = StartBy (is_ascii_digit byte) (is_word_byte byte) (eqb byte 34) (eqb byte 64) s

pub starts : (byte : ℕ) → Starts byte (start_of byte)
starts byte = start_by (is_ascii_digit byte) (is_word_byte byte) (eqb byte 34) (eqb byte 64)

letter_by : (digit word quote at : Bool) → digit ≡ false → word ≡ true
    → cond digit start.Digit (cond word start.Letter (cond quote start.Quote (cond at start.At start.Other)))
    ≡ start.Letter
letter_by true word quote at d e = absurd (false≢true (sym d))
letter_by false true quote at d e = refl
letter_by false false quote at d e = absurd (false≢true e)

pub letter : (byte : ℕ) → is_ascii_digit byte ≡ false → is_word_byte byte ≡ true → start_of byte ≡ start.Letter
letter byte d e = letter_by (is_ascii_digit byte) (is_word_byte byte) (eqb byte 34) (eqb byte 64) d e

digit_by : (digit word quote at : Bool) → digit ≡ true → cond digit start.Digit (cond word start.Letter
    (cond quote start.Quote (cond at start.At start.Other))) ≡ start.Digit
digit_by true word quote at d = refl
digit_by false word quote at d = absurd (false≢true d)

pub digit : (byte : ℕ) → is_ascii_digit byte ≡ true → start_of byte ≡ start.Digit
digit byte d = digit_by (is_ascii_digit byte) (is_word_byte byte) (eqb byte 34) (eqb byte 64) d

or_first : (a b c d : Bool) → a ≡ true → (((a || b) || c) || d) ≡ true
or_first true b c d e = refl
or_first false b c d e = absurd (false≢true e)

-- a digit is a byte of a word
pub word_digit : (byte : ℕ) → is_ascii_digit byte ≡ true → is_word_byte byte ≡ true
word_digit byte e = or_first _ _ _ _ e

-- what has a value as a digit
pub decimal_digit : (byte : ℕ) → digit_value byte < 10 → is_ascii_digit byte ≡ true
decimal_digit byte h = grind (arith, nat_tests)

pub word_of_value : (byte : ℕ) → digit_value byte < 36 → is_word_byte byte ≡ true
word_of_value byte h = grind (arith, nat_tests)

-- the bytes of descriptions
pub described_byte : (byte : ℕ) → is_description_byte byte ≡ true → IsDescriptionByte byte
described_byte byte h = elim (cases_eq byte 58) [
  | inl e ↦ inr e
  | inr n ↦ inl (record {
    above_blanks = above byte h;
    below_delete = below byte h;
    no_colon = n;
    no_comma = λ e. false≢true (ap is_description_byte (sym e) ∙ h);
    no_slash = λ e. false≢true (ap is_description_byte (sym e) ∙ h);
    no_open_brace = λ e. false≢true (ap is_description_byte (sym e) ∙ h);
    no_close_brace = λ e. false≢true (ap is_description_byte (sym e) ∙ h);
    no_quote = λ e. false≢true (ap is_description_byte (sym e) ∙ h);
  })
]
  where
    above : (byte : ℕ) → is_description_byte byte ≡ true → 33 ≤ byte
    above byte h = grind (arith, nat_tests)

    below : (byte : ℕ) → is_description_byte byte ≡ true → byte ≤ 126
    below byte h = grind (arith, nat_tests)

-- a byte of a word is one of a name
word_byte_named : (byte : ℕ) → is_word_byte byte ≡ true → IsNameByte byte
word_byte_named byte h = record {
  above_blanks = above byte h;
  below_delete = below byte h;
  no_colon = λ e. false≢true (ap is_word_byte (sym e) ∙ h);
  no_comma = λ e. false≢true (ap is_word_byte (sym e) ∙ h);
  no_slash = λ e. false≢true (ap is_word_byte (sym e) ∙ h);
  no_open_brace = λ e. false≢true (ap is_word_byte (sym e) ∙ h);
  no_close_brace = λ e. false≢true (ap is_word_byte (sym e) ∙ h);
  no_quote = λ e. false≢true (ap is_word_byte (sym e) ∙ h);
}
  where
    above : (byte : ℕ) → is_word_byte byte ≡ true → 33 ≤ byte
    above byte h = grind (arith, nat_tests)

    below : (byte : ℕ) → is_word_byte byte ≡ true → byte ≤ 126
    below byte h = grind (arith, nat_tests)

pub word_bytes_named : (bytes : List ℕ) → AllPass is_word_byte bytes → All IsNameByte bytes
word_bytes_named bytes h = λ k d below. word_byte_named _ (h k d below)

-- the bytes of names, by a test
abbrev is_name : ℕ → Bool
is_name byte = is_description_byte byte && not (eqb byte 58)

is_name_named : (byte : ℕ) → is_name byte ≡ true → IsNameByte byte
is_name_named byte h = elim (described_byte byte (described byte h)) [
  | inl is ↦ is
  | inr colon ↦ absurd (false≢true (ap is_name (sym colon) ∙ h))
]
  where
    described : (byte : ℕ) → is_name byte ≡ true → is_description_byte byte ≡ true
    described byte h = grind (arith, nat_tests)

name_byte : (byte : ℕ) → IsNameByte byte → is_description_byte byte ≡ true
name_byte byte h =
    let above = h.above_blanks in
    let below = h.below_delete in
    let comma = h.no_comma in
    let slash = h.no_slash in
    let begun = h.no_open_brace in
    let ended = h.no_close_brace in
    let quote = h.no_quote in
    passes byte above below comma slash begun ended quote
  where
    passes : (byte : ℕ) → 33 ≤ byte → byte ≤ 126 → byte ≢ 44 → byte ≢ 47 → byte ≢ 123 → byte ≢ 125 → byte ≢ 34
        → is_description_byte byte ≡ true
    passes byte above below comma slash begun ended quote = grind (arith, nat_tests)

named_is_name : (byte : ℕ) → IsNameByte byte → is_name byte ≡ true
named_is_name byte h =
    let described = name_byte byte h in
    let colon = h.no_colon in
    passes byte described colon
  where
    passes : (byte : ℕ) → is_description_byte byte ≡ true → byte ≢ 58 → is_name byte ≡ true
    passes byte described colon = grind (arith, nat_tests)

-- whether bytes are a name's
pub name_or_not : (bytes : List ℕ) → IsName bytes ⊎ (IsName bytes → ⊥)
name_or_not bytes = elim (truth_of (list_all is_name bytes)) [
  | inl all ↦ elim (cases_lt name_max (length bytes)) [
    | inl more ↦ inr (λ is. let few = is.short in omega arith)
    | inr few ↦ inl (record { short = few; plain = λ k d below. is_name_named _ (AllPass-from_list_all is_name bytes all k d below) })
  ]
  | inr none ↦ inr (λ is. false≢true (sym none ∙ list_all-from_AllPass is_name bytes (λ k d below. named_is_name _ (is.plain k d below))))
]

pub byte_described : (byte : ℕ) → IsDescriptionByte byte → is_description_byte byte ≡ true
byte_described byte (inl h) = name_byte byte h
byte_described byte (inr e) = ap is_description_byte e
