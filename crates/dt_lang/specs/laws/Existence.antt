-- In each text something stands.
use Rattle.std.proofs.Common.{◌≡◌, ◌≢◌, ℕ, zero, suc, ◌^◌, ◌⊎◌, inl, inr, Bool, true, false, List, [], ◌∷◌, ◌++◌}
use Rattle.std.proofs.Common.{Option, Some, None, Result, Ok, Err, length, get_or, drop, refl, sym, ap, ◌∙◌, subst, arith, pos}
use Rattle.std.proofs.lemmas.Bool.{cases_eq, cases_lt}
use Rattle.std.specs.Char.{digit_value}
use Rattle.std.specs.List.{take_while, All, Contains}
use Rattle.std.specs.Str.Parse.{digits_value, AllDigits}
use Rattle.dt_expr.specs.Operators.{wrapped}
use Rattle.dt_program.specs.Description.{DescForm, ReadsDescription}
use Rattle.dt_program.specs.declared.description.DescriptionFault.{DescriptionFault}
use Rattle.dt_program.specs.declared.description.Description.{Description}
use Rattle.dt_lang.specs.Class.{is_word_byte, is_string_byte, is_description_byte}
use Rattle.dt_lang.specs.Lexeme.{IsDescriptionToken}
use Rattle.dt_lang.specs.Number.{IsNumber, IsDecimal, IsOctal, IsHexadecimal}
use Rattle.dt_lang.specs.machine.KnownWord.{as_word}
use Rattle.dt_lang.specs.machine.Piece.{start_of, identifier_at, NumberOf, string_piece, aggregation_read, BeginsWith, FindsSign}
use Rattle.dt_lang.specs.machine.Piece.{FindsAs, FindsInBody, head_sign, FindsRun, FindsInHead, FindsInMode, FindsUncommented}
use Rattle.dt_lang.specs.machine.Piece.{FindsPiece, opens_comment}
use Rattle.dt_lang.specs.Spelling.{spelling}
use Rattle.dt_lang.specs.Word.{name_of_word, IsKeptName, IsWord}
use Rattle.dt_lang.specs.declared.mode.LexerMode.{LexerMode}
use Rattle.dt_lang.specs.declared.mode.LexerMode.TheVariants as mode
use Rattle.dt_lang.specs.declared.piece.Piece.{Piece}
use Rattle.dt_lang.specs.declared.piece.Piece.TheVariants as piece
use Rattle.dt_lang.specs.declared.piece.Start.{Start}
use Rattle.dt_lang.specs.declared.piece.Start.TheVariants as start
use Rattle.dt_lang.specs.declared.sign.TheConstants.{PAIRS, SINGLES}
use Rattle.dt_lang.specs.declared.token.Sign.{Sign}
use Rattle.dt_lang.specs.declared.token.Token.TheVariants as token
use Rattle.dt_lang.specs.declared.word.TheConstants.{WORDS}
use Rattle.dt_lang.specs.declared.word.KnownWord.{KnownWord}
use Rattle.dt_lang.specs.declared.word.Word.{Word}
use Rattle.dt_lang.specs.declared.word.Word.TheVariants as word
use Rattle.dt_lang.specs.laws.Fronts.{number_run}
use Rattle.dt_lang.specs.laws.Lists.{tails}
use Rattle.dt_lang.specs.laws.Sameness.{Written, no_x, no_zero, same_hexadecimal}
use Rattle.dt_lang.specs.laws.Signs.{BeginsWithNone, longest_pair, longest_single, no_sign}
use Rattle.dt_lang.specs.laws.Starts.{name_or_not}
use Rattle.dt_lang.specs.laws.Words.{named, unknown}

-- words
same_or_not : (a b : List ℕ) → (a ≡ b) ⊎ (a ≢ b)
same_or_not [] [] = inl refl
same_or_not [] (y ∷ ys) = inr (λ e. cc)
same_or_not (x ∷ xs) [] = inr (λ e. cc)
same_or_not (x ∷ xs) (y ∷ ys) = elim (cases_eq x y) [
  | inl e ↦ elim (same_or_not xs ys) [ inl f ↦ inl (cc) | inr n ↦ inr (λ k. n (tails x y xs ys k).1) ]
  | inr n ↦ inr (λ k. n (tails x y xs ys k).0)
]

named_or_not : (own : Option (List ℕ)) (name : List ℕ) → (own ≡ Some name) ⊎ (own ≢ Some name)
named_or_not None name = inr (λ e. cc)
named_or_not (Some own) name = elim (same_or_not own name) [ inl e ↦ inl (ap Some e) | inr n ↦ inr (λ e. n (cc)) ]

all_more : {X : Type 0} (P : X → Type 0) (x : X) (xs : List X) → P x → All P xs → All P (x ∷ xs)
all_more P x xs p h zero d below = p
all_more P x xs p h (suc k) d below = h k d (omega arith)

search : (words : List KnownWord) (name : List ℕ)
    → ((w : KnownWord) × (name_of_word (as_word w) ≡ Some name)) ⊎ All (λ w. name_of_word (as_word w) ≢ Some name) words
search [] name = inr (λ k d below. absurd (omega arith))
search (w ∷ words) name = elim (named_or_not (name_of_word (as_word w)) name) [
  | inl e ↦ inl (w, e)
  | inr n ↦ elim (search words name) [
    | inl f ↦ inl f
    | inr h ↦ inr (all_more (λ v. name_of_word (as_word v) ≢ Some name) w words n h)
  ]
]

some_kept : (name : List ℕ) → (kept : Option (List ℕ)) × IsKeptName name kept
some_kept name = elim (name_or_not name) [
  | inl is ↦ (Some name, (refl, is))
  | inr not ↦ (None, not)
]

pub some_word : (name : List ℕ) → (w : Word) × IsWord name w
some_word name = elim (search WORDS name) [
  | inl f ↦ (as_word f.0, named (as_word f.0) name f.1)
  | inr h ↦ let k = some_kept name in (word.Unknown k.0, unknown name k.0 h k.1)
]

-- signs
begins_or_not : (text front : List ℕ) → BeginsWith text front ⊎ (BeginsWith text front → ⊥)
begins_or_not text [] = inl (text, refl)
begins_or_not [] (y ∷ ys) = inr (λ b. let bad = b.1 in cc)
begins_or_not (x ∷ xs) (y ∷ ys) = elim (cases_eq x y) [
  | inl e ↦ elim (begins_or_not xs ys) [
    | inl b ↦ let f = b.1 in inl (b.0, cc)
    | inr n ↦ inr (λ b. n (b.0, (tails x y xs (ys ++ b.0) b.1).1))
  ]
  | inr n ↦ inr (λ b. n (tails x y xs (ys ++ b.0) b.1).0)
]

more_contains : {X : Type 0} (x : X) (xs : List X) (y : X) → Contains xs y → Contains (x ∷ xs) y
more_contains x xs y (k, below, is) = (suc k, omega arith, is)

seek : (signs : List Sign) (text : List ℕ)
    → ((s : Sign) × Contains signs s × BeginsWith text (spelling s)) ⊎ BeginsWithNone text signs
seek [] text = inr (λ k d below. absurd (omega arith))
seek (s ∷ signs) text = elim (begins_or_not text (spelling s)) [
  | inl b ↦ inl (s, (0, omega arith, refl), b)
  | inr n ↦ elim (seek signs text) [
    | inl f ↦ inl (f.0, more_contains s signs f.0 f.1, f.2)
    | inr h ↦ inr (all_more (λ t. BeginsWith text (spelling t) → ⊥) s signs n h)
  ]
]

some_sign : (text : List ℕ) → (found : Piece) × FindsSign text found
some_sign text = elim (seek PAIRS text) [
  | inl f ↦ (
    piece.Token (token.Sign f.0) (length (spelling f.0)),
    (f.0, longest_pair text f.0 f.2 f.1, refl, refl),
  )
  | inr none ↦ elim (seek SINGLES text) [
    | inl f ↦ (
      piece.Token (token.Sign f.0) (length (spelling f.0)),
      (f.0, longest_single text f.0 none f.2 f.1, refl, refl),
    )
    | inr h ↦ (piece.Stray, no_sign text none h)
  ]
]

-- numbers
digits_or_not : (radix : ℕ) (digits : List ℕ) → AllDigits radix digits ⊎ (AllDigits radix digits → ⊥)
digits_or_not radix [] = inl tt
digits_or_not radix (d ∷ ds) = elim (cases_lt (digit_value d) radix) [
  | inl lt ↦ elim (digits_or_not radix ds) [ inl h ↦ inl (lt, h) | inr n ↦ inr (λ h. n h.1) ]
  | inr ge ↦ inr (λ h. let lt = h.0 in omega arith)
]

abbrev Number : List ℕ → Type 0
Number bytes = ((n : ℕ) × IsNumber bytes n) ⊎ ((n : ℕ) → IsNumber bytes n → ⊥)

-- where a number can be written in one way only
written : (bytes : List ℕ) (radix : ℕ) (digits : List ℕ) → Written bytes radix digits
    → ((r : ℕ) (d : List ℕ) → Written bytes r d → AllDigits r d → (r ≡ radix) × (d ≡ digits)) → Number bytes
written bytes radix digits w only = elim (digits_or_not radix digits) [
  | inl all ↦ elim (cases_lt (digits_value radix digits) (2 ^ 64)) [
    | inl lt ↦ inl (
      digits_value radix digits,
      record { radix = radix; digits = digits; written = w; all = all; value = refl; fits = lt },
    )
    | inr ge ↦ inr (λ n k.
        let s = only k.radix k.digits k.written k.all in
        let value = k.value ∙ ap (λ r. digits_value r k.digits) s.0
        ∙ ap (λ (d : List ℕ). digits_value radix d) s.1 in
        let fits = k.fits in
        omega arith)
  ]
  | inr none ↦ inr (λ n k.
      let s = only k.radix k.digits k.written k.all in
      none (subst (AllDigits radix) s.1 (subst (λ r. AllDigits r k.digits) s.0 k.all)))
]

hexadecimal_zero : (bytes : List ℕ) (r : ℕ) (d : List ℕ) → IsHexadecimal bytes r d → get_or bytes 0 0 ≡ 48
hexadecimal_zero bytes r d h = elim h.cut [
  | inl e ↦ ap (λ (s : List ℕ). get_or s 0 0) e
  | inr e ↦ ap (λ (s : List ℕ). get_or s 0 0) e
]

decimal : (x : ℕ) (xs : List ℕ) → x ≢ 48 → Number (x ∷ xs)
decimal x xs n = written (x ∷ xs) 10 (x ∷ xs) (inl own) only
  where
    own : IsDecimal (x ∷ xs) 10 (x ∷ xs)
    own = record { base = refl; cut = refl; some = λ e. cc; leads = n }

    only : (r : ℕ) (d : List ℕ) → Written (x ∷ xs) r d → AllDigits r d → (r ≡ 10) × (d ≡ x ∷ xs)
    only r d (inl k) all = (k.base, k.cut)
    only r d (inr (inl k)) all = absurd (n (tails x 48 xs d k.cut).0)
    only r d (inr (inr k)) all = absurd (n (hexadecimal_zero (x ∷ xs) r d k))

octal : (rest : List ℕ) → ((r : ℕ) (d : List ℕ) → IsHexadecimal (48 ∷ rest) r d → ⊥) → Number (48 ∷ rest)
octal rest n = written (48 ∷ rest) 8 rest (inr (inl own)) only
  where
    own : IsOctal (48 ∷ rest) 8 rest
    own = record { base = refl; cut = refl }

    only : (r : ℕ) (d : List ℕ) → Written (48 ∷ rest) r d → AllDigits r d → (r ≡ 8) × (d ≡ rest)
    only r d (inl k) all = absurd (no_zero (48 ∷ rest) d rest r k refl)
    only r d (inr (inl k)) all = (k.base, (tails 48 48 d rest (sym k.cut)).1)
    only r d (inr (inr k)) all = absurd (n r d k)

hexadecimal : (x : ℕ) (digits : List ℕ) → digit_value x ≡ 33 → IsHexadecimal (48 ∷ x ∷ digits) 16 digits
    → Number (48 ∷ x ∷ digits)
hexadecimal x digits big own = written (48 ∷ x ∷ digits) 16 digits (inr (inr own)) only
  where
    only : (r : ℕ) (d : List ℕ) → Written (48 ∷ x ∷ digits) r d → AllDigits r d → (r ≡ 16) × (d ≡ digits)
    only r d (inl k) all = absurd (no_zero (48 ∷ x ∷ digits) d (x ∷ digits) r k refl)
    only r d (inr (inl k)) all = absurd (no_x (48 ∷ x ∷ digits) d digits r x big k all refl)
    only r d (inr (inr k)) all = (k.base, same_hexadecimal (48 ∷ x ∷ digits) r 16 d digits k own)

-- after a 0
zero_and : (rest : List ℕ) → Number (48 ∷ rest)
zero_and [] = octal [] (λ r d h. elim h.cut [
  | inl e ↦ let bad : [] ≡ 120 ∷ d = (tails 48 48 _ _ e).1 in cc
  | inr e ↦ let bad : [] ≡ 88 ∷ d = (tails 48 48 _ _ e).1 in cc
])
zero_and (x ∷ []) = octal (x ∷ []) (λ r d h. elim h.cut [
  | inl e ↦ h.some (sym (tails x 120 [] d (tails 48 48 _ _ e).1).1)
  | inr e ↦ h.some (sym (tails x 88 [] d (tails 48 48 _ _ e).1).1)
])
zero_and (x ∷ y ∷ more) = elim (cases_eq x 120) [
  | inl e ↦ hexadecimal x (y ∷ more) (ap digit_value e)
      (record { base = refl; cut = inl (ap (λ z. 48 ∷ z ∷ y ∷ more) e); some = λ k. cc })
  | inr n ↦ elim (cases_eq x 88) [
    | inl e ↦ hexadecimal x (y ∷ more) (ap digit_value e)
        (record { base = refl; cut = inr (ap (λ z. 48 ∷ z ∷ y ∷ more) e); some = λ k. cc })
    | inr m ↦ octal (x ∷ y ∷ more) (λ r d h. elim h.cut [
      | inl e ↦ n (tails x 120 _ d (tails 48 48 _ _ e).1).0
      | inr e ↦ m (tails x 88 _ d (tails 48 48 _ _ e).1).0
    ])
  ]
]

pub some_number : (bytes : List ℕ) → Number bytes
some_number [] = inr (λ n h. (number_run [] n h).some refl)
some_number (x ∷ xs) = elim (cases_eq x 48) [
  | inl e ↦ subst (λ y. Number (y ∷ xs)) (sym e) (zero_and xs)
  | inr n ↦ decimal x xs n
]

number_found : (run : List ℕ) → Number run → (found : Piece) × NumberOf run found
number_found run (inl f) = (piece.Token (token.Number (wrapped (pos f.0))) (length run), (f.0, f.1, refl, refl))
number_found run (inr none) = (piece.Stray, none)

-- in a mode
some_as : (s : Start) (text : List ℕ) → (found : Piece) × FindsAs s text found
some_as start.Letter text =
    let word = some_word (identifier_at text) in
    (piece.Token (token.Word word.0) (length (identifier_at text)), (word.0, word.1, refl))
some_as start.Digit text = number_found (take_while is_word_byte text) (some_number (take_while is_word_byte text))
some_as start.Quote text = (string_piece (take_while is_string_byte (drop 1 text)) (drop 1 text), refl)
some_as start.At text = (aggregation_read (identifier_at (drop 1 text)), refl)
some_as start.Other text = some_sign text

some_in_body : (text : List ℕ) → (found : Piece) × FindsInBody text found
some_in_body text = some_as (start_of (get_or text 0 0)) text

-- the description with these patterns
abbrev description_of : DescForm → Description
description_of f = record { provider = f.provider; «module» = f.module; function = f.function; name = f.name }

module _ (some_description : (text : List ℕ)
    → (reading : Result DescForm DescriptionFault) × ReadsDescription text reading) where
  some_token : (run : List ℕ) → (d : Result Description DescriptionFault) × IsDescriptionToken run d
  some_token run = of_reading (some_description run).0 (some_description run).1
    where
      of_reading : (reading : Result DescForm DescriptionFault) → ReadsDescription run reading
          → (d : Result Description DescriptionFault) × IsDescriptionToken run d
      of_reading (Ok form) h = (Ok (description_of form), h)
      of_reading (Err fault) h = (Err fault, h)

  some_run : (run text : List ℕ) → (found : Piece) × FindsRun run text found
  some_run [] text = (head_sign (get_or text 0 0), refl)
  some_run (byte ∷ run) text =
      let d = some_token (byte ∷ run) in
      (piece.Token (token.Description d.0) (length (byte ∷ run)), (d.0, d.1, refl))

  some_in_head : (text : List ℕ) → (found : Piece) × FindsInHead text found
  some_in_head text = some_run (take_while is_description_byte text) text

  some_in_mode : (m : LexerMode) (text : List ℕ) → (found : Piece) × FindsInMode m text found
  some_in_mode mode.Head text = some_in_head text
  some_in_mode mode.Tail text = some_in_head text
  some_in_mode (mode.Predicate depth) text = some_in_body text
  some_in_mode mode.Body text = some_in_body text

  some_uncommented : (begun : Bool) (m : LexerMode) (text : List ℕ) → (found : Piece) × FindsUncommented begun m text found
  some_uncommented true m text = (piece.Stray, refl)
  some_uncommented false m text = some_in_mode m text

  pub some_piece : (m : LexerMode) (text : List ℕ) → (found : Piece) × FindsPiece m text found
  some_piece m [] = (piece.End, refl)
  some_piece m (byte ∷ rest) = some_uncommented (opens_comment (byte ∷ rest)) m (byte ∷ rest)
