-- What is printed is plain lines.
use Rattle.std.proofs.Common.{◌≡◌, ℕ, zero, suc, ◌+◌, ◌-◌, ◌%◌, ◌<◌, ◌^◌, ◌==◌, ◌&&◌, ◌||◌, ◌⊎◌, inl, inr, Bool, true, false, List, [], ◌∷◌, ◌++◌, length, if◌then◌else◌, ℤ, pos, negsuc, replicate, refl, arith, rules}
use Rattle.std.specs.Prelude.{FitsSigned, IfSome, decimal, slice_get}
use Rattle.std.specs.Fmt.{signed_decimal}
use Rattle.std.specs.Int.{w64}
use Rattle.std.specs.List.{AllByRecursion, flat_map, list_all}
use Rattle.std.proofs.lemmas.Fmt.{decimal_by_steps}
use Rattle.std.proofs.lemmas.List.Elements.{All-append, All-cons, All-nil, All-replicate, All-weaker}
use Rattle.dt_names.specs.Bytes.{newline, space, hyphen, zero_digit}
use Rattle.dt_front.specs.Columns.{at_left, at_right, blanks}
use Rattle.dt_front.specs.Escaping.{AreBytes, ArePlain, ArePlainLines, IsPlain, IsPlainOrNewline, is_plain_byte, shown}
use Rattle.dt_front.proofs.Plain.{bytes_plain, test_plain}

-- a test of what is written out
abbrev is_line_byte : ℕ → Bool
is_line_byte byte = is_plain_byte byte || (byte == newline)

either_passes : (p q : Bool) (A B : Type 0) → (p ≡ true → A) → (q ≡ true → B) → (p || q) ≡ true → A ⊎ B
either_passes true q A B first second passes = inl (first refl)
either_passes false q A B first second passes = inr (second passes)

byte_is : (byte : ℕ) → (byte == newline) ≡ true → byte ≡ newline
byte_is byte passes = search (rules, passes)

byte_tested : (byte : ℕ) → is_line_byte byte ≡ true → IsPlainOrNewline byte
byte_tested byte passes = either_passes (is_plain_byte byte) (byte == newline) (IsPlain byte) (byte ≡ newline) (test_plain byte) (byte_is byte) passes

first_passes : (p q : Bool) → (p && q) ≡ true → p ≡ true
first_passes true q passes = refl
first_passes false q passes = passes

second_passes : (p q : Bool) → (p && q) ≡ true → q ≡ true
second_passes true q passes = passes
second_passes false q passes = absurd (grind (arith, passes))

pub tested : (bytes : List ℕ) → list_all is_line_byte bytes ≡ true → ArePlainLines bytes
tested [] passes = All-nil IsPlainOrNewline
tested (byte ∷ bytes) passes =
    All-cons IsPlainOrNewline byte bytes (byte_tested byte (first_passes (is_line_byte byte) (list_all is_line_byte bytes) passes))
    (tested bytes (second_passes (is_line_byte byte) (list_all is_line_byte bytes) passes))

pub joined : (xs ys : List ℕ) → ArePlainLines xs → ArePlainLines ys → ArePlainLines (xs ++ ys)
joined xs ys first second = All-append IsPlainOrNewline xs ys first second

pub plain_lines : (bytes : List ℕ) → ArePlain bytes → ArePlainLines bytes
plain_lines bytes plain = All-weaker IsPlain IsPlainOrNewline (λ byte is. inl is) bytes plain

pub shown_lines : (bytes : List ℕ) → AreBytes bytes → ArePlainLines (shown bytes)
shown_lines bytes are = plain_lines (shown bytes) (bytes_plain bytes are)

pub flat_lines : {X : Type 0} (f : X → List ℕ) (xs : List X) → AllByRecursion (λ x. ArePlainLines (f x)) xs → ArePlainLines (flat_map f xs)
flat_lines f [] each = All-nil IsPlainOrNewline
flat_lines f (x ∷ xs) each = joined (f x) (flat_map f xs) each.0 (flat_lines f xs each.1)

pub each_is : {X : Type 0} (P Q : X → Type 0) (xs : List X) → ((x : X) → P x → Q x) → AllByRecursion P xs → AllByRecursion Q xs
each_is P Q [] is each = tt
each_is P Q (x ∷ xs) is each = (is x each.0, each_is P Q xs is each.1)

pub repeated : (n byte : ℕ) → IsPlainOrNewline byte → ArePlainLines (replicate n byte)
repeated n byte is = All-replicate IsPlainOrNewline n byte is

pub blank_lines : (n : ℕ) → ArePlainLines (blanks n)
blank_lines n = repeated n space (inl (omega arith, omega arith))

pub right_lines : (width : ℕ) (text : List ℕ) → ArePlainLines text → ArePlainLines (at_right width text)
right_lines width text are = joined (blanks (width - length text)) text (blank_lines (width - length text)) are

pub left_lines : (width : ℕ) (text : List ℕ) → ArePlainLines text → ArePlainLines (at_left width text)
left_lines width text are = joined text (blanks (width - length text)) are (blank_lines (width - length text))

digit_is : (n : ℕ) → n < 10 → ArePlain ((zero_digit + n) ∷ [])
digit_is n small = All-cons IsPlain (zero_digit + n) [] (omega (arith, small), omega (arith, small)) (All-nil IsPlain)

-- numbers
pub decimal_plain : (n : ℕ) → n < 2 ^ 64 → ArePlain (decimal n)
decimal_plain n small =
    decimal_by_steps (λ m ds. ArePlain ds) digit_is
    (λ m ds high before. All-append IsPlain ds ((zero_digit + m % 10) ∷ []) before (digit_is (m % 10) (omega arith))) n small

pub signed_plain : (z : ℤ) → FitsSigned w64 z → ArePlain (signed_decimal z)
signed_plain (pos n) fits = let small = fits.sfits in decimal_plain n (omega (arith, small))
signed_plain (negsuc n) fits =
    let small = fits.sfits in
    All-cons IsPlain hyphen (decimal (suc n)) (omega arith, omega arith) (decimal_plain (suc n) (omega (arith, small)))

pub decimal_lines : (n : ℕ) → n < 2 ^ 64 → ArePlainLines (decimal n)
decimal_lines n small = plain_lines (decimal n) (decimal_plain n small)

pub signed_lines : (z : ℤ) → FitsSigned w64 z → ArePlainLines (signed_decimal z)
signed_lines z fits = plain_lines (signed_decimal z) (signed_plain z fits)

-- one of two
pub chosen : {X : Type 0} (P : X → Type 0) (c : Bool) (x y : X) → P x → P y → P (if c then x else y)
chosen P true x y first second = first
chosen P false x y first second = second

pub some_of : {X : Type 0} (P : X → Type 0) (xs : List X) (i : ℕ) → AllByRecursion P xs → IfSome (slice_get xs i) P
some_of P [] i each = tt
some_of P (x ∷ xs) zero each = each.0
some_of P (x ∷ xs) (suc i) each = some_of P xs i each.1

-- parts that come one after the other
abbrev pub glue : List ℕ → List (List ℕ) → List ℕ
glue first [] = first
glue first (part ∷ parts) = glue (first ++ part) parts

pub glued : (first : List ℕ) (parts : List (List ℕ)) → ArePlainLines first → AllByRecursion ArePlainLines parts → ArePlainLines (glue first parts)
glued first [] are each = are
glued first (part ∷ parts) are each = glued (first ++ part) parts (joined first part are each.0) each.1

pub plain_tested : (bytes : List ℕ) → list_all is_plain_byte bytes ≡ true → ArePlain bytes
plain_tested [] passes = All-nil IsPlain
plain_tested (byte ∷ bytes) passes =
    All-cons IsPlain byte bytes (test_plain byte (first_passes (is_plain_byte byte) (list_all is_plain_byte bytes) passes))
    (plain_tested bytes (second_passes (is_plain_byte byte) (list_all is_plain_byte bytes) passes))
