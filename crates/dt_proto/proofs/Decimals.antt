-- The digits of a number, and the number that `parse` reads of them.
use Rattle.std.proofs.Common.{◌≡◌, ◌≢◌, ℕ, ◌+◌, ◌^◌, ◌<◌, List, [], ◌∷◌, length, get_or, decimal, Result, Ok, Err, Some}
use Rattle.std.proofs.Common.{None, IfSome, IfNone, IsUtf8, ◌⊎◌, ⊎_elim, inl, inr, refl, sym, ap, subst, ◌∙◌, arith}
use Rattle.std.proofs.lemmas.Bool.{cases_eq, ne_eqb}
use Rattle.std.proofs.lemmas.Fmt.{decimal_digit, first_decimal, decimal-digits_value, parse-decimal, IsAscii-decimal}
use Rattle.std.proofs.lemmas.Str.{IsUtf8-from_ascii}
use Rattle.std.proofs.lemmas.Str.Parse.{IsNumeralModel}
use Rattle.std.specs.Result.{result_ok, MatchResult}
use Rattle.std.specs.Str.Parse.{AllDigits, digits_value, ParsesUnsigned, IsNumeral, without_leading_plus}

-- a plus or a leading zero stands first
abbrev pub HasSignOrZero : List ℕ → Type 0
HasSignOrZero digits = (get_or digits 0 0 ≡ 43) ⊎ ((get_or digits 0 0 ≡ 48) × (1 < length digits))

-- A number's digits begin with neither.
pub decimal_bare : (n : ℕ) → n < 2 ^ 32 → HasSignOrZero (decimal n) → ⊥
decimal_bare n fits =
    ⊎_elim
    (λ zero. let one : decimal n ≡ (48 + n) ∷ [] = decimal_digit n (omega arith) in
    rw one (⊎_elim (λ e. omega arith) (λ e. omega (arith, e.1))))
    (λ some. let first : 48 < get_or (decimal n) 0 0 = first_decimal n (omega arith) (omega arith) in
    ⊎_elim (λ e. omega arith) (λ e. omega (arith, e.0)))
    (cases_eq n 0)

pub decimal_utf8 : (digits : List ℕ) (n : ℕ) → n < 2 ^ 32 → digits ≡ decimal n → IsUtf8 digits
decimal_utf8 digits n fits is = rw is (IsUtf8-from_ascii (decimal n) (IsAscii-decimal n (omega arith)))

own : IsNumeralModel (AllDigits 10) (digits_value 10)
own = record { to = λ ds h. h; from = λ ds h. h; same = λ ds h. refl }

plain_digits : (digits : List ℕ) → get_or digits 0 0 ≢ 43 → without_leading_plus digits ≡ digits
plain_digits digits other = rw (ne_eqb (get_or digits 0 0) 43 other) refl

bare_value : (digits : List ℕ) (n : ℕ) → (HasSignOrZero digits → ⊥) → IsNumeral 10 digits
    → digits_value 10 digits < 2 ^ 32 → n ≡ digits_value 10 digits → digits ≡ decimal n
bare_value digits n bare numeral fits is =
    sym (ap decimal is ∙ decimal-digits_value own digits numeral.1 numeral.0
    (λ zero. ⊎_elim (λ e. e) (λ ne. absurd (bare (inr (zero, omega (arith, numeral.0)))))
    (cases_eq (length digits) 1)) (omega arith))

-- what `parse` reads of digits that begin with neither
pub parsed : {E : Type 0} (digits : List ℕ) (r : Result ℕ E) → (HasSignOrZero digits → ⊥)
    → ParsesUnsigned 32 10 digits r → IfSome (result_ok r) (λ n. (n < 2 ^ 32) × (digits ≡ decimal n))
parsed digits (Err e) bare h = tt
parsed digits (Ok n) bare h =
    let plain : without_leading_plus digits ≡ digits = plain_digits digits (λ plus. bare (inl plus)) in
    let read = rw plain at h in
    (omega (arith, read.0.1, read.1), bare_value digits n bare read.0.0 read.0.1 read.1)

pub unparsed : {E : Type 0} (digits : List ℕ) (r : Result ℕ E) → ParsesUnsigned 32 10 digits r
    → IfNone (result_ok r) ((n : ℕ) → n < 2 ^ 32 → digits ≢ decimal n)
unparsed digits (Ok n) h = tt
unparsed digits (Err e) h = λ n fits is. let read = parse-decimal 32 n digits (Err e) fits (omega arith) is h in cc

-- what `ok` of a result keeps
pub ok_some : {T E : Type 0} (P : T → Type 0) (Q : E → Type 0) (r : Result T E) (x : T) → Some x ≡ result_ok r
    → MatchResult r P Q → P x
ok_some P Q (Ok y) x is h = let same : y ≡ x = cc in subst P same h
ok_some P Q (Err e) x is h = absurd (cc)

pub ok_none : {T E A : Type 0} (P : T → Type 0) (Q : E → Type 0) (r : Result T E) → None ≡ result_ok r
    → MatchResult r P (λ e. (A → ⊥) × Q e) → A → ⊥
ok_none P Q (Ok y) is h = absurd (cc)
ok_none P Q (Err e) is h = h.0
