-- How numbers are written. Guide, Types, Operators and Expressions (integer constants).
use Rattle.std.specs.Prelude.{◌≡◌, ◌≢◌, ℕ, ◌<◌, ◌^◌, ◌⊎◌, List, [], ◌∷◌, slice_index}
use Rattle.std.specs.Str.Parse.{digits_value, AllDigits}
use Rattle.dt_names.specs.Bytes.{zero_digit, capital_x, small_x}

-- the bytes are digits, one at least, without a leading 0
pub record IsDecimal (bytes : List ℕ) (radix : ℕ) (digits : List ℕ) : Type 0 where
  pub base : radix ≡ 10
  pub cut : digits ≡ bytes
  pub some : bytes ≢ []
  pub leads : slice_index bytes 0 ≢ zero_digit

-- the bytes are a 0, and then digits or none
pub record IsOctal (bytes : List ℕ) (radix : ℕ) (digits : List ℕ) : Type 0 where
  pub base : radix ≡ 8
  pub cut : bytes ≡ zero_digit ∷ digits

-- the bytes are `0x` or `0X`, and then one digit at least
pub record IsHexadecimal (bytes : List ℕ) (radix : ℕ) (digits : List ℕ) : Type 0 where
  pub base : radix ≡ 16
  pub cut : (bytes ≡ zero_digit ∷ small_x ∷ digits) ⊎ (bytes ≡ zero_digit ∷ capital_x ∷ digits)
  pub some : digits ≢ []

-- The bytes are a number of this value, which an unsigned number of 64 bits holds.
pub record IsNumber (bytes : List ℕ) (n : ℕ) : Type 0 where
  pub radix : ℕ
  pub digits : List ℕ
  pub written : IsDecimal bytes radix digits ⊎ (IsOctal bytes radix digits ⊎ IsHexadecimal bytes radix digits)
  pub all : AllDigits radix digits
  pub value : n ≡ digits_value radix digits
  pub fits : n < 2 ^ 64
