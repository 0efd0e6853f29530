-- What is shown is plain.
use Rattle.std.proofs.Common.{◌≡◌, ℕ, suc, ◌+◌, ◌-◌, ◌/◌, ◌%◌, ◌<◌, ◌==◌, nat_le, Bool, true, false, List, [], ◌∷◌, All, if◌then◌else◌, refl, arith, rules}
use Rattle.std.proofs.lemmas.List.Elements.{All-append, All-cons, All-nil}
use Rattle.dt_names.specs.Bytes.{zero_digit, backslash, small_a, small_x}
use Rattle.dt_front.specs.Escaping.{ArePlain, IsPlain, hex_digit, is_plain_byte, shown, shown_byte}

either : (c : Bool) (x y : List ℕ) → (c ≡ true → ArePlain x) → (c ≡ false → ArePlain y) → ArePlain (if c then x else y)
either true x y then_plain else_plain = then_plain refl
either false x y then_plain else_plain = else_plain refl

either_byte : (c : Bool) (x y : ℕ) → IsPlain x → IsPlain y → IsPlain (if c then x else y)
either_byte true x y then_plain else_plain = then_plain
either_byte false x y then_plain else_plain = else_plain

pub digit_plain : (n : ℕ) → n < 16 → IsPlain (hex_digit n)
digit_plain n small = either_byte (nat_le n 9) (zero_digit + n) (small_a - 10 + n) (omega arith, omega arith) (omega arith, omega arith)

pub test_plain : (byte : ℕ) → is_plain_byte byte ≡ true → IsPlain byte
test_plain byte passes = search (rules, passes)

pub byte_plain : (byte : ℕ) → byte < 256 → ArePlain (shown_byte byte)
byte_plain byte small =
    let backslash_is : IsPlain backslash = (omega arith, omega arith) in
    let x_is : IsPlain small_x = (omega arith, omega arith) in
    let high : byte / 16 < 16 = omega arith in
    let low : byte % 16 < 16 = omega arith in
    let doubled = All-cons IsPlain backslash (backslash ∷ []) backslash_is (All-cons IsPlain backslash [] backslash_is (All-nil IsPlain)) in
    let digits = All-cons IsPlain (hex_digit (byte / 16)) (hex_digit (byte % 16) ∷ []) (digit_plain (byte / 16) high)
    (All-cons IsPlain (hex_digit (byte % 16)) [] (digit_plain (byte % 16) low) (All-nil IsPlain)) in
    let escape : List ℕ = backslash ∷ small_x ∷ hex_digit (byte / 16) ∷ hex_digit (byte % 16) ∷ [] in
    let escaped : ArePlain escape =
    All-cons IsPlain backslash (small_x ∷ hex_digit (byte / 16) ∷ hex_digit (byte % 16) ∷ []) backslash_is
    (All-cons IsPlain small_x (hex_digit (byte / 16) ∷ hex_digit (byte % 16) ∷ []) x_is digits) in
    either (byte == backslash) (backslash ∷ backslash ∷ []) (if is_plain_byte byte then byte ∷ [] else escape)
    (λ _. doubled)
    (λ _. either (is_plain_byte byte) (byte ∷ []) escape
    (λ passes. All-cons IsPlain byte [] (test_plain byte passes) (All-nil IsPlain))
    (λ _. escaped))

pub bytes_plain : (bytes : List ℕ) → All (λ byte. byte < 256) bytes → ArePlain (shown bytes)
bytes_plain [] small = All-nil IsPlain
bytes_plain (byte ∷ bytes) small =
    All-append IsPlain (shown_byte byte) (shown bytes) (byte_plain byte (small 0 byte (omega arith)))
    (bytes_plain bytes (λ k d within. small (suc k) d (omega (arith, within))))
