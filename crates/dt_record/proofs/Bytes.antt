-- Numbers and their bytes, both ways.
use Rattle.std.proofs.Common.{◌≡◌, ℕ, zero, suc, ◌+◌, ◌*◌, ◌^◌, ◌<◌, ◌%◌, ◌/◌, List, [], ◌∷◌, ◌++◌, length, refl, sym}
use Rattle.std.proofs.Common.{ap, ◌∙◌, arith}
use Rattle.std.proofs.Math.Nat.{mul-add-mod_self_right, mod-eq_of_lt, mod-lt, mul-div_cancel}
use Rattle.std.proofs.lemmas.List.{append-nil, append_assoc}
use Rattle.std.specs.Int.{byte_at, bytes_high_first}
use Rattle.std.proofs.lemmas.Grind.{flat_map-append}
use Rattle.std.specs.List.{slice_index, flat_map, AllByRecursion}
use Rattle.byteorder.specs.Endian.{big_from, big_number, big_bytes}
use Rattle.byteorder.specs.Numbers.{big_from-cons, big_from-lt, big_number-reads_back, length-bytes_high_first}

-- each is a byte
abbrev pub AreBytes : List ℕ → Type 0
AreBytes xs = (k : ℕ) → slice_index xs k < 256

tail_bytes : (x : ℕ) (xs : List ℕ) → AreBytes (x ∷ xs) → AreBytes xs
tail_bytes x xs h = λ k. h (suc k)

-- a digit and what is below it
parts : (p a b r s : ℕ) → r < p → s < p → a * p + r ≡ b * p + s → (a ≡ b) × (r ≡ s)
parts p a b r s low low' e =
    let same : r ≡ s =
    sym (mod-eq_of_lt low) ∙ sym (mul-add-mod_self_right a p r) ∙ ap (λ n. n % p) e
    ∙ mul-add-mod_self_right b p s ∙ mod-eq_of_lt low' in
    let above : a * p ≡ b * p = omega (arith, e, same) in
    let some : zero < p = omega (arith, low) in
    (sym (mul-div_cancel a some) ∙ ap (λ n. n / p) above ∙ mul-div_cancel b some, same)

-- bytes of one length with one number are the same
pub big_unique : (n : ℕ) (xs ys : List ℕ) → length xs ≡ n → length ys ≡ n → AreBytes xs → AreBytes ys
    → big_from 0 n xs ≡ big_from 0 n ys → xs ≡ ys
big_unique n [] [] a b u v e = refl
big_unique n [] (y ∷ ys) a b u v e = absurd (omega (arith, a, b))
big_unique n (x ∷ xs) [] a b u v e = absurd (omega (arith, a, b))
big_unique zero (x ∷ xs) (y ∷ ys) a b u v e = absurd (omega (arith, a))
big_unique (suc n) (x ∷ xs) (y ∷ ys) a b u v e =
    let moved : x * 256 ^ n + big_from 0 n xs ≡ y * 256 ^ n + big_from 0 n ys =
    ap (λ r. x * 256 ^ n + r) (sym (big_from-cons 0 n x xs)) ∙ e
    ∙ ap (λ r. y * 256 ^ n + r) (big_from-cons 0 n y ys) in
    let both = parts (256 ^ n) x y (big_from 0 n xs) (big_from 0 n ys) (big_from-lt 0 n xs (tail_bytes x xs u))
    (big_from-lt 0 n ys (tail_bytes y ys v)) moved in
    ap (λ b. b ∷ xs) both.0 ∙ ap (λ l. y ∷ l) (big_unique n xs ys (omega (arith, a)) (omega (arith, b))
    (tail_bytes x xs u) (tail_bytes y ys v) both.1)

byte_small : (n x : ℕ) → byte_at n x < 256
byte_small zero x = mod-lt x (omega arith)
byte_small (suc n) x = mod-lt (x / 256 ^ suc n) (omega arith)

high_bytes : (n x k : ℕ) → slice_index (bytes_high_first n x) k < 256
high_bytes zero x k = omega arith
high_bytes (suc n) x zero = byte_small n x
high_bytes (suc n) x (suc k) = high_bytes n x k

-- the bytes of the number in bytes
pub bytes_back : (n : ℕ) (xs : List ℕ) → length xs ≡ n → AreBytes xs → big_bytes n (big_number n xs) ≡ xs
bytes_back n xs long are =
    let small : big_number n xs < 256 ^ n = big_from-lt 0 n xs are in
    big_unique n (bytes_high_first n (big_number n xs)) xs (length-bytes_high_first n (big_number n xs)) long
    (high_bytes n (big_number n xs)) are
    (ap (big_from 0 n) (sym (append-nil (bytes_high_first n (big_number n xs))))
    ∙ big_number-reads_back n (big_number n xs) [] small)

-- what stands in front of bytes, and what stands after
pub back_bytes : (xs ys : List ℕ) → AreBytes (xs ++ ys) → AreBytes ys
back_bytes [] ys h = h
back_bytes (x ∷ xs) ys h = back_bytes xs ys (tail_bytes x (xs ++ ys) h)

pub front_bytes : (xs ys : List ℕ) → AreBytes (xs ++ ys) → (k : ℕ) → slice_index xs k < 256
front_bytes [] ys h k = omega arith
front_bytes (x ∷ xs) ys h zero = h 0
front_bytes (x ∷ xs) ys h (suc k) = front_bytes xs ys (tail_bytes x (xs ++ ys) h) k

-- one more of what all are
pub all-more : {A : Type 0} (P : A → Type 0) (xs : List A) (x : A) → AllByRecursion P xs → P x
    → AllByRecursion P (xs ++ x ∷ [])
all-more P [] x h p = (p, tt)
all-more P (y ∷ xs) x h p = (h.0, all-more P xs x h.1 p)

-- pieces before the rest, and one piece more
pub pieces-more : {A : Type 0} (f : A → List ℕ) (xs : List A) (x : A) (front back rest bytes : List ℕ)
    → flat_map f xs ++ rest ≡ bytes → rest ≡ front ++ back → f x ≡ front → flat_map f (xs ++ x ∷ []) ++ back ≡ bytes
pieces-more f xs x front back rest bytes before cut is =
    ap (λ l. l ++ back) (flat_map-append f xs (x ∷ []) ∙ ap (λ l. flat_map f xs ++ l) (append-nil (f x)))
    ∙ append_assoc (flat_map f xs) (f x) back
    ∙ ap (λ l. flat_map f xs ++ l) (ap (λ l. l ++ back) is ∙ sym cut)
    ∙ before

-- pieces with nothing left after them
pub pieces-whole : {A : Type 0} (f : A → List ℕ) (xs : List A) (rest bytes : List ℕ) → length rest ≡ 0
    → flat_map f xs ++ rest ≡ bytes → flat_map f xs ≡ bytes
pieces-whole f xs [] bytes none same = sym (append-nil (flat_map f xs)) ∙ same
pieces-whole f xs (byte ∷ rest) bytes none same = absurd (omega (arith, none))
