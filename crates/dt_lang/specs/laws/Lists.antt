-- Small facts on lists.
use Rattle.std.proofs.Common.{◌≡◌, ◌≢◌, ℕ, ◌≤◌, List, [], ◌∷◌, ◌++◌, length, get_or, refl, ap, arith}

pub tails : (x y : ℕ) (xs ys : List ℕ) → x ∷ xs ≡ y ∷ ys → (x ≡ y) × (xs ≡ ys)
tails x y xs ys e = (cc, cc)

pub some_length : (bytes : List ℕ) → bytes ≢ [] → 1 ≤ length bytes
some_length [] n = absurd (n refl)
some_length (x ∷ xs) n = omega arith

-- a front begins as the whole does
pub first_of : (text front behind : List ℕ) → front ≢ [] → text ≡ front ++ behind → get_or text 0 0 ≡ get_or front 0 0
first_of text [] behind n e = absurd (n refl)
first_of text (x ∷ xs) behind n e = ap (λ (s : List ℕ). get_or s 0 0) e

pub last_of : (front : List ℕ) (x : ℕ) (behind : List ℕ) → get_or (front ++ (x ∷ behind)) (length front) 0 ≡ x
last_of [] x behind = refl
last_of (y ∷ ys) x behind = last_of ys x behind
