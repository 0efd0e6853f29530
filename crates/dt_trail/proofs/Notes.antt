-- The notes of a new row, one more.
use Rattle.std.proofs.Common.{◌≡◌, ℕ, zero, suc, ◌+◌, ◌<◌, List, [], ◌∷◌, ◌++◌, length, Some, refl, sym, ap, ◌∙◌, arith, length-append}
use Rattle.std.specs.Prelude.{slice_get}
use mathlib.Core.Logic.{dite}
use native.Mathlib.Decide.{ℕ_discrete}
use Rattle.dt_trail.specs.declared.law.Named.{Named}
use Rattle.dt_trail.specs.Known.{Noted, noted, AreNew}

get_front : {A : Type 0} (xs : List A) (x : A) (k : ℕ) → k < length xs → slice_get (xs ++ x ∷ []) k ≡ slice_get xs k
get_front [] x k h = absurd (omega arith)
get_front (y ∷ xs) x zero h = refl
get_front (y ∷ xs) x (suc k) h = get_front xs x k (omega arith)

get_last : {A : Type 0} (xs : List A) (x : A) (k : ℕ) → k ≡ length xs → slice_get (xs ++ x ∷ []) k ≡ Some x
get_last [] x zero h = refl
get_last [] x (suc k) h = absurd (omega arith)
get_last (y ∷ xs) x zero h = absurd (omega arith)
get_last (y ∷ xs) x (suc k) h = get_last xs x k (omega arith)

-- new notes, and the one of the next number
pub AreNew-push : {K : Type 0} (row : Named K) (n : ℕ) (xs : List (Noted K)) (x : Noted K) → AreNew row n xs → x ≡ noted row n [] → AreNew row (n + 1) (xs ++ x ∷ [])
AreNew-push {K = K} row n xs x a is = let long : length xs ≡ n = a.0 in (
  length-append xs (x ∷ []) ∙ ap (λ (z : ℕ). z + 1) long,
  λ k h. dite (ℕ_discrete k n)
      (λ q. get_last xs x k (q ∙ sym long) ∙ ap (λ (z : Noted K). Some z) (is ∙ ap (λ (z : ℕ). noted row z []) (sym q)))
      (λ q. get_front xs x k (omega arith) ∙ a.1 k (omega arith)),
)
