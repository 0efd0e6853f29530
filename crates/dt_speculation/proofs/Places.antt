-- What holds at each place of a list, and beyond it.
use Rattle.std.proofs.Common.{◌≡◌, ◌≢◌, ℕ, zero, suc, ◌<◌, ◌≤◌, List, [], ◌∷◌, length, get_or, set, Option, None, Some, refl, sym, ap, subst, ⊎_elim, arith}
use Rattle.std.specs.List.{All, slice_get}
use Rattle.std.specs.Option.{MatchOption}
use Rattle.std.proofs.lemmas.Bool.{cases_eq}
use Rattle.std.proofs.lemmas.Option.{MatchOption-at_some, MatchOption-at_none, slice_get_read, slice_get_past}

pub match_map : {X : Type 0} (A B : Type 0) (P Q : X → Type 0) (o : Option X) → (A → B) → ((x : X) → P x → Q x)
    → MatchOption o A P → MatchOption o B Q
match_map A B P Q None f g h = f h
match_map A B P Q (Some x) f g h = g x h

pub get_set_same : {X : Type 0} (xs : List X) (i : ℕ) (y : X) → i < length xs → slice_get (set xs i y) i ≡ Some y
get_set_same [] i y h = absurd (omega arith)
get_set_same (x ∷ xs) zero y h = refl
get_set_same (x ∷ xs) (suc i) y h = get_set_same xs i y (omega arith)

pub get_set_other : {X : Type 0} (xs : List X) (i j : ℕ) (y : X) → j ≢ i → slice_get (set xs i y) j ≡ slice_get xs j
get_set_other [] i j y ne = refl
get_set_other (x ∷ xs) zero zero y ne = absurd (ne refl)
get_set_other (x ∷ xs) zero (suc j) y ne = refl
get_set_other (x ∷ xs) (suc i) zero y ne = refl
get_set_other (x ∷ xs) (suc i) (suc j) y ne = get_set_other xs i j y (λ e. ne (ap suc e))

module _ {X : Type 0} (A : Type 0) (P : X → Type 0) (xs : List X) (i : ℕ) where
  -- what is there
  pub found_there : (x : X) → i < length xs → x ≡ get_or xs i x → MatchOption (slice_get xs i) A P → P x
  found_there x inside is h = MatchOption-at_some A P x (slice_get_read xs (length xs) i x refl inside is) h

  -- nothing is there
  pub nothing_there : length xs ≤ i → MatchOption (slice_get xs i) A P → A
  nothing_there past h = MatchOption-at_none A P (slice_get_past xs i past) h

  pub from_nothing : length xs ≤ i → A → MatchOption (slice_get xs i) A P
  from_nothing past a =
      let F : Option X → Type 0 = λ o. MatchOption o A P in subst F (sym (slice_get_past xs i past)) a

  pub from_there : (x : X) → slice_get xs i ≡ Some x → P x → MatchOption (slice_get xs i) A P
  from_there x is p = let F : Option X → Type 0 = λ o. MatchOption o A P in subst F (sym is) p

-- One place is replaced.
pub replaced : {X : Type 0} (A : ℕ → Type 0) (P : ℕ → X → Type 0) (xs : List X) (i : ℕ) (y : X) → i < length xs → P i y
    → ((j : ℕ) → j ≢ i → MatchOption (slice_get xs j) (A j) (P j))
    → (j : ℕ) → MatchOption (slice_get (set xs i y) j) (A j) (P j)
replaced {X} A P xs i y inside here others j = ⊎_elim
    (λ (e : j ≡ i). subst (λ n. MatchOption (slice_get (set xs i y) n) (A n) (P n)) (sym e)
    (from_there (A i) (P i) (set xs i y) i y (get_set_same xs i y inside) here))
    (λ (ne : j ≡ i → ⊥).
    let F : Option X → Type 0 = λ o. MatchOption o (A j) (P j) in
    subst F (sym (get_set_other xs i j y ne)) (others j ne))
    (cases_eq j i)

-- what holds of all elements holds at each place
pub at_each : {X : Type 0} (A : ℕ → Type 0) (P : X → Type 0) (xs : List X) → All P xs → ((j : ℕ) → A j)
    → (j : ℕ) → MatchOption (slice_get xs j) (A j) P
at_each A P [] all none j = none j
at_each A P (x ∷ xs) all none zero = all 0 x (omega arith)
at_each A P (x ∷ xs) all none (suc j) =
    at_each (λ i. A (suc i)) P xs (λ k d h. all (suc k) d (omega arith)) (λ i. none (suc i)) j
