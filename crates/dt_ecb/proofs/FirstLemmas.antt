-- The first clause for which a test holds.
use Rattle.std.proofs.Common.{◌≡◌, ℕ, zero, suc, ◌+◌, ◌<◌, ◌||◌, Bool, true, false, List, [], ◌∷◌, Option, Some, None}
use Rattle.std.proofs.Math.Bool.{or-true}
use Rattle.std.proofs.Common.{length, get_or, take, map, refl, sym, ap, ◌∙◌, ⊎_elim, arith}
use Rattle.std.specs.List.{slice_get, list_any}
use Rattle.std.specs.Option.{IfSome, IsSomeAnd}
use Rattle.std.proofs.lemmas.Bool.{cases_lt}
use Rattle.std.proofs.lemmas.List.Folds.{list_any_more}
use Rattle.dt_program.specs.Program.{ClauseForm}
use Rattle.dt_ecb.specs.Enable.{IsFirstSuch}
use Rattle.dt_ecb.proofs.ProbeLemmas.{list_any-map}

pub neither : (a b : Bool) → (a || b) ≡ false → (a ≡ false) × (b ≡ false)
neither true b e = cc
neither false b e = (refl, e)

-- What holds of some element and of each cannot exclude each other.
clash : {X : Type 0} (P Q : X → Type 0) (o : Option X) → IsSomeAnd o P → IfSome o Q → ((x : X) → P x → Q x → ⊥) → ⊥
clash P Q None p q never = p
clash P Q (Some x) p q never = never x p q

pub different : (b : Bool) → b ≡ true → b ≡ false → ⊥
different true t f = cc
different false t f = cc

-- an element that passes
any_at : {X : Type 0} (test : X → Bool) (xs : List X) (i : ℕ) → IsSomeAnd (slice_get xs i) (λ x. test x ≡ true)
    → list_any test xs ≡ true
any_at test [] i h = absurd h
any_at test (x ∷ xs) zero h = ap (λ b. b || list_any test xs) h
any_at test (x ∷ xs) (suc i) h = ap (λ b. test x || b) (any_at test xs i h) ∙ or-true (test x)

module _ (test : ClauseForm → Bool) where
  first_next : (x : ClauseForm) (xs : List ClauseForm) (n : ℕ) → test x ≡ false → IsFirstSuch test xs n
      → IsFirstSuch test (x ∷ xs) (n + 1)
  first_next x xs n fails first =
      record { place = suc first.place; counted = omega (arith, first.counted); here = first.here; before = below }
    where
      below : (i : ℕ) → i < suc first.place → IfSome (slice_get (x ∷ xs) i) (λ y. test y ≡ false)
      below zero h = fails
      below (suc i) h = first.before i (omega arith)

  first_by : (x : ClauseForm) (xs : List ClauseForm) (b : Bool) → test x ≡ b
      → (b || list_any test xs) ≡ true → (list_any test xs ≡ true → (n : ℕ) × IsFirstSuch test xs n)
      → (n : ℕ) × IsFirstSuch test (x ∷ xs) n
  first_by x xs true is any rest =
      (1, record { place = 0; counted = refl; here = is; before = λ i h. absurd (omega arith) })
  first_by x xs false is any rest = let later = rest any in (later.0 + 1, first_next x xs later.0 is later.1)

  -- where a clause passes, there is a first one
  pub some_first : (xs : List ClauseForm) → list_any test xs ≡ true → (n : ℕ) × IsFirstSuch test xs n
  some_first [] e = cc
  some_first (x ∷ xs) e = first_by x xs (test x) refl e (λ any. some_first xs any)

  -- where there is a first one, a clause passes
  pub any_from_first : (xs : List ClauseForm) (n : ℕ) → IsFirstSuch test xs n → list_any test xs ≡ true
  any_from_first xs n first = any_at test xs first.place first.here

  never_less : (xs : List ClauseForm) (n m : ℕ) → IsFirstSuch test xs n → IsFirstSuch test xs m → n < m → ⊥
  never_less xs n m f g less =
      clash _ _ (slice_get xs f.place) f.here (g.before f.place (omega (arith, f.counted, g.counted)))
      (λ clause t f. different (test clause) t f)

  -- there is one first
  pub same_first : (xs : List ClauseForm) (n m : ℕ) → IsFirstSuch test xs n → IsFirstSuch test xs m → n ≡ m
  same_first xs n m f g = ⊎_elim
      (λ less. absurd (never_less xs n m f g less))
      (λ more. ⊎_elim (λ less. absurd (never_less xs m n g f less)) (λ less. omega arith) (cases_lt m n))
      (cases_lt n m)

  -- a walk along a list that is looked at through a form
  module _ {X : Type 0} (f : X → ClauseForm) where
    found_here : (xs : List X) (i : ℕ) (x : X) → i < length xs → x ≡ get_or xs i x → test (f x) ≡ true
        → IsSomeAnd (slice_get (map f xs) i) (λ y. test y ≡ true)
    found_here [] i x inside is holds = absurd (omega arith)
    found_here (y ∷ xs) zero x inside is holds = ap (λ z. test (f z)) (sym is) ∙ holds
    found_here (y ∷ xs) (suc i) x inside is holds = found_here xs i x (omega arith) is holds

    none_before : (xs : List X) (i : ℕ) → list_any test (map f (take i xs)) ≡ false → (j : ℕ) → j < i
        → IfSome (slice_get (map f xs) j) (λ y. test y ≡ false)
    none_before [] i e j less = tt
    none_before (x ∷ xs) zero e j less = absurd (omega arith)
    none_before (x ∷ xs) (suc i) e zero less = (neither (test (f x)) (list_any test (map f (take i xs))) e).0
    none_before (x ∷ xs) (suc i) e (suc j) less =
        none_before xs i (neither (test (f x)) (list_any test (map f (take i xs))) e).1 j (omega arith)

    pub none_more : (xs : List X) (i : ℕ) (x : X) → i < length xs → x ≡ get_or xs i x
        → list_any test (map f (take i xs)) ≡ false → test (f x) ≡ false
        → list_any test (map f (take (i + 1) xs)) ≡ false
    none_more xs i x inside is none fails =
        list_any-map f test (take (i + 1) xs)
        ∙ list_any_more (λ y. test (f y)) xs i x inside
        ∙ ap (λ b. b || test (f (get_or xs i x))) (sym (list_any-map f test (take i xs)) ∙ none)
        ∙ ap (λ y. test (f y)) (sym is)
        ∙ fails

    -- the walk ends at the first clause that passes
    pub first_found : (xs : List X) (i : ℕ) (x : X) → i < length xs → x ≡ get_or xs i x
        → list_any test (map f (take i xs)) ≡ false → test (f x) ≡ true → IsFirstSuch test (map f xs) (i + 1)
    first_found xs i x inside is none holds = record {
      place = i;
      counted = refl;
      here = found_here xs i x inside is holds;
      before = none_before xs i none;
    }
