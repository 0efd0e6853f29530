-- What holds at each place of a list.
use Rattle.std.proofs.Common.{◌≡◌, ◌≢◌, ℕ, zero, suc, ◌<◌, ◌≤◌, not, Bool, true, false, List, [], ◌∷◌, ◌++◌, Option}
use Rattle.std.proofs.Common.{Some, length, get_or, map, filter, refl, sym, ap, subst, if◌then◌else◌, arith, ◌+◌}
use Rattle.std.proofs.Common.{replicate, ◌∙◌, ◌||◌}
use Rattle.std.specs.List.{slice_get, slice_set, find, list_any, range_with_len, AllByRecursion}
use Rattle.std.specs.Option.{IfSome, option_map}

-- one element was replaced
pub replaced : {X : Type 0} (Q : ℕ → X → Type 0) (xs : List X) (i : ℕ) (y : X) → Q i y
    → ((j : ℕ) → j ≢ i → IfSome (slice_get xs j) (Q j)) → (j : ℕ) → IfSome (slice_get (slice_set xs i y) j) (Q j)
replaced Q [] i y here others j = tt
replaced Q (x ∷ xs) zero y here others zero = here
replaced Q (x ∷ xs) zero y here others (suc j) = others (suc j) (λ e. absurd (omega arith))
replaced Q (x ∷ xs) (suc i) y here others zero = others zero (λ e. absurd (omega arith))
replaced Q (x ∷ xs) (suc i) y here others (suc j) =
    replaced (λ k. Q (suc k)) xs i y here (λ k ne. others (suc k) (λ e. ne (omega arith))) j

-- one element was added at the end
pub pushed : {X : Type 0} (Q : ℕ → X → Type 0) (xs : List X) (x : X) → ((i : ℕ) → IfSome (slice_get xs i) (Q i))
    → Q (length xs) x → (i : ℕ) → IfSome (slice_get (xs ++ x ∷ []) i) (Q i)
pushed Q [] x each last zero = last
pushed Q [] x each last (suc i) = tt
pushed Q (y ∷ xs) x each last zero = each zero
pushed Q (y ∷ xs) x each last (suc i) = pushed (λ k. Q (suc k)) xs x (λ k. each (suc k)) last i

-- past the end there is nothing
pub nothing_past : {X : Type 0} (P : X → Type 0) (xs : List X) (i : ℕ) → length xs ≤ i → IfSome (slice_get xs i) P
nothing_past P [] i h = tt
nothing_past P (x ∷ xs) zero h = absurd (omega arith)
nothing_past P (x ∷ xs) (suc i) h = nothing_past P xs i (omega arith)

-- what is found at a place is what stands there
pub found_at : {X : Type 0} (P : X → Type 0) (xs : List X) (i : ℕ) (x : X)
    → i < length xs → x ≡ get_or xs i x → IfSome (slice_get xs i) P → P x
found_at P [] i x inside e h = absurd (omega arith)
found_at P (y ∷ xs) zero x inside e h = subst P (sym e) h
found_at P (y ∷ xs) (suc i) x inside e h = found_at P xs i x (omega arith) e h

-- a test, a search and a function of mapped elements
picked-map : {X Y : Type 0} (b : Bool) (f : X → Y) (x : X) (xs : List X) (ys : List Y) → ys ≡ map f xs
    → (if b then f x ∷ ys else ys) ≡ map f (if b then x ∷ xs else xs)
picked-map true f x xs ys e = ap (λ zs. f x ∷ zs) e
picked-map false f x xs ys e = e

pub filter-map : {X Y : Type 0} (f : X → Y) (p : Y → Bool) (xs : List X)
    → filter p (map f xs) ≡ map f (filter (λ x. p (f x)) xs)
filter-map f p [] = refl
filter-map f p (x ∷ xs) =
    picked-map (p (f x)) f x (filter (λ y. p (f y)) xs) (filter p (map f xs)) (filter-map f p xs)

found-map : {X Y : Type 0} (b : Bool) (f : X → Y) (x : X) (o : Option X) (later : Option Y) → later ≡ option_map f o
    → (if b then Some (f x) else later) ≡ option_map f (if b then Some x else o)
found-map true f x o later e = refl
found-map false f x o later e = e

pub find-map : {X Y : Type 0} (f : X → Y) (p : Y → Bool) (xs : List X)
    → find p (map f xs) ≡ option_map f (find (λ x. p (f x)) xs)
find-map f p [] = refl
find-map f p (x ∷ xs) =
    found-map (p (f x)) f x (find (λ y. p (f y)) xs) (find p (map f xs)) (find-map f p xs)

pub list_any-map : {X Y : Type 0} (f : X → Y) (p : Y → Bool) (xs : List X)
    → list_any p (map f xs) ≡ list_any (λ x. p (f x)) xs
list_any-map f p [] = refl
list_any-map f p (x ∷ xs) = ap (λ later. p (f x) || later) (list_any-map f p xs)

pub map_twice : {X Y Z : Type 0} (f : X → Y) (g : Y → Z) (xs : List X) → map g (map f xs) ≡ map (λ x. g (f x)) xs
map_twice f g [] = refl
map_twice f g (x ∷ xs) = ap (λ zs. g (f x) ∷ zs) (map_twice f g xs)

pub empty-from_length : {X : Type 0} (xs : List X) → length xs ≡ 0 → xs ≡ []
empty-from_length [] e = refl
empty-from_length (x ∷ xs) e = absurd (omega arith)

pub held : (b : Bool) → not b ≡ false → b ≡ true
held true e = refl
held false e = sym e

pub unheld : (b : Bool) → not b ≡ true → b ≡ false
unheld true e = sym e
unheld false e = refl

pub all_zero : (f : ℕ → ℕ) (n base : ℕ) → ((k : ℕ) → f k ≡ 0) → map f (range_with_len base n) ≡ replicate n 0
all_zero f zero base none = refl
all_zero f (suc n) base none =
    ap (λ k. k ∷ map f (range_with_len (base + 1) n)) (none base) ∙ ap (λ ns. 0 ∷ ns) (all_zero f n (base + 1) none)

-- the test that a search found holds of what it found, and so does what holds of each
found_here : {X : Type 0} (P : X → Type 0) (b : Bool) (x : X) (later : Option X) (y : X)
    → (b ≡ true → P x) → (later ≡ Some y → P y) → (if b then Some x else later) ≡ Some y → P y
found_here P true x later y here rest e = let same : x ≡ y = cc in subst P same (here refl)
found_here P false x later y here rest e = rest e

pub find_passes : {X : Type 0} (test : X → Bool) (xs : List X) (y : X) → find test xs ≡ Some y → test y ≡ true
find_passes test [] y e = cc
find_passes test (x ∷ xs) y e =
    found_here (λ z. test z ≡ true) (test x) x (find test xs) y (λ t. t) (find_passes test xs y) e

pub find_all : {X : Type 0} (P : X → Type 0) (test : X → Bool) (xs : List X) (y : X) → AllByRecursion P xs
    → find test xs ≡ Some y → P y
find_all P test [] y all e = cc
find_all P test (x ∷ xs) y all e =
    found_here P (test x) x (find test xs) y (λ t. all.0) (find_all P test xs y all.1) e
