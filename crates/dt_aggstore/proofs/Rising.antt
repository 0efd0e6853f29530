-- Keys in rising order.
use Rattle.std.proofs.Common.{◌≡◌, zero, suc, ◌⊎◌, ⊎_elim, inl, inr, false, List, [], ◌∷◌, ◌++◌, Ordering, Less, refl}
use Rattle.std.proofs.Common.{sym, ap, ◌∙◌, subst, arith}
use Rattle.std.specs.Prelude.{Contains}
use Rattle.std.specs.List.{AllByRecursion}
use Rattle.std.specs.Cmp.{IsTotalOrder}
use Rattle.std.specs.Ordering.{ordering_then, ordering_reverse}
use Rattle.std.specs.declared.cmp.Ordering.TheVariants.{Equal, Greater}
use Rattle.std.proofs.lemmas.Cmp.{lists_total, int_cmp_total, nat_list_cmp_total, tied_itself}
use Rattle.std.proofs.lemmas.Map.Lookups.{exact_signed, exact_bytes}
use Rattle.dt_aggstore.specs.Keys.{part_cmp, key_cmp, same_key, IsBelow}
use Rattle.dt_aggstore.specs.Table.{IsRising}
use Rattle.dt_aggstore.specs.declared.key.KeyPart.{KeyPart}
use Rattle.dt_aggstore.specs.declared.key.KeyPart.TheVariants.{Number, Text}
use Rattle.dt_aggstore.proofs.Same.{key_decides}
use Rattle.dt_aggstore.proofs.Filters.{yes_or_no}

abbrev pub Key : Type 0
Key = List KeyPart

-- ---- the order

part_back : (a b : KeyPart) → part_cmp a b ≡ ordering_reverse (part_cmp b a)
part_back (Number a) (Number b) = int_cmp_total.antisymm a b
part_back (Number a) (Text b) = refl
part_back (Text a) (Number b) = refl
part_back (Text a) (Text b) = nat_list_cmp_total.antisymm a b

part_chain : (a b c : KeyPart) → part_cmp a b ≡ Less → part_cmp b c ≡ Less → part_cmp a c ≡ Less
part_chain (Number a) (Number b) (Number c) e f = int_cmp_total.trans a b c e f
part_chain (Number a) (Number b) (Text c) e f = refl
part_chain (Number a) (Text b) (Number c) e f = cc
part_chain (Number a) (Text b) (Text c) e f = refl
part_chain (Text a) (Number b) c e f = cc
part_chain (Text a) (Text b) (Number c) e f = cc
part_chain (Text a) (Text b) (Text c) e f = nat_list_cmp_total.trans a b c e f

part_level : (a b c : KeyPart) → part_cmp a b ≡ Equal → part_cmp a c ≡ part_cmp b c
part_level (Number a) (Number b) (Number c) e = int_cmp_total.congr a b c e
part_level (Number a) (Number b) (Text c) e = refl
part_level (Number a) (Text b) c e = cc
part_level (Text a) (Number b) c e = cc
part_level (Text a) (Text b) (Number c) e = refl
part_level (Text a) (Text b) (Text c) e = nat_list_cmp_total.congr a b c e

parts_total : IsTotalOrder part_cmp
parts_total = record { antisymm = part_back; trans = part_chain; congr = part_level }

pub keys_total : IsTotalOrder key_cmp
keys_total = lists_total parts_total

part_exact : (a b : KeyPart) → part_cmp a b ≡ Equal → a ≡ b
part_exact (Number a) (Number b) e = ap Number (exact_signed a b e)
part_exact (Number a) (Text b) e = cc
part_exact (Text a) (Number b) e = cc
part_exact (Text a) (Text b) e = ap Text (exact_bytes a b e)

both_equal : (o p : Ordering) → ordering_then o p ≡ Equal → (o ≡ Equal) × (p ≡ Equal)
both_equal Less p e = cc
both_equal Equal p e = (refl, e)
both_equal Greater p e = cc

pub key_exact : (a b : Key) → key_cmp a b ≡ Equal → a ≡ b
key_exact [] [] e = refl
key_exact [] (y ∷ b) e = cc
key_exact (x ∷ a) [] e = cc
key_exact (x ∷ a) (y ∷ b) e =
    let two = both_equal (part_cmp x y) (key_cmp a b) e in
    let head = part_exact x y two.0 in
    let rest = key_exact a b two.1 in
    λ i. head i ∷ rest i

pub below_chain : (a b c : Key) → IsBelow a b → IsBelow b c → IsBelow a c
below_chain = keys_total.trans

less_equal : (o : Ordering) → o ≡ Less → o ≡ Equal → ⊥
less_equal o e f = cc

pub below_apart : (a b : Key) → IsBelow a b → a ≡ b → ⊥
below_apart a b below same =
    less_equal (key_cmp a a) (subst (λ x. IsBelow a x) (sym same) below) (tied_itself keys_total a)

pub below_differs : (a b : Key) → IsBelow a b → same_key b a ≡ false
below_differs a b below = ⊎_elim
    (λ yes. absurd (below_apart a b below (sym ((key_decides b a).0 yes))))
    (λ no. no)
    (yes_or_no (same_key b a))

pub above_differs : (a b : Key) → IsBelow a b → same_key a b ≡ false
above_differs a b below = ⊎_elim
    (λ yes. absurd (below_apart a b below ((key_decides a b).0 yes)))
    (λ no. no)
    (yes_or_no (same_key a b))

not_below : (a b : Key) (o : Ordering) → key_cmp a b ≡ o → (IsBelow a b → ⊥) → (a ≡ b) ⊎ IsBelow b a
not_below a b Less e h = absurd (h e)
not_below a b Equal e h = inl (key_exact a b e)
not_below a b Greater e h = inr (keys_total.antisymm b a ∙ ap ordering_reverse e)

-- of two keys where the first isn't below, they are one or the second is
pub one_or_above : (a b : Key) → (IsBelow a b → ⊥) → (a ≡ b) ⊎ IsBelow b a
one_or_above a b h = not_below a b (key_cmp a b) refl h

-- ---- a key among others

abbrev pub AllBelow : List Key → Key → Type 0
AllBelow keys key = AllByRecursion (λ k. IsBelow k key) keys

abbrev pub AllAbove : Key → List Key → Type 0
AllAbove key keys = AllByRecursion (IsBelow key) keys

pub all_weaker : {X : Type 0} (P Q : X → Type 0) → ((x : X) → P x → Q x) → (xs : List X) → AllByRecursion P xs
    → AllByRecursion Q xs
all_weaker P Q h [] a = tt
all_weaker P Q h (x ∷ xs) a = (h x a.0, all_weaker P Q h xs a.1)

pub all_front : {X : Type 0} (P : X → Type 0) (xs ys : List X) → AllByRecursion P (xs ++ ys) → AllByRecursion P xs
all_front P [] ys a = tt
all_front P (x ∷ xs) ys a = (a.0, all_front P xs ys a.1)

pub all_back : {X : Type 0} (P : X → Type 0) (xs ys : List X) → AllByRecursion P (xs ++ ys) → AllByRecursion P ys
all_back P [] ys a = a
all_back P (x ∷ xs) ys a = all_back P xs ys a.1

pub all_append : {X : Type 0} (P : X → Type 0) (xs ys : List X) → AllByRecursion P xs → AllByRecursion P ys
    → AllByRecursion P (xs ++ ys)
all_append P [] ys a b = b
all_append P (x ∷ xs) ys a b = (a.0, all_append P xs ys a.1 b)

pub rising_back : (xs ys : List Key) → IsRising (xs ++ ys) → IsRising ys
rising_back [] ys r = r
rising_back (x ∷ xs) ys r = rising_back xs ys r.1

-- what comes before a place is below what comes there
pub rising_before : (xs : List Key) (key : Key) (ys : List Key) → IsRising (xs ++ key ∷ ys) → AllBelow xs key
rising_before [] key ys r = tt
rising_before (x ∷ xs) key ys r = ((all_back (IsBelow x) xs (key ∷ ys) r.0).0, rising_before xs key ys r.1)

pub rising_inserted : (xs : List Key) (key : Key) (ys : List Key) → IsRising (xs ++ ys) → AllBelow xs key
    → AllAbove key ys → IsRising (xs ++ key ∷ ys)
rising_inserted [] key ys r below above = (above, r)
rising_inserted (x ∷ xs) key ys r below above = (
  all_append (IsBelow x) xs (key ∷ ys) (all_front (IsBelow x) xs ys r.0) (below.0, all_back (IsBelow x) xs ys r.0),
  rising_inserted xs key ys r.1 below.1 above,
)

-- ---- which keys there are

pub contains_cases : {X : Type 0} (x : X) (xs : List X) (y : X) → Contains (x ∷ xs) y → (x ≡ y) ⊎ Contains xs y
contains_cases x xs y (zero, lt, e) = inl e
contains_cases x xs y (suc k, lt, e) = inr (k, omega arith, e)

pub contains_later : {X : Type 0} (x : X) (xs : List X) (y : X) → Contains xs y → Contains (x ∷ xs) y
contains_later x xs y (k, lt, e) = (suc k, omega arith, e)

pub contains_here : {X : Type 0} (x : X) (xs : List X) → Contains (x ∷ xs) x
contains_here x xs = (0, omega arith, refl)

pub contains_new : {X : Type 0} (xs : List X) (x : X) (ys : List X) → Contains (xs ++ x ∷ ys) x
contains_new [] x ys = contains_here x ys
contains_new (z ∷ xs) x ys = contains_later z (xs ++ x ∷ ys) x (contains_new xs x ys)

pub contains_kept : {X : Type 0} (xs : List X) (x : X) (ys : List X) (y : X) → Contains (xs ++ ys) y
    → Contains (xs ++ x ∷ ys) y
contains_kept [] x ys y a = contains_later x ys y a
contains_kept (z ∷ xs) x ys y a = ⊎_elim
    (λ e. subst (λ w. Contains (z ∷ (xs ++ x ∷ ys)) w) e (contains_here z (xs ++ x ∷ ys)))
    (λ b. contains_later z (xs ++ x ∷ ys) y (contains_kept xs x ys y b))
    (contains_cases z (xs ++ ys) y a)

pub contains_inserted : {X : Type 0} (xs : List X) (x : X) (ys : List X) (y : X) → Contains (xs ++ x ∷ ys) y
    → (x ≡ y) ⊎ Contains (xs ++ ys) y
contains_inserted [] x ys y a = contains_cases x ys y a
contains_inserted (z ∷ xs) x ys y a = ⊎_elim
    (λ e. inr (subst (λ w. Contains (z ∷ (xs ++ ys)) w) e (contains_here z (xs ++ ys))))
    (λ b. ⊎_elim
    (λ e. inl e)
    (λ d. inr (contains_later z (xs ++ ys) y d))
    (contains_inserted xs x ys y b))
    (contains_cases z (xs ++ x ∷ ys) y a)

pub all_contains : {X : Type 0} (P : X → Type 0) (xs : List X) (x : X) → AllByRecursion P xs → Contains xs x → P x
all_contains P [] x a (k, lt, e) = absurd (omega arith)
all_contains P (y ∷ xs) x a c = ⊎_elim
    (λ e. subst P e a.0)
    (λ d. all_contains P xs x a.1 d)
    (contains_cases y xs x c)
