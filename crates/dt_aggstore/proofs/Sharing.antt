-- Shares, and the bags that they are of.
use Rattle.std.proofs.Common.{◌≡◌, ℕ, ◌+◌, ◌<◌, ◌≤◌, ◌⊎◌, ⊎_elim, inl, inr, ℤ, Bool, true, false, cond}
use Rattle.std.proofs.Common.{List, [], ◌∷◌, ◌++◌, length, get_or, take, refl, sym, ap, ◌∙◌, subst, arith}
use Rattle.std.proofs.Common.{Ordering, Less, is_lt}
use Rattle.std.specs.Prelude.{filter, map, All, Contains}
use Rattle.std.specs.List.{AllByRecursion, AllZip, flat_map}
use Rattle.std.specs.List.Sorted.{IsSortedBy, IsSortedByKey}
use Rattle.std.proofs.lemmas.Bool.{false≢true}
use Rattle.std.proofs.lemmas.List.{append-nil, get_or-map, get_or-take, get_or_default, length-append, length-map, length-take-le}
use Rattle.std.proofs.lemmas.List.Elements.{filter-append}
use Rattle.std.proofs.lemmas.List.Sorted.{ranks_by, sorted_far}
use Rattle.std.proofs.lemmas.Grind.{flat_map-append}
use Rattle.dt_aggfn.specs.declared.function.AggFn.{AggFn}
use Rattle.dt_aggfn.specs.Cells.{cell_of, IsBag}
use Rattle.dt_aggstore.specs.Keys.{key_cmp, same_key, IsBelow}
use Rattle.dt_aggstore.specs.Joining.{cell_shared, AreJoined, AreShares, MakeBag, NoneAfter, joined_at, keys_of, shared_key}
use Rattle.dt_aggstore.specs.Shares.{ShareForm}
use Rattle.dt_aggstore.proofs.Same.{key_decides}
use Rattle.dt_aggstore.proofs.Filters.{yes_or_no}
use Rattle.dt_aggstore.proofs.Rising.{Key, keys_total, contains_later}
use Rattle.dt_aggstore.proofs.Rising.{contains_here}

abbrev Bags-of : Type 0
Bags-of = Key → List ℤ

-- whether a share has a key
abbrev pub has_key : Key → ShareForm → Bool
has_key key share = same_key (shared_key share) key

abbrev Has-cell : AggFn → ShareForm → List ℤ → Type 0
Has-cell function share part = IsBag part × (cell_shared share ≡ cell_of function part)

-- shares are of bags that are the same
pub shared_alike : (function : AggFn) (bags other : Bags-of) (shares : List ShareForm)
    → ((key : Key) → bags key ≡ other key) → AreShares function bags shares → AreShares function other shares
shared_alike function bags other shares h a = λ key. subst (MakeBag function (filter (has_key key) shares)) (h key)
    (a key)

-- ---- none

pub none_shared : (function : AggFn) (bags : Bags-of) (shares : List ShareForm) → shares ≡ []
    → ((key : Key) → bags key ≡ []) → AreShares function bags shares
none_shared function bags shares e none = λ key.
    subst (λ xs. MakeBag function (filter (has_key key) xs) (bags key)) (sym e)
    (record { parts = []; cells = tt; joined = none key })

pub nothing_made : (function : AggFn) (bag : List ℤ) → MakeBag function [] bag → bag ≡ []
nothing_made function bag m = by m.parts m.cells m.joined
  where
    by : (parts : List (List ℤ)) → AllZip (Has-cell function) [] parts → bag ≡ flat_map (λ part. part) parts → bag ≡ []
    by [] cells joined = joined
    by (part ∷ parts) cells joined = absurd cells

-- ---- one more

zip_push : {A B : Type 0} (R : A → B → Type 0) (xs : List A) (ys : List B) (x : A) (y : B) → AllZip R xs ys → R x y
    → AllZip R (xs ++ x ∷ []) (ys ++ y ∷ [])
zip_push R [] [] x y a r = (r, tt)
zip_push R [] (z ∷ ys) x y a r = absurd a
zip_push R (z ∷ xs) [] x y a r = absurd a
zip_push R (z ∷ xs) (w ∷ ys) x y a r = (a.0, zip_push R xs ys x y a.1 r)

joined_push : (parts : List (List ℤ)) (last : List ℤ)
    → flat_map (λ (part : List ℤ). part) (parts ++ last ∷ []) ≡ flat_map (λ part. part) parts ++ last
joined_push parts last =
    flat_map-append (λ (part : List ℤ). part) parts (last ∷ [])
    ∙ ap (λ xs. flat_map (λ part. part) parts ++ xs) (append-nil last)

made_more : (function : AggFn) (bag last : List ℤ) (shares : List ShareForm) (share : ShareForm)
    → MakeBag function shares bag → Has-cell function share last
    → MakeBag function (shares ++ share ∷ []) (bag ++ last)
made_more function bag last shares share m has = record {
  parts = m.parts ++ last ∷ [];
  cells = zip_push (Has-cell function) shares m.parts share last m.cells has;
  joined = ap (λ xs. xs ++ last) m.joined ∙ sym (joined_push m.parts last);
}

module _ (function : AggFn) (bags : Bags-of) (bag : List ℤ) (shares : List ShareForm) (share : ShareForm) where
  pub shared_more : AreShares function bags shares → IsBag bag → cell_shared share ≡ cell_of function bag
      → AreShares function (joined_at (shared_key share) bag bags) (shares ++ share ∷ [])
  shared_more so_far own cell = λ key.
      subst (λ xs. MakeBag function xs (joined_at (shared_key share) bag bags key))
      (sym (filter-append (has_key key) shares (share ∷ []))) (by key (has_key key share))
    where
      by : (key : Key) (b : Bool)
          → MakeBag function (filter (has_key key) shares ++ cond b (share ∷ []) []) (cond b (bags key ++ bag) (bags key))
      by key true =
          made_more function (bags key) bag (filter (has_key key) shares) share (so_far key) (own, cell)
      by key false =
          subst (λ xs. MakeBag function xs (bags key)) (sym (append-nil (filter (has_key key) shares))) (so_far key)

-- ---- the last one

zip_pop : {A B : Type 0} (R : A → B → Type 0) (xs : List A) (x : A) (ys : List B) → AllZip R (xs ++ x ∷ []) ys
    → (front : List B) × (last : B) × (ys ≡ front ++ last ∷ []) × AllZip R xs front × R x last
zip_pop R [] x [] a = absurd a
zip_pop R [] x (y ∷ []) a = ([], y, refl, tt, a.0)
zip_pop R [] x (y ∷ z ∷ ys) a = absurd a.1
zip_pop R (w ∷ xs) x [] a = absurd a
zip_pop R (w ∷ xs) x (y ∷ ys) a =
    let rest = zip_pop R xs x ys a.1 in
    (y ∷ rest.0, rest.1, ap (λ zs. y ∷ zs) rest.2, (a.0, rest.3), rest.4)

-- what shares make before the last one, and what that one has
pub record Before (function : AggFn) (shares : List ShareForm) (share : ShareForm) (bag : List ℤ) : Type 0 where
  pub front : List ℤ
  pub last : List ℤ
  pub made : MakeBag function shares front
  pub own : IsBag last
  pub cell : cell_shared share ≡ cell_of function last
  pub whole : front ++ last ≡ bag

made_before : (function : AggFn) (bag : List ℤ) (shares : List ShareForm) (share : ShareForm)
    → MakeBag function (shares ++ share ∷ []) bag → Before function shares share bag
made_before function bag shares share m =
    let two = zip_pop (Has-cell function) shares share m.parts m.cells in
    record {
      front = flat_map (λ part. part) two.0;
      last = two.1;
      made = record { parts = two.0; cells = two.3; joined = refl };
      own = two.4.0;
      cell = two.4.1;
      whole = sym (m.joined ∙ ap (flat_map (λ part. part)) two.2 ∙ joined_push two.0 two.1);
    }

module _ (function : AggFn) (bags : Bags-of) (shares : List ShareForm) (share : ShareForm)
    (all : AreShares function bags (shares ++ share ∷ [])) where
  abbrev Own-key : Key
  Own-key = shared_key share

  split : (key : Key) → MakeBag function (filter (has_key key) shares ++ filter (has_key key) (share ∷ [])) (bags key)
  split key =
      subst (λ xs. MakeBag function xs (bags key)) (filter-append (has_key key) shares (share ∷ [])) (all key)

  pub at_own : Before function (filter (has_key Own-key) shares) share (bags Own-key)
  at_own =
      made_before function (bags Own-key) (filter (has_key Own-key) shares) share
      (subst (λ b. MakeBag function (filter (has_key Own-key) shares ++ cond b (share ∷ []) []) (bags Own-key))
      ((key_decides Own-key Own-key).1 refl) (split Own-key))

  -- the bags before it
  abbrev pub bags_before : Bags-of
  bags_before key = cond (same_key Own-key key) at_own.front (bags key)

  pub shared_before : AreShares function bags_before shares
  shared_before = λ key. ⊎_elim
      (λ yes.
      subst (λ b. MakeBag function (filter (has_key key) shares) (cond b at_own.front (bags key))) (sym yes)
      (subst (λ k. MakeBag function (filter (has_key k) shares) at_own.front) ((key_decides Own-key key).0 yes)
      at_own.made))
      (λ no.
      subst (λ b. MakeBag function (filter (has_key key) shares) (cond b at_own.front (bags key))) (sym no)
      (subst (λ xs. MakeBag function xs (bags key)) (append-nil (filter (has_key key) shares))
      (subst (λ b. MakeBag function (filter (has_key key) shares ++ cond b (share ∷ []) []) (bags key)) no
      (split key))))
      (yes_or_no (same_key Own-key key))

  pub before_whole : (key : Key) → joined_at Own-key at_own.last bags_before key ≡ bags key
  before_whole key = ⊎_elim
      (λ yes.
      ap (λ b. cond b (cond b at_own.front (bags key) ++ at_own.last) (cond b at_own.front (bags key))) yes
      ∙ at_own.whole ∙ ap bags ((key_decides Own-key key).0 yes))
      (λ no. ap (λ b. cond b (cond b at_own.front (bags key) ++ at_own.last) (cond b at_own.front (bags key))) no)
      (yes_or_no (same_key Own-key key))

  pub before_short : (key : Key) → length (bags_before key) ≤ length (bags key)
  before_short key = ⊎_elim
      (λ yes.
      subst (λ b. length (cond b at_own.front (bags key)) ≤ length (bags key)) (sym yes)
      (subst (λ k. length at_own.front ≤ length (bags k)) ((key_decides Own-key key).0 yes)
      (omega (arith, ap length at_own.whole, length-append at_own.front at_own.last))))
      (λ no.
      subst (λ b. length (cond b at_own.front (bags key)) ≤ length (bags key)) (sym no) (omega arith))
      (yes_or_no (same_key Own-key key))

-- ---- in order

-- whether a share's key comes before another's
abbrev pub comes_before : ShareForm → ShareForm → Bool
comes_before a b = is_lt (key_cmp (shared_key a) (shared_key b))

-- what shares hold is in order where they are
pub sorted_told : {S : Type 0} (told : S → ShareForm) (shares : List S)
    → IsSortedBy (λ a b. comes_before (told a) (told b)) shares → IsSortedByKey shared_key key_cmp (map told shares)
sorted_told told [] sorted = λ k d low high. absurd (omega (arith, high))
sorted_told told (first ∷ later) sorted = λ k d low high.
    let shares = first ∷ later in
    let long = length-map shares told in
    ap (λ x. comes_before x (get_or (map told shares) k d)) (get_or-map told shares (k + 1) first d (omega (arith, high, long)))
    ∙ ap (comes_before (told (get_or shares (k + 1) first))) (get_or-map told shares k first d (omega (arith, high, long)))
    ∙ sorted k first low (omega (arith, high, long))

-- one of some shares has as many words as all
pub words_told : {S : Type 0} (told : S → ShareForm) (words : ℕ) (shares : List S)
    → All (λ share. length (cell_shared share) ≡ words) (map told shares)
    → (i : ℕ) (share : S) → i < length shares → share ≡ get_or shares i share → length (cell_shared (told share)) ≡ words
words_told told words shares all i share here is =
    ap (λ s. length (cell_shared (told s))) is
    ∙ ap (λ s. length (cell_shared s)) (sym (get_or-map told shares i share (told share) here))
    ∙ all i (told share) (omega (arith, here, length-map shares told))

-- a filter keeps nothing, or there is something that passes
filtered : {X : Type 0} (p : X → Bool) (xs : List X) → (filter p xs ≡ []) ⊎ ((x : X) × Contains xs x × (p x ≡ true))
filtered p [] = inl refl
filtered p (x ∷ xs) = ⊎_elim
    (λ yes. inr (x, contains_here x xs, yes))
    (λ no. ⊎_elim
    (λ none. inl (ap (λ b. cond b (x ∷ filter p xs) (filter p xs)) no ∙ none))
    (λ some. inr (some.0, contains_later x xs some.0 some.1, some.2))
    (filtered p xs))
    (yes_or_no (p x))

-- ---- what is joined comes before what isn't yet

all_from : {X : Type 0} (P : X → Type 0) (xs : List X) → ((x : X) → Contains xs x → P x) → AllByRecursion P xs
all_from P [] h = tt
all_from P (x ∷ xs) h = (h x (contains_here x xs), all_from P xs (λ y c. h y (contains_later x xs y c)))

lt_from_less : (o : Ordering) → is_lt o ≡ false → o ≡ Less → ⊥
lt_from_less o e f = false≢true (sym e ∙ ap is_lt f)

pub none_after : (function : AggFn) (bags : Bags-of) (shares : List ShareForm) (n : ℕ) (share : ShareForm) (rows : List ShareForm)
    → n < length shares → share ≡ get_or shares n share → IsSortedByKey shared_key key_cmp shares
    → AreShares function bags (take n shares) → AreJoined function bags rows
    → NoneAfter (shared_key share) (keys_of rows)
none_after function bags shares n share rows here is sorted a j =
    all_from (λ other. IsBelow (shared_key share) other → ⊥) (keys_of rows) (λ key among. ⊎_elim
    (λ none. absurd ((j.has key).0 among
    (nothing_made function (bags key) (subst (λ xs. MakeBag function xs (bags key)) none (a key)))))
    (λ some. by key some.0 some.1 some.2)
    (filtered (has_key key) (take n shares)))
  where
    by : (key : Key) (x : ShareForm) → Contains (take n shares) x → has_key key x ≡ true
        → IsBelow (shared_key share) key → ⊥
    by key x (k, lt, e) own below =
        let short : length (take n shares) ≡ n = length-take-le n shares (omega arith) in
        let there : get_or shares k x ≡ x = sym (get_or-take n shares k x (omega arith)) ∙ e in
        let here' : get_or shares n x ≡ share = get_or_default shares n x share here ∙ sym is in
        let far : comes_before share x ≡ false =
        ap (λ s. comes_before s x) (sym here') ∙ ap (comes_before (get_or shares n x)) (sym there)
        ∙ sorted_far comes_before (ranks_by keys_total shared_key) shares sorted k n x (omega arith) here in
        lt_from_less (key_cmp (shared_key share) (shared_key x)) far
        (subst (λ k. IsBelow (shared_key share) k) (sym ((key_decides (shared_key x) key).0 own)) below)
