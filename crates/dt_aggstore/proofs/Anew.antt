-- Shares in another order are of bags whose values come in another order.
use Rattle.std.proofs.Common.{◌≡◌, ℕ, zero, suc, ◌<◌, Bool, true, false, cond, ℤ, List, [], ◌∷◌, ◌++◌, length, get_or, set, refl, sym, ap, ◌∙◌, subst, arith, append_assoc}
use Rattle.std.specs.Prelude.{filter, IsPermutation, FitsSigned}
use Rattle.std.specs.Int.{w64}
use Rattle.std.specs.List.{AllZip, flat_map, swap}
use Rattle.std.proofs.lemmas.List.Elements.{All-from_recursion, recursion_from_All}
use Rattle.std.proofs.lemmas.List.Edits.{swap_is}
use Rattle.std.proofs.lemmas.List.Sorted.{All-permutation, IsPermutation-append_comm, IsPermutation-append_left, IsPermutation-append_right, IsPermutation-keeps}
use Rattle.std.proofs.lemmas.List.Sorted.{IsPermutation-refl, IsPermutation-sym, IsPermutation-trans, length_permutation}
use Rattle.dt_aggfn.specs.declared.function.AggFn.{AggFn}
use Rattle.dt_aggfn.specs.Cells.{cell_of, IsBag}
use Rattle.dt_aggstore.specs.Joining.{cell_shared, shared_key, AreJoined, AreShares, AreSharesInSomeOrder, MakeBag}
use Rattle.dt_aggstore.specs.Shares.{ShareForm}
use Rattle.dt_aggstore.proofs.Rising.{Key, all_weaker}
use Rattle.dt_aggstore.proofs.Sharing.{has_key}

-- some shares pass a test, and make a bag
module _ (function : AggFn) (p : ShareForm → Bool) where
  -- What those of some shares make, those of others make in another order.
  abbrev Turns : (xs ys : List ShareForm) → Type 0
  Turns xs ys = (bag : List ℤ) → MakeBag function (filter p xs) bag
      → (other : List ℤ) × IsPermutation bag other × MakeBag function (filter p ys) other

  stays : (xs : List ShareForm) → Turns xs xs
  stays xs bag m = (bag, IsPermutation-refl bag, m)

  goes_on : (xs ys zs : List ShareForm) → Turns xs ys → Turns ys zs → Turns xs zs
  goes_on xs ys zs f g bag m =
      let once = f bag m in
      let twice = g once.0 once.2 in (twice.0, IsPermutation-trans _ _ _ once.1 twice.1, twice.2)

  -- with one more in front
  with_first : (x : ShareForm) (xs ys : List ShareForm) → Turns xs ys → Turns (x ∷ xs) (x ∷ ys)
  with_first x xs ys f bag m = by (p x) m
    where
      with_part : (parts : List (List ℤ)) → AllZip (λ share part. IsBag part × (cell_shared share ≡ cell_of function part)) (x ∷ filter p xs) parts
          → bag ≡ flat_map (λ part. part) parts
          → (other : List ℤ) × IsPermutation bag other × MakeBag function (x ∷ filter p ys) other
      with_part [] cells joined = absurd cells
      with_part (part ∷ parts) cells joined =
          let later = f (flat_map (λ part. part) parts) (record { parts = parts; cells = cells.1; joined = refl }) in (
            part ++ later.0,
            subst (λ l. IsPermutation l (part ++ later.0)) (sym joined) (IsPermutation-append_right part _ _ later.1),
            record {
              parts = part ∷ later.2.parts;
              cells = (cells.0, later.2.cells);
              joined = ap (λ l. part ++ l) later.2.joined;
            },
          )

      by : (b : Bool) → MakeBag function (cond b (x ∷ filter p xs) (filter p xs)) bag
          → (other : List ℤ) × IsPermutation bag other × MakeBag function (cond b (x ∷ filter p ys) (filter p ys)) other
      by true m = with_part m.parts m.cells m.joined
      by false m = f bag m

  -- of two that pass each brings its values in front of the other's
  both_turned : (x y : ShareForm) (xs : List ShareForm) (bag : List ℤ) (parts : List (List ℤ))
      → AllZip (λ share part. IsBag part × (cell_shared share ≡ cell_of function part)) (x ∷ y ∷ xs) parts
      → bag ≡ flat_map (λ part. part) parts
      → (other : List ℤ) × IsPermutation bag other × MakeBag function (y ∷ x ∷ xs) other
  both_turned x y xs bag [] cells joined = absurd cells
  both_turned x y xs bag (one ∷ []) cells joined = absurd cells.1
  both_turned x y xs bag (one ∷ two ∷ parts) cells joined =
      let rest = flat_map (λ part. part) parts in
      let turned : IsPermutation ((one ++ two) ++ rest) ((two ++ one) ++ rest) = IsPermutation-append_left rest _ _ (IsPermutation-append_comm one two) in (
        two ++ (one ++ rest),
        subst (λ l. IsPermutation l (two ++ (one ++ rest))) (sym joined) (rw (append_assoc one two rest, append_assoc two one rest) at turned),
        record {
          parts = two ∷ one ∷ parts;
          cells = (cells.1.0, (cells.0, cells.1.1));
          joined = refl;
        },
      )

  first_two : (x y : ShareForm) (xs : List ShareForm) → Turns (x ∷ y ∷ xs) (y ∷ x ∷ xs)
  first_two x y xs bag m = by (p x) (p y) m
    where
      by : (b c : Bool) → MakeBag function (cond b (x ∷ cond c (y ∷ filter p xs) (filter p xs)) (cond c (y ∷ filter p xs) (filter p xs))) bag
          → (other : List ℤ) × IsPermutation bag other
          × MakeBag function (cond c (y ∷ cond b (x ∷ filter p xs) (filter p xs)) (cond b (x ∷ filter p xs) (filter p xs))) other
      by true true m = both_turned x y (filter p xs) bag m.parts m.cells m.joined
      by true false m = (bag, IsPermutation-refl bag, m)
      by false true m = (bag, IsPermutation-refl bag, m)
      by false false m = (bag, IsPermutation-refl bag, m)

  -- the first and a later one
  first_and : (d x : ShareForm) (xs : List ShareForm) (j : ℕ) → j < length xs → Turns (x ∷ xs) (get_or xs j d ∷ set xs j x)
  first_and d x [] j small = absurd (omega (arith, small))
  first_and d x (y ∷ xs) zero small = first_two x y xs
  first_and d x (y ∷ xs) (suc j) small =
      let later = first_and d x xs j (omega (arith, small)) in
      let there = get_or xs j d ∷ set xs j x in
      goes_on (x ∷ y ∷ xs) (y ∷ there) (get_or xs j d ∷ y ∷ set xs j x)
      (goes_on (x ∷ y ∷ xs) (y ∷ x ∷ xs) (y ∷ there) (first_two x y xs) (with_first y (x ∷ xs) there later)) (first_two y (get_or xs j d) (set xs j x))

  -- any two
  any_two : (d : ShareForm) (xs : List ShareForm) (i j : ℕ) → i < length xs → j < length xs
      → Turns xs (set (set xs i (get_or xs j d)) j (get_or xs i d))
  any_two d [] i j a b = absurd (omega (arith, a))
  any_two d (x ∷ xs) zero zero a b = stays (x ∷ xs)
  any_two d (x ∷ xs) zero (suc j) a b = first_and d x xs j (omega (arith, b))
  any_two d (x ∷ xs) (suc i) zero a b = first_and d x xs i (omega (arith, a))
  any_two d (x ∷ xs) (suc i) (suc j) a b =
      with_first x xs (set (set xs i (get_or xs j d)) j (get_or xs i d)) (any_two d xs i j (omega (arith, a)) (omega (arith, b)))

  exchanged : (xs : List ShareForm) (i j : ℕ) → i < length xs → j < length xs → Turns xs (swap xs i j)
  exchanged [] i j a b = absurd (omega (arith, a))
  exchanged (x ∷ xs) i j a b = subst (Turns (x ∷ xs)) (swap_is (x ∷ xs) i j x a b) (any_two x (x ∷ xs) i j a b)

  -- in any order
  turned : (xs ys : List ShareForm) → IsPermutation xs ys → Turns xs ys
  turned xs ys moved = IsPermutation-keeps xs (Turns xs) (stays xs) (λ l i j a b so_far. goes_on xs l (swap l i j) so_far (exchanged l i j a b)) ys moved

pub shares_anew : (function : AggFn) (bags : Key → List ℤ) (xs ys : List ShareForm) → IsPermutation xs ys
    → AreShares function bags xs → AreSharesInSomeOrder function bags ys
shares_anew function bags xs ys moved a = record {
  others = λ key. (turned function (has_key key) xs ys moved (bags key) (a key)).0;
  same = λ key. (turned function (has_key key) xs ys moved (bags key) (a key)).1;
  are = λ key. (turned function (has_key key) xs ys moved (bags key) (a key)).2;
}

-- ---- what is joined doesn't depend on the order

none_too : (a b : List ℤ) → IsPermutation a b → a ≡ [] → b ≡ []
none_too a [] p e = refl
none_too a (x ∷ b) p e = absurd (omega (arith, length_permutation a (x ∷ b) p, ap length e))

pub joined_anew : ((f : AggFn) (a b : List ℤ) → IsPermutation a b → cell_of f a ≡ cell_of f b)
    → (function : AggFn) (bags others : Key → List ℤ) (rows : List ShareForm)
    → ((key : Key) → IsPermutation (bags key) (others key)) → AreJoined function others rows
    → AreJoined function bags rows
joined_anew any function bags others rows same j = record {
  rising = j.rising;
  has = λ key. (
    (λ among none. (j.has key).0 among (none_too (bags key) (others key) (same key) none)),
    (λ some. (j.has key).1 (λ none. some
        (none_too (others key) (bags key) (IsPermutation-sym (bags key) (others key) (same key)) none))),
  );
  cells = all_weaker (λ row. cell_shared row ≡ cell_of function (others (shared_key row)))
      (λ row. cell_shared row ≡ cell_of function (bags (shared_key row)))
      (λ row e. e ∙ sym (any function (bags (shared_key row)) (others (shared_key row)) (same (shared_key row)))) rows j.cells;
  words = λ key. recursion_from_All (λ z. FitsSigned w64 z) (bags key)
      (All-permutation (λ z. FitsSigned w64 z) (others key) (bags key)
      (IsPermutation-sym (bags key) (others key) (same key))
      (All-from_recursion (λ z. FitsSigned w64 z) (others key) (j.words key)));
}
