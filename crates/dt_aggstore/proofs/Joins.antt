-- A bag joins the row of its key, or makes one.
use Rattle.std.proofs.Common.{◌≡◌, ◌≢◌, ℕ, zero, suc, ◌+◌, ◌-◌, ◌<◌, ◌≤◌, ◌⊎◌, ⊎_elim, inl, inr, ℤ, Bool, true, false, cond}
use Rattle.std.proofs.Common.{List, [], ◌∷◌, ◌++◌, length, get_or, take, drop, refl, sym, ap, ◌∙◌, subst}
use Rattle.std.proofs.Common.{arith}
use Rattle.std.specs.Prelude.{FitsSigned, Contains}
use Rattle.std.specs.Int.{w64}
use Rattle.std.specs.List.{AllByRecursion}
use Rattle.std.proofs.lemmas.Bool.{cases_lt, false≢true}
use Rattle.std.proofs.lemmas.List.{take-append-drop, drop_more, map-append, append-nil}
use Rattle.dt_aggfn.specs.declared.function.AggFn.{AggFn}
use Rattle.dt_aggfn.specs.declared.limits.TheConstants.{BAG_LIMIT}
use Rattle.dt_aggfn.specs.Cells.{cell_of, IsBag}
use Rattle.dt_aggstore.specs.Keys.{same_key, IsBelow}
use Rattle.dt_aggstore.specs.Table.{IsRising}
use Rattle.dt_aggstore.specs.Joining.{cell_shared, shared_key, keys_of, AreJoined, joined_at, NoneAfter}
use Rattle.dt_aggstore.specs.Shares.{ShareForm}
use Rattle.dt_aggstore.proofs.Same.{key_decides}
use Rattle.dt_aggstore.proofs.Filters.{yes_or_no}
use Rattle.dt_aggstore.proofs.Rising.{Key, AllBelow, AllAbove, below_differs, above_differs, below_chain, one_or_above}
use Rattle.dt_aggstore.proofs.Rising.{all_weaker, all_front, all_back, all_append, rising_back, rising_before}
use Rattle.dt_aggstore.proofs.Rising.{rising_inserted, contains_new, contains_kept, contains_inserted}

abbrev Bags-of : Type 0
Bags-of = Key → List ℤ

abbrev Cells-are : AggFn → Bags-of → List ShareForm → Type 0
Cells-are function bags rows = AllByRecursion (λ row. cell_shared row ≡ cell_of function (bags (shared_key row))) rows

own_key : (key : Key) → same_key key key ≡ true
own_key key = (key_decides key key).1 refl

empty_or_not : (bag : List ℤ) → (bag ≡ []) ⊎ (bag ≢ [])
empty_or_not [] = inl refl
empty_or_not (x ∷ bag) = inr (λ e. cc)

append_some : (a b : List ℤ) → b ≢ [] → a ++ b ≢ []
append_some [] b h = h
append_some (x ∷ a) b h = λ e. cc

module _ (key : Key) (bag : List ℤ) (bags : Bags-of) where
  joined_own : joined_at key bag bags key ≡ bags key ++ bag
  joined_own = ap (λ b. cond b (bags key ++ bag) (bags key)) (own_key key)

  joined_other : (other : Key) → same_key key other ≡ false → joined_at key bag bags other ≡ bags other
  joined_other other e = ap (λ b. cond b (bags other ++ bag) (bags other)) e

  -- the cells of rows with other keys stay
  cells_other : (function : AggFn) (rows : List ShareForm) → AllByRecursion (λ k. same_key key k ≡ false) (keys_of rows)
      → Cells-are function bags rows → Cells-are function (joined_at key bag bags) rows
  cells_other function [] apart cells = tt
  cells_other function (row ∷ rows) apart cells = (
    cells.0 ∙ ap (cell_of function) (sym (joined_other (shared_key row) apart.0)),
    cells_other function rows apart.1 cells.1,
  )

  joined_words : ((k : Key) → AllByRecursion (λ z. FitsSigned w64 z) (bags k))
      → AllByRecursion (λ z. FitsSigned w64 z) bag
      → (k : Key) → AllByRecursion (λ z. FitsSigned w64 z) (joined_at key bag bags k)
  joined_words all own k =
      let P : Bool → Type 0 = λ b. AllByRecursion (λ z. FitsSigned w64 z) (cond b (bags k ++ bag) (bags k)) in
      ⊎_elim
      (λ yes. subst P (sym yes) (all_append (λ z. FitsSigned w64 z) (bags k) bag (all k) own))
      (λ no. subst P (sym no) (all k))
      (yes_or_no (same_key key k))

  -- which keys have values
  some_joined : bag ≢ [] → (k : Key) → (key ≡ k) ⊎ (bags k ≢ []) → joined_at key bag bags k ≢ []
  some_joined some k h = ⊎_elim
      (λ yes. subst (λ b. b ≢ []) (sym (ap (λ b. cond b (bags k ++ bag) (bags k)) yes))
      (append_some (bags k) bag some))
      (λ no. ⊎_elim
      (λ e. absurd (false≢true (sym no ∙ (key_decides key k).1 e)))
      (λ more. subst (λ b. b ≢ []) (sym (joined_other k no)) more)
      h)
      (yes_or_no (same_key key k))

  joined_some : (k : Key) → joined_at key bag bags k ≢ [] → (key ≡ k) ⊎ (bags k ≢ [])
  joined_some k h = ⊎_elim
      (λ yes. inl ((key_decides key k).0 yes))
      (λ no. inr (subst (λ b. b ≢ []) (joined_other k no) h))
      (yes_or_no (same_key key k))

keys-split : (before : List ShareForm) (row : ShareForm) (later : List ShareForm)
    → keys_of (before ++ row ∷ later) ≡ keys_of before ++ shared_key row ∷ keys_of later
keys-split before row later = map-append shared_key before (row ∷ later)

-- ---- the key has a row

module _ (function : AggFn) (bags : Bags-of) (bag : List ℤ) (before : List ShareForm) (row new : ShareForm) (later :
    List ShareForm)
    (j : AreJoined function bags (before ++ row ∷ later)) where
  abbrev Row-key : Key
  Row-key = shared_key row

  rises : IsRising (keys_of before ++ Row-key ∷ keys_of later)
  rises = subst IsRising (keys-split before row later) j.rising

  before_apart : AllByRecursion (λ k. same_key Row-key k ≡ false) (keys_of before)
  before_apart =
      all_weaker (λ k. IsBelow k Row-key) (λ k. same_key Row-key k ≡ false) (λ k b. below_differs k Row-key b)
      (keys_of before) (rising_before (keys_of before) Row-key (keys_of later) rises)

  later_apart : AllByRecursion (λ k. same_key Row-key k ≡ false) (keys_of later)
  later_apart =
      all_weaker (IsBelow Row-key) (λ k. same_key Row-key k ≡ false) (λ k b. above_differs Row-key k b)
      (keys_of later)
      (rising_back (keys_of before) (Row-key ∷ keys_of later) rises).0

  -- the row's bag is one
  pub row_bag : length (bags Row-key) < BAG_LIMIT → IsBag (bags Row-key)
  row_bag few = record {
    some = (j.has Row-key).0
        (subst (λ xs. Contains xs Row-key) (sym (keys-split before row later))
        (contains_new (keys_of before) Row-key (keys_of later)));
    few = few;
    words = j.words Row-key;
  }

  pub row_cell : cell_shared row ≡ cell_of function (bags Row-key)
  row_cell = (all_back (λ row. cell_shared row ≡ cell_of function (bags (shared_key row))) before (row ∷ later) j.cells).0

  same_keys : shared_key new ≡ Row-key → keys_of (before ++ new ∷ later) ≡ keys_of (before ++ row ∷ later)
  same_keys e =
      keys-split before new later ∙ ap (λ k. keys_of before ++ k ∷ keys_of later) e
      ∙ sym (keys-split before row later)

  pub merged : shared_key new ≡ Row-key → cell_shared new ≡ cell_of function (bags Row-key ++ bag) → IsBag bag
      → AreJoined function (joined_at Row-key bag bags) (before ++ new ∷ later)
  merged e cell own = record {
    rising = subst IsRising (sym (same_keys e)) j.rising;
    has = λ k. (
      (λ a. some_joined Row-key bag bags own.some k
          (inr ((j.has k).0 (subst (λ xs. Contains xs k) (same_keys e) a)))),
      (λ some. subst (λ xs. Contains xs k) (sym (same_keys e)) (⊎_elim
          (λ is. subst (λ xs. Contains xs k) (sym (keys-split before row later))
          (subst (λ x. Contains (keys_of before ++ Row-key ∷ keys_of later) x) is
          (contains_new (keys_of before) Row-key (keys_of later))))
          (λ more. (j.has k).1 more)
          (joined_some Row-key bag bags k some))),
    );
    cells = all_append (λ row. cell_shared row ≡ cell_of function (joined_at Row-key bag bags (shared_key row))) before
        (new ∷ later)
        (cells_other Row-key bag bags function before before_apart
        (all_front (λ row. cell_shared row ≡ cell_of function (bags (shared_key row))) before (row ∷ later) j.cells)) (
          cell ∙ ap (cell_of function) (sym (ap (joined_at Row-key bag bags) e ∙ joined_own Row-key bag bags)),
          cells_other Row-key bag bags function later later_apart
              (all_back (λ row. cell_shared row ≡ cell_of function (bags (shared_key row))) before
              (row ∷ later) j.cells).1,
        );
    words = joined_words Row-key bag bags j.words own.words;
  }

-- ---- the key has none

module _ (function : AggFn) (bags : Bags-of) (bag : List ℤ) (before later : List ShareForm) (new : ShareForm)
    (j : AreJoined function bags (before ++ later)) (below : AllBelow (keys_of before) (shared_key new))
    (above : AllAbove (shared_key new) (keys_of later)) where
  abbrev New-key : Key
  New-key = shared_key new

  both_apart : AllByRecursion (λ k. same_key New-key k ≡ false) (keys_of before)
      × AllByRecursion (λ k. same_key New-key k ≡ false) (keys_of later)
  both_apart = (
    all_weaker (λ k. IsBelow k New-key) (λ k. same_key New-key k ≡ false) (λ k b. below_differs k New-key b)
        (keys_of before) below,
    all_weaker (IsBelow New-key) (λ k. same_key New-key k ≡ false) (λ k b. above_differs New-key k b)
        (keys_of later) above,
  )

  not_among : (keys : List Key) → AllByRecursion (λ k. same_key New-key k ≡ false) keys → Contains keys New-key → ⊥
  not_among [] apart (k, lt, e) = omega arith
  not_among (x ∷ keys) apart (zero, lt, e) =
      false≢true (sym apart.0 ∙ ap (same_key New-key) e ∙ own_key New-key)
  not_among (x ∷ keys) apart (suc k, lt, e) = not_among keys apart.1 (k, omega arith, e)

  no_values : bags New-key ≡ []
  no_values = ⊎_elim
      (λ none. none)
      (λ some. absurd (not_among (keys_of before ++ keys_of later)
      (all_append (λ k. same_key New-key k ≡ false) (keys_of before) (keys_of later) both_apart.0 both_apart.1)
      (subst (λ xs. Contains xs New-key) (map-append shared_key before later) ((j.has New-key).1 some))))
      (empty_or_not (bags New-key))

  pub inserted : cell_shared new ≡ cell_of function bag → IsBag bag
      → AreJoined function (joined_at New-key bag bags) (before ++ new ∷ later)
  inserted cell own = record {
    rising = subst IsRising (sym (keys-split before new later))
        (rising_inserted (keys_of before) New-key (keys_of later)
        (subst IsRising (map-append shared_key before later) j.rising) below above);
    has = λ k. (
      (λ a. some_joined New-key bag bags own.some k (⊎_elim
          (λ is. inl is)
          (λ old. inr ((j.has k).0 (subst (λ xs. Contains xs k) (sym (map-append shared_key before later)) old)))
          (contains_inserted (keys_of before) New-key (keys_of later) k
          (subst (λ xs. Contains xs k) (keys-split before new later) a)))),
      (λ some. subst (λ xs. Contains xs k) (sym (keys-split before new later)) (⊎_elim
          (λ is. subst (λ x. Contains (keys_of before ++ New-key ∷ keys_of later) x) is
          (contains_new (keys_of before) New-key (keys_of later)))
          (λ more. contains_kept (keys_of before) New-key (keys_of later) k
          (subst (λ xs. Contains xs k) (map-append shared_key before later) ((j.has k).1 more)))
          (joined_some New-key bag bags k some))),
    );
    cells = all_append (λ row. cell_shared row ≡ cell_of function (joined_at New-key bag bags (shared_key row))) before
        (new ∷ later)
        (cells_other New-key bag bags function before both_apart.0
        (all_front (λ row. cell_shared row ≡ cell_of function (bags (shared_key row))) before later j.cells)) (
          cell ∙ ap (cell_of function) (ap (λ b. b ++ bag) (sym no_values) ∙ sym (joined_own New-key bag bags)),
          cells_other New-key bag bags function later both_apart.1
              (all_back (λ row. cell_shared row ≡ cell_of function (bags (shared_key row))) before later j.cells),
        );
    words = joined_words New-key bag bags j.words own.words;
  }

-- ---- at the end

-- where no key comes after one, and the last of them is another, all come before it
pub all_below : (rows : List ShareForm) (n : ℕ) (key : Key) → n + 1 ≡ length rows → IsRising (keys_of rows)
    → NoneAfter key (keys_of rows) → ((d : ShareForm) → same_key (shared_key (get_or rows n d)) key ≡ false)
    → AllBelow (keys_of rows) key
all_below [] n key e rising none apart = tt
all_below (row ∷ []) zero key e rising none apart = ⊎_elim
    (λ same. absurd (false≢true (sym (apart row) ∙ (key_decides (shared_key row) key).1 (sym same))))
    (λ below. (below, tt))
    (one_or_above key (shared_key row) none.0)
all_below (row ∷ []) (suc n) key e rising none apart = absurd (omega arith)
all_below (row ∷ next ∷ rows) zero key e rising none apart = absurd (omega arith)
all_below (row ∷ next ∷ rows) (suc n) key e rising none apart =
    let rest = all_below (next ∷ rows) n key (omega arith) rising.1 none.1 apart in
    (below_chain (shared_key row) (shared_key next) key rising.0.0 rest.0, rest)

pub all_below_end : (rows : List ShareForm) (key : Key) → IsRising (keys_of rows) → NoneAfter key (keys_of rows)
    → ((d : ShareForm) → 0 < length rows → same_key (shared_key (get_or rows (length rows - 1) d)) key ≡ false)
    → AllBelow (keys_of rows) key
all_below_end rows key rising none apart = ⊎_elim
    (λ some. all_below rows (length rows - 1) key (omega arith) rising none (λ d. apart d some))
    (λ over. subst (λ xs. AllBelow (keys_of xs) key) (sym (empty rows over)) tt)
    (cases_lt 0 (length rows))
  where
    empty : (rows : List ShareForm) → length rows ≤ 0 → rows ≡ []
    empty [] h = refl
    empty (row ∷ rows) h = absurd (omega arith)

-- the rows around the one at a place
pub rows_at : (rows : List ShareForm) (place : ℕ) (row : ShareForm) → place < length rows → row ≡ get_or rows place row
    → rows ≡ take place rows ++ row ∷ drop (place + 1) rows
rows_at rows place row within is =
    sym (take-append-drop place rows)
    ∙ ap (λ xs. take place rows ++ xs) (drop_more rows place row within)
    ∙ ap (λ r. take place rows ++ r ∷ drop (place + 1) rows) (sym is)

module _ (function : AggFn) (bags : Bags-of) (bag : List ℤ) (rows : List ShareForm) (place : ℕ) (key : Key) (row :
    ShareForm)
    (j : AreJoined function bags rows) (within : place < length rows) (is : row ≡ get_or rows place row)
    (same : shared_key row ≡ key) where
  around : AreJoined function bags (take place rows ++ row ∷ drop (place + 1) rows)
  around = subst (AreJoined function bags) (rows_at rows place row within is) j

  pub bag_at : length (bags key) < BAG_LIMIT → IsBag (bags key)
  bag_at few =
      subst (λ k. length (bags k) < BAG_LIMIT → IsBag (bags k)) same
      (row_bag function bags bag (take place rows) row row (drop (place + 1) rows) around) few

  pub cell_then : cell_shared row ≡ cell_of function (bags key)
  cell_then =
      row_cell function bags bag (take place rows) row row (drop (place + 1) rows) around
      ∙ ap (λ k. cell_of function (bags k)) same

-- the last row has the key
module _ (function : AggFn) (bags : Bags-of) (bag : List ℤ) (before : List ShareForm) (row : ShareForm) (key : Key)
    (j : AreJoined function bags (before ++ row ∷ [])) (same : shared_key row ≡ key) where
  pub last_bag : length (bags key) < BAG_LIMIT → IsBag (bags key)
  last_bag few =
      subst (λ k. length (bags k) < BAG_LIMIT → IsBag (bags k)) same
      (row_bag function bags bag before row row [] j) few

  pub last_cell : cell_shared row ≡ cell_of function (bags key)
  last_cell = row_cell function bags bag before row row [] j ∙ ap (λ k. cell_of function (bags k)) same

  pub merged_last : (new : ShareForm) → shared_key new ≡ shared_key row → cell_shared new ≡ cell_of function (bags key ++ bag)
      → IsBag bag
      → AreJoined function (joined_at key bag bags) (before ++ new ∷ [])
  merged_last new e cell own =
      subst (λ k. AreJoined function (joined_at k bag bags) (before ++ new ∷ [])) same
      (merged function bags bag before row new [] j e
      (cell ∙ ap (λ k. cell_of function (bags k ++ bag)) (sym same)) own)

pub pushed_at : (function : AggFn) (bags : Bags-of) (bag : List ℤ) (rows : List ShareForm) (key : Key) (new : ShareForm)
    → AreJoined function bags rows → NoneAfter key (keys_of rows)
    → ((d : ShareForm) → 0 < length rows → same_key (shared_key (get_or rows (length rows - 1) d)) key ≡ false)
    → shared_key new ≡ key → cell_shared new ≡ cell_of function bag → IsBag bag
    → AreJoined function (joined_at key bag bags) (rows ++ new ∷ [])
pushed_at function bags bag rows key new j none apart e cell own =
    let below = all_below_end rows key j.rising none apart in
    subst (λ k. AreJoined function (joined_at k bag bags) (rows ++ new ∷ [])) e
    (inserted function bags bag rows [] new
    (subst (AreJoined function bags) (sym (append-nil rows)) j)
    (subst (AllBelow (keys_of rows)) (sym e) below) tt cell own)

-- before all shares nothing is joined
pub none_joined : (function : AggFn) (bags : Bags-of) (rows : List ShareForm) → rows ≡ []
    → ((key : Key) → bags key ≡ [])
    → AreJoined function bags rows
none_joined function bags rows e none =
    let P : List ShareForm → Type 0 = λ xs. AreJoined function bags xs in
    subst P (sym e) (record {
      rising = tt;
      has = λ key. ((λ (k, lt, e). absurd (omega arith)), (λ some. absurd (some (none key))));
      cells = tt;
      words = λ key. subst (λ b. AllByRecursion (λ z. FitsSigned w64 z) b) (sym (none key)) tt;
    })

-- rows are joined from bags that are the same
pub joined_alike : (function : AggFn) (bags other : Bags-of) (rows : List ShareForm)
    → ((key : Key) → bags key ≡ other key) → AreJoined function bags rows → AreJoined function other rows
joined_alike function bags other rows h j =
    let same : bags ≡ other = (λ i key. h key i) in subst (λ b. AreJoined function b rows) same j
