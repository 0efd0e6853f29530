-- The table of the pasts of all stores.
use Rattle.std.proofs.Common.{◌≡◌, ◌≢◌, ℕ, zero, suc, ◌+◌, ◌*◌, ◌<◌, ◌≤◌, ◌⊎◌, ⊎_elim, inl, inr, ℤ, Bool, List, []}
use Rattle.std.proofs.Common.{◌∷◌, ◌++◌, length, get_or, take, refl, sym, ap, ◌∙◌, subst, arith}
use Rattle.std.specs.Prelude.{map, Contains}
use Rattle.std.specs.List.{AllByRecursion, AllZip}
use Rattle.std.proofs.lemmas.List.{append-nil, append_assoc, length-append, take_all}
use Rattle.dt_aggfn.specs.declared.function.AggFn.{AggFn}
use Rattle.dt_aggfn.specs.Answers.{AnswerForm, answer_of_bag}
use Rattle.dt_aggstore.specs.Keys.{IsBelow}
use Rattle.dt_aggstore.specs.History.{Past}
use Rattle.dt_aggstore.specs.Held.{entry_of, counted, held_after, bag}
use Rattle.dt_aggstore.specs.Choice.{IsChoice}
use Rattle.dt_aggstore.specs.Table.{IsRising, HeldInSome, joined_bag, RowForm, IsTable}
use Rattle.dt_aggstore.specs.IsAt.{IsAt}
use Rattle.dt_aggstore.specs.Joining.{keys_of, AreJoined, AreShares, MakesRows}
use Rattle.dt_aggstore.specs.declared.limits.TheConstants.{ADDED_LIMIT}
use Rattle.dt_aggstore.specs.declared.key.Aggregation.{Aggregation}
use Rattle.dt_aggstore.specs.Shares.{ShareForm}
use Rattle.dt_aggstore.specs.declared.store.AggStore.{AggStore}
use Rattle.dt_aggstore.proofs.Filters.{yes_or_no}
use Rattle.dt_aggstore.proofs.Distinct.{has, has-distinct, has_from_contains, contains_from_has}
use Rattle.dt_aggstore.proofs.Counting.{names, values_none, values_some}
use Rattle.dt_aggstore.proofs.Choices.{one_choice}
use Rattle.dt_aggstore.proofs.Standing.{few_values}
use Rattle.dt_aggstore.proofs.Sharing.{shared_alike}
use Rattle.dt_aggstore.proofs.Rising.{Key, below_chain, below_apart, all_contains, contains_here, contains_later}
use Rattle.dt_aggstore.proofs.Rising.{contains_cases}

-- ---- choices

pub choices_of : (pasts : List Past) (stores : List AggStore) → AllZip IsAt pasts stores → List (List Bool)
choices_of [] [] at = []
choices_of [] (s ∷ stores) at = absurd at
choices_of (p ∷ pasts) [] at = absurd at
choices_of (p ∷ pasts) (s ∷ stores) at = at.0.chosen ∷ choices_of pasts stores at.1

pub choices_are : (pasts : List Past) (stores : List AggStore) (at : AllZip IsAt pasts stores)
    → AllZip IsChoice pasts (choices_of pasts stores at)
unfolding choices_of
choices_are [] [] at = tt
choices_are [] (s ∷ stores) at = absurd at
choices_are (p ∷ pasts) [] at = absurd at
choices_are (p ∷ pasts) (s ∷ stores) at = (at.0.choice, choices_are pasts stores at.1)

one_list : (pasts : List Past) (a b : List (List Bool)) → AllZip IsChoice pasts a → AllZip IsChoice pasts b → a ≡ b
one_list [] [] [] f g = refl
one_list [] [] (y ∷ b) f g = absurd g
one_list [] (x ∷ a) b f g = absurd f
one_list (p ∷ pasts) [] b f g = absurd f
one_list (p ∷ pasts) (x ∷ a) [] f g = absurd g
one_list (p ∷ pasts) (x ∷ a) (y ∷ b) f g =
    let head = one_choice p x y f.0 g.0 in
    let rest = one_list pasts a b f.1 g.1 in
    λ i. head i ∷ rest i

pub as_many : (pasts : List Past) (stores : List AggStore) → AllZip IsAt pasts stores → length pasts ≡ length stores
as_many [] [] at = refl
as_many [] (s ∷ stores) at = absurd at
as_many (p ∷ pasts) [] at = absurd at
as_many (p ∷ pasts) (s ∷ stores) at = ap suc (as_many pasts stores at.1)

pub many_choices : (pasts : List Past) (stores : List AggStore) (at : AllZip IsAt pasts stores)
    → length (choices_of pasts stores at) ≡ length stores
unfolding choices_of
many_choices [] [] at = refl
many_choices [] (s ∷ stores) at = absurd at
many_choices (p ∷ pasts) [] at = absurd at
many_choices (p ∷ pasts) (s ∷ stores) at = ap suc (many_choices pasts stores at.1)

-- ---- one store more

module _ (aggregation : Aggregation) where
  -- the bags of the first stores
  abbrev pub Bags-to : (pasts : List Past) (stores : List AggStore) → AllZip IsAt pasts stores → ℕ → Key → List ℤ
  Bags-to pasts stores at n key = joined_bag aggregation key (take n pasts) (take n (choices_of pasts stores at))

  abbrev Next : (pasts : List Past) (stores : List AggStore) → AllZip IsAt pasts stores → ℕ → AggStore → Type 0
  Next pasts stores at i store =
      (past : Past) × (a : IsAt past store) × ((key : Key) → Bags-to pasts stores at (i + 1) key
      ≡ Bags-to pasts stores at i key ++ bag past.events a.chosen aggregation key)

  pub bags_next : (pasts : List Past) (stores : List AggStore) (at : AllZip IsAt pasts stores) (i : ℕ) (d : AggStore)
      → i < length stores → Next pasts stores at i (get_or stores i d)
  unfolding choices_of
  bags_next [] [] at i d h = absurd (omega arith)
  bags_next [] (s ∷ stores) at i d h = absurd at
  bags_next (p ∷ pasts) [] at i d h = absurd at
  bags_next (p ∷ pasts) (s ∷ stores) at zero d h =
      (p, at.0, λ key. append-nil (bag p.events at.0.chosen aggregation key))
  bags_next (p ∷ pasts) (s ∷ stores) at (suc i) d h =
      let rest = bags_next pasts stores at.1 i d (omega arith) in
      let one : suc i + 1 ≡ suc (i + 1) = omega arith in (
        rest.0,
        rest.1,
        λ key. ap (λ n. joined_bag aggregation key (take n (p ∷ pasts))
            (take n (at.0.chosen ∷ choices_of pasts stores at.1))) one
            ∙ ap (λ b. bag p.events at.0.chosen aggregation key ++ b) (rest.2 key)
            ∙ sym (append_assoc (bag p.events at.0.chosen aggregation key) (Bags-to pasts stores at.1 i key)
            (bag rest.0.events rest.1.chosen aggregation key)),
      )

  pub bags_short : (pasts : List Past) (stores : List AggStore) (at : AllZip IsAt pasts stores) (n : ℕ) (key : Key)
      → length (Bags-to pasts stores at n key) ≤ n * ADDED_LIMIT
  unfolding choices_of
  bags_short [] [] at zero key = omega arith
  bags_short [] [] at (suc n) key = omega arith
  bags_short [] (s ∷ stores) at n key = absurd at
  bags_short (p ∷ pasts) [] at n key = absurd at
  bags_short (p ∷ pasts) (s ∷ stores) at zero key = omega arith
  bags_short (p ∷ pasts) (s ∷ stores) at (suc n) key =
      omega (
        arith,
        length-append (bag p.events at.0.chosen aggregation key) (Bags-to pasts stores at.1 n key),
        few_values (entry_of aggregation key) p.events at.0.chosen,
        at.0.added,
        s.few,
        bags_short pasts stores at.1 n key,
      )

  -- ---- a key has values exactly where it is held in some past

  append_cases : (a b : List ℤ) → a ++ b ≢ [] → (a ≢ []) ⊎ (b ≢ [])
  append_cases [] b h = inr h
  append_cases (x ∷ a) b h = inl (λ e. cc)

  append_left : (a b : List ℤ) → a ≢ [] → a ++ b ≢ []
  append_left [] b h = absurd (h refl)
  append_left (x ∷ a) b h = λ e. cc

  append_right : (a b : List ℤ) → b ≢ [] → a ++ b ≢ []
  append_right [] b h = h
  append_right (x ∷ a) b h = λ e. cc

  pub values_held : (key : Key) (pasts : List Past) (choices : List (List Bool))
      → HeldInSome aggregation key pasts choices
      → joined_bag aggregation key pasts choices ≢ []
  values_held key [] choices h = absurd h
  values_held key (p ∷ pasts) [] h = absurd h
  values_held key (p ∷ pasts) (c ∷ choices) h = ⊎_elim
      (λ here. append_left (bag p.events c aggregation key) (joined_bag aggregation key pasts choices)
      (values_some (counted p.events c) (entry_of aggregation key)
      (sym (has-distinct (names (counted p.events c)) (entry_of aggregation key))
      ∙ has_from_contains (held_after p.events c) (entry_of aggregation key) here)))
      (λ later. append_right (bag p.events c aggregation key) (joined_bag aggregation key pasts choices)
      (values_held key pasts choices later))
      h

  pub held_values : (key : Key) (pasts : List Past) (choices : List (List Bool))
      → joined_bag aggregation key pasts choices ≢ [] → HeldInSome aggregation key pasts choices
  held_values key [] choices h = h refl
  held_values key (p ∷ pasts) [] h = h refl
  held_values key (p ∷ pasts) (c ∷ choices) h = ⊎_elim
      (λ here. ⊎_elim
      (λ yes. inl (contains_from_has (held_after p.events c) (entry_of aggregation key) yes))
      (λ no. absurd (here (values_none (counted p.events c) (entry_of aggregation key)
      (sym (has-distinct (names (counted p.events c)) (entry_of aggregation key)) ∙ no))))
      (yes_or_no (has (entry_of aggregation key) (held_after p.events c))))
      (λ later. inr (held_values key pasts choices later))
      (append_cases (bag p.events c aggregation key) (joined_bag aggregation key pasts choices) h)

-- ---- the table

made_keys : (function : AggFn) (bags : Key → List ℤ) (rows : List ShareForm) (forms : List RowForm)
    → MakesRows function bags rows forms → map (λ (row : RowForm). row.key) forms ≡ keys_of rows
made_keys function bags [] [] m = refl
made_keys function bags [] (f ∷ forms) m = absurd m
made_keys function bags (r ∷ rows) [] m = absurd m
made_keys function bags (r ∷ rows) (f ∷ forms) m =
    let rest = made_keys function bags rows forms m.1 in λ i. m.0.0 i ∷ rest i

made_answers : (function : AggFn) (bags : Key → List ℤ) (rows : List ShareForm) (forms : List RowForm)
    → MakesRows function bags rows forms
    → AllByRecursion (λ row. row.value ≡ answer_of_bag function (bags row.key)) forms
made_answers function bags [] [] m = tt
made_answers function bags [] (f ∷ forms) m = absurd m
made_answers function bags (r ∷ rows) [] m = absurd m
made_answers function bags (r ∷ rows) (f ∷ forms) m =
    (m.0.1 ∙ ap (λ k. answer_of_bag function (bags k)) (sym m.0.0), made_answers function bags rows forms m.1)

pub table_is : (aggregation : Aggregation) (pasts : List Past) (choices : List (List Bool)) (rows : List ShareForm)
    (forms : List RowForm) → AllZip IsChoice pasts choices
    → AreJoined aggregation.function (λ key. joined_bag aggregation key pasts choices) rows
    → MakesRows aggregation.function (λ key. joined_bag aggregation key pasts choices) rows forms
    → IsTable pasts aggregation forms
table_is aggregation pasts choices rows forms are j m =
    let keys = made_keys aggregation.function (λ key. joined_bag aggregation key pasts choices) rows forms m in
    record {
      choices = choices;
      choice = are;
      rising = subst IsRising (sym keys) j.rising;
      held = λ key. (
        (λ a. held_values aggregation key pasts choices ((j.has key).0 (subst (λ xs. Contains xs key) keys a))),
        (λ h. subst (λ xs. Contains xs key) (sym keys)
            ((j.has key).1 (values_held aggregation key pasts choices h))),
      );
      answers = made_answers aggregation.function (λ key. joined_bag aggregation key pasts choices) rows forms m;
    }

-- ---- one table

-- a key that comes before all others isn't among them
not_later : (x : Key) (xs : List Key) → AllByRecursion (IsBelow x) xs → Contains xs x → ⊥
not_later x xs below among = below_apart x x (all_contains (IsBelow x) xs x below among) refl

same_first : (x y : Key) (xs ys : List Key) → AllByRecursion (IsBelow x) xs → AllByRecursion (IsBelow y) ys
    → Contains (y ∷ ys) x → Contains (x ∷ xs) y → x ≡ y
same_first x y xs ys a b f g = ⊎_elim
    (λ e. sym e)
    (λ later. ⊎_elim
    (λ e. e)
    (λ other. absurd (below_apart x x
    (below_chain x y x (all_contains (IsBelow x) xs y a other) (all_contains (IsBelow y) ys x b later)) refl))
    (contains_cases x xs y g))
    (contains_cases y ys x f)

same_keys : (xs ys : List Key) → IsRising xs → IsRising ys → ((k : Key) → Contains xs k → Contains ys k)
    → ((k : Key) → Contains ys k → Contains xs k) → xs ≡ ys
same_keys [] [] r s f g = refl
same_keys [] (y ∷ ys) r s f g = absurd (none (g y (contains_here y ys)))
  where
    none : Contains [] y → ⊥
    none (k, lt, e) = omega arith
same_keys (x ∷ xs) [] r s f g = absurd (none (f x (contains_here x xs)))
  where
    none : Contains [] x → ⊥
    none (k, lt, e) = omega arith
same_keys (x ∷ xs) (y ∷ ys) r s f g =
    let head = same_first x y xs ys r.0 s.0 (f x (contains_here x xs)) (g y (contains_here y ys)) in
    let rest = same_keys xs ys r.1 s.1
    (λ k a. ⊎_elim
    (λ e. absurd (not_later x xs r.0 (subst (Contains xs) (sym e ∙ sym head) a)))
    (λ b. b)
    (contains_cases y ys k (f k (contains_later x xs k a))))
    (λ k a. ⊎_elim
    (λ e. absurd (not_later y ys s.0 (subst (Contains ys) (sym e ∙ head) a)))
    (λ b. b)
    (contains_cases x xs k (g k (contains_later y ys k a)))) in
    λ i. head i ∷ rest i

same_rows : (answer : Key → AnswerForm) (xs ys : List RowForm)
    → map (λ (row : RowForm). row.key) xs ≡ map (λ (row : RowForm). row.key) ys
    → AllByRecursion (λ row. row.value ≡ answer row.key) xs → AllByRecursion (λ row. row.value ≡ answer row.key) ys
    → xs ≡ ys
same_rows answer [] [] e a b = refl
same_rows answer [] (y ∷ ys) e a b = cc
same_rows answer (x ∷ xs) [] e a b = cc
same_rows answer (x ∷ xs) (y ∷ ys) e a b =
    let key : x.key ≡ y.key = cc in
    let keys : map (λ (row : RowForm). row.key) xs ≡ map (λ (row : RowForm). row.key) ys = cc in
    let rest = same_rows answer xs ys keys a.1 b.1 in
    let value : x.value ≡ y.value = a.0 ∙ ap answer key ∙ sym b.0 in
    λ i. (record { key = key i; value = value i }) ∷ rest i

pub one_table : (pasts : List Past) (aggregation : Aggregation) (rows other : List RowForm)
    → IsTable pasts aggregation rows → IsTable pasts aggregation other → rows ≡ other
one_table pasts aggregation rows other t u =
    let same = one_list pasts u.choices t.choices u.choice t.choice in
    let answer = λ (key : Key). answer_of_bag aggregation.function (joined_bag aggregation key pasts t.choices) in
    let answers = subst (λ c. AllByRecursion (λ row. row.value
    ≡ answer_of_bag aggregation.function (joined_bag aggregation row.key pasts c)) other) same u.answers in
    let keys = same_keys (map (λ row. row.key) rows) (map (λ row. row.key) other) t.rising u.rising
    (λ k a. (u.held k).1 (subst (HeldInSome aggregation k pasts) (sym same) ((t.held k).0 a)))
    (λ k a. (t.held k).1 (subst (HeldInSome aggregation k pasts) same ((u.held k).0 a))) in
    same_rows answer rows other keys t.answers answers

-- ---- a store is shared

-- what a store's shares do to shares
abbrev pub SharesStore : Aggregation → List ShareForm → List ShareForm → AggStore → Type 0
SharesStore aggregation shares shares' store =
    (past : Past) (at : IsAt past store) (bags : Key → List ℤ) → AreShares aggregation.function bags shares
    → AreShares aggregation.function (λ key. bags key ++ bag past.events at.chosen aggregation key) shares'

pub store_shared : (aggregation : Aggregation) (pasts : List Past) (stores : List AggStore) (at :
    AllZip IsAt pasts stores)
    (i : ℕ) (store : AggStore) (shares shares' : List ShareForm) → i < length stores → store ≡ get_or stores i store
    → SharesStore aggregation shares shares' store
    → AreShares aggregation.function (Bags-to aggregation pasts stores at i) shares
    → AreShares aggregation.function (Bags-to aggregation pasts stores at (i + 1)) shares'
store_shared aggregation pasts stores at i store shares shares' here is joins so_far =
    let next = bags_next aggregation pasts stores at i store here in
    shared_alike aggregation.function _ (Bags-to aggregation pasts stores at (i + 1)) shares'
    (λ key. sym (next.2 key))
    (subst (SharesStore aggregation shares shares') is joins next.0 next.1 (Bags-to aggregation pasts stores at i)
    so_far)

-- all stores were shared
pub all_shared : (aggregation : Aggregation) (pasts : List Past) (stores : List AggStore) (at :
    AllZip IsAt pasts stores) (n : ℕ)
    (shares : List ShareForm) → length stores ≤ n
    → AreShares aggregation.function (Bags-to aggregation pasts stores at n) shares
    → AreShares aggregation.function (λ key. joined_bag aggregation key pasts (choices_of pasts stores at)) shares
all_shared aggregation pasts stores at n shares all j =
    shared_alike aggregation.function (Bags-to aggregation pasts stores at n) _ shares
    (λ key. ap (λ ps. joined_bag aggregation key ps (take n (choices_of pasts stores at)))
    (take_all n pasts (omega (arith, as_many pasts stores at)))
    ∙ ap (joined_bag aggregation key pasts)
    (take_all n (choices_of pasts stores at) (omega (arith, many_choices pasts stores at))))
    j

-- all bags together are short
pub all_short : (aggregation : Aggregation) (pasts : List Past) (stores : List AggStore) (at :
    AllZip IsAt pasts stores)
    (key : Key) → length (joined_bag aggregation key pasts (choices_of pasts stores at)) ≤ length stores * ADDED_LIMIT
all_short aggregation pasts stores at key =
    let n = length stores in
    let whole : Bags-to aggregation pasts stores at n key
    ≡ joined_bag aggregation key pasts (choices_of pasts stores at) =
    ap (λ ps. joined_bag aggregation key ps (take n (choices_of pasts stores at)))
    (take_all n pasts (omega (arith, as_many pasts stores at)))
    ∙ ap (joined_bag aggregation key pasts)
    (take_all n (choices_of pasts stores at) (omega (arith, many_choices pasts stores at))) in
    omega (arith, bags_short aggregation pasts stores at n key, ap length whole)
