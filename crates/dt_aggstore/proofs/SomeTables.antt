-- Pasts have a table.
use Rattle.std.proofs.Common.{◌≡◌, ◌⊎◌, ⊎_elim, inl, inr, Bool, cond, List, [], ◌∷◌, Ordering, Less, refl, sym, ap}
use Rattle.std.proofs.Common.{◌∙◌, subst, arith}
use Rattle.std.specs.Prelude.{map, filter, Contains}
use Rattle.std.specs.List.{AllByRecursion, AllZip, fold, flat_map}
use Rattle.std.specs.BTreeSet.{insert_key}
use Rattle.std.proofs.lemmas.List.Elements.{Contains-append_left, Contains-append_right, Contains-append_cases}
use Rattle.std.specs.Ordering.{ordering_reverse, match_ordering}
use Rattle.std.specs.declared.cmp.Ordering.TheVariants.{Equal, Greater}
use Rattle.dt_aggfn.specs.Answers.{answer_of_bag}
use Rattle.dt_aggstore.specs.Keys.{Entry, key_cmp, same_aggregation, IsBelow}
use Rattle.dt_aggstore.specs.History.{Past}
use Rattle.dt_aggstore.specs.Held.{entry_of, held_after}
use Rattle.dt_aggstore.specs.Choice.{IsChoice}
use Rattle.dt_aggstore.specs.Chosen.{choice_of}
use Rattle.dt_aggstore.specs.Table.{IsRising, HeldInSome, joined_bag, RowForm, IsTable}
use Rattle.dt_aggstore.specs.TableOf.{table_of}
use Rattle.dt_aggstore.specs.declared.key.Aggregation.{Aggregation}
use Rattle.dt_aggstore.proofs.Same.{aggregation_is, own_aggregation}
use Rattle.dt_aggstore.proofs.Filters.{yes_or_no}
use Rattle.dt_aggstore.proofs.Choices.{is_choice}
use Rattle.dt_aggstore.proofs.Rising.{Key, keys_total, key_exact, below_chain, all_weaker, contains_cases}
use Rattle.dt_aggstore.proofs.Rising.{contains_here, contains_later}
use Rattle.dt_aggstore.proofs.Tables.{one_table}

-- ---- a key is put among others in rising order

abbrev put_by : Ordering → Key → Key → List Key → List Key → List Key
put_by order key first later rest = match_ordering order (key ∷ (first ∷ later)) (first ∷ later) (first ∷ rest)

abbrev put : Key → List Key → List Key
put key keys = insert_key key_cmp keys key

-- what holds of the key and of all others holds of all after it was put
all_put_by : (P : Key → Type 0) (o : Ordering) (key first : Key) (later rest : List Key) → P key
    → AllByRecursion P (first ∷ later) → AllByRecursion P rest → AllByRecursion P (put_by o key first later rest)
all_put_by P Less key first later rest k all others = (k, all)
all_put_by P Equal key first later rest k all others = all
all_put_by P Greater key first later rest k all others = (all.0, others)

all_put : (P : Key → Type 0) (key : Key) (keys : List Key) → P key → AllByRecursion P keys
    → AllByRecursion P (put key keys)
all_put P key [] k all = (k, tt)
all_put P key (first ∷ later) k all =
    all_put_by P (key_cmp key first) key first later (put key later) k all (all_put P key later k all.1)

-- a key that isn't below the first is above it, or is it
first_below : (o : Ordering) (key first : Key) (later : List Key) → key_cmp key first ≡ o
    → AllByRecursion (IsBelow first) later
    → (o ≡ Greater → AllByRecursion (IsBelow first) (put key later))
first_below o key first later e all greater =
    all_put (IsBelow first) key later (keys_total.antisymm first key ∙ ap ordering_reverse (e ∙ greater)) all

rising_put_first : (o : Ordering) (key first : Key) (later : List Key) → key_cmp key first ≡ o
    → IsRising (first ∷ later) → IsRising (put key later) → IsRising (put_by o key first later (put key later))
rising_put_first Less key first later e rising up =
    ((e, all_weaker (IsBelow first) (IsBelow key) (λ k b. below_chain key first k e b) later rising.0), rising)
rising_put_first Equal key first later e rising up = rising
rising_put_first Greater key first later e rising up = (first_below Greater key first later e rising.0 refl, up)

rising_put : (key : Key) (keys : List Key) → IsRising keys → IsRising (put key keys)
rising_put key [] rising = (tt, tt)
rising_put key (first ∷ later) rising =
    rising_put_first (key_cmp key first) key first later refl rising (rising_put key later rising.1)

-- which keys there are then
put_has_by : (o : Ordering) (key first : Key) (later : List Key) (k : Key) → key_cmp key first ≡ o
    → ((key ≡ k) ⊎ Contains later k → Contains (put key later) k) → (key ≡ k) ⊎ Contains (first ∷ later) k
    → Contains (put_by o key first later (put key later)) k
put_has_by Less key first later k e rest h = ⊎_elim
    (λ is. subst (λ x. Contains (key ∷ (first ∷ later)) x) is (contains_here key (first ∷ later)))
    (λ old. contains_later key (first ∷ later) k old)
    h
put_has_by Equal key first later k e rest h = ⊎_elim
    (λ is. subst (λ x. Contains (first ∷ later) x) (sym (key_exact key first e) ∙ is) (contains_here first later))
    (λ old. old)
    h
put_has_by Greater key first later k e rest h = ⊎_elim
    (λ is. contains_later first (put key later) k (rest (inl is)))
    (λ old. ⊎_elim
    (λ is. subst (λ x. Contains (first ∷ put key later) x) is (contains_here first (put key later)))
    (λ more. contains_later first (put key later) k (rest (inr more)))
    (contains_cases first later k old))
    h

put_has : (key : Key) (keys : List Key) (k : Key) → (key ≡ k) ⊎ Contains keys k → Contains (put key keys) k
put_has key [] k h = ⊎_elim
    (λ is. subst (λ x. Contains (key ∷ []) x) is (contains_here key []))
    (λ old. contains_later key [] k old)
    h
put_has key (first ∷ later) k h =
    put_has_by (key_cmp key first) key first later k refl (put_has key later k) h

has_put_by : (o : Ordering) (key first : Key) (later : List Key) (k : Key)
    → (Contains (put key later) k → (key ≡ k) ⊎ Contains later k)
    → Contains (put_by o key first later (put key later)) k → (key ≡ k) ⊎ Contains (first ∷ later) k
has_put_by Less key first later k rest a = contains_cases key (first ∷ later) k a
has_put_by Equal key first later k rest a = inr a
has_put_by Greater key first later k rest a = ⊎_elim
    (λ is. inr (subst (λ x. Contains (first ∷ later) x) is (contains_here first later)))
    (λ more. ⊎_elim
    (λ is. inl is)
    (λ old. inr (contains_later first later k old))
    (rest more))
    (contains_cases first (put key later) k a)

has_put : (key : Key) (keys : List Key) (k : Key) → Contains (put key keys) k → (key ≡ k) ⊎ Contains keys k
has_put key [] k a = contains_cases key [] k a
has_put key (first ∷ later) k a = has_put_by (key_cmp key first) key first later k (has_put key later k) a

-- ---- all keys are put

abbrev put_all : List Key → List Key → List Key
put_all more keys = fold (insert_key key_cmp) keys more

rising_put_all : (more keys : List Key) → IsRising keys → IsRising (put_all more keys)
rising_put_all [] keys rising = rising
rising_put_all (key ∷ more) keys rising = rising_put_all more (put key keys) (rising_put key keys rising)

put_all_has : (more keys : List Key) (k : Key) → Contains keys k ⊎ Contains more k → Contains (put_all more keys) k
put_all_has [] keys k h = ⊎_elim (λ old. old) (λ (i, lt, e). absurd (omega arith)) h
put_all_has (key ∷ more) keys k h =
    put_all_has more (put key keys) k (⊎_elim
    (λ old. inl (put_has key keys k (inr old)))
    (λ new. ⊎_elim
    (λ is. inl (put_has key keys k (inl is)))
    (λ later. inr later)
    (contains_cases key more k new))
    h)

has_put_all : (more keys : List Key) (k : Key) → Contains (put_all more keys) k → Contains keys k ⊎ Contains more k
has_put_all [] keys k a = inl a
has_put_all (key ∷ more) keys k a = ⊎_elim
    (λ old. ⊎_elim
    (λ is. inr (subst (λ x. Contains (key ∷ more) x) is (contains_here key more)))
    (λ before. inl before)
    (has_put key keys k old))
    (λ later. inr (contains_later key more k later))
    (has_put_all more (put key keys) k a)

none : {X : Type 0} (x : X) → Contains [] x → ⊥
none x (i, lt, e) = omega arith

-- ---- the keys of an aggregation's entries

module _ (aggregation : Aggregation) where
  abbrev is_own : Entry → Bool
  is_own e = same_aggregation aggregation e.aggregation

  abbrev own_keys : List Entry → List Key
  own_keys entries = map (λ (e : Entry). e.key) (filter is_own entries)

  abbrev Has-key : Entry → List Entry → Key → Bool → Type 0
  Has-key e entries k b =
      Contains (map (λ (e : Entry). e.key) (cond b (e ∷ filter is_own entries) (filter is_own entries))) k

  entry_key : (entries : List Entry) (k : Key) → Contains entries (entry_of aggregation k)
      → Contains (own_keys entries) k
  entry_key [] k h = absurd (none (entry_of aggregation k) h)
  entry_key (e ∷ entries) k h =
      let P = Has-key e entries k in
      ⊎_elim
      (λ is. subst P
      (sym (ap (λ (x : Entry). same_aggregation aggregation x.aggregation) is ∙ own_aggregation aggregation))
      (subst (λ x. Contains (e.key ∷ own_keys entries) x) (ap (λ (x : Entry). x.key) is)
      (contains_here e.key (own_keys entries))))
      (λ later.
      let rest = entry_key entries k later in
      ⊎_elim
      (λ yes. subst P (sym yes) (contains_later e.key (own_keys entries) k rest))
      (λ no. subst P (sym no) rest)
      (yes_or_no (is_own e)))
      (contains_cases e entries (entry_of aggregation k) h)

  key_entry : (entries : List Entry) (k : Key) → Contains (own_keys entries) k
      → Contains entries (entry_of aggregation k)
  key_entry [] k a = absurd (none k a)
  key_entry (e ∷ entries) k a =
      let P = Has-key e entries k in
      let rest : Contains (own_keys entries) k → Contains (e ∷ entries) (entry_of aggregation k) =
      λ b. contains_later e entries (entry_of aggregation k) (key_entry entries k b) in
      ⊎_elim
      (λ yes. ⊎_elim
      (λ is.
      let own = aggregation_is aggregation e.aggregation yes in
      let entry : e ≡ entry_of aggregation k = (λ i. record { aggregation = sym own i; key = is i }) in
      subst (λ x. Contains (e ∷ entries) x) entry (contains_here e entries))
      rest
      (contains_cases e.key (own_keys entries) k (subst P yes a)))
      (λ no. rest (subst P no a))
      (yes_or_no (is_own e))

  -- the entries that are held at the ends of some pasts
  abbrev all_held : List Past → List Entry
  all_held pasts = flat_map (λ past. held_after past.events (choice_of past)) pasts

  held_all : (pasts : List Past) (k : Key) → Contains (all_held pasts) (entry_of aggregation k)
      → HeldInSome aggregation k pasts (map choice_of pasts)
  held_all [] k a = none (entry_of aggregation k) a
  held_all (past ∷ pasts) k a = ⊎_elim
      (λ here. inl here)
      (λ later. inr (held_all pasts k later))
      (Contains-append_cases (held_after past.events (choice_of past)) (all_held pasts) (entry_of aggregation k) a)

  all_held_has : (pasts : List Past) (k : Key) → HeldInSome aggregation k pasts (map choice_of pasts)
      → Contains (all_held pasts) (entry_of aggregation k)
  all_held_has [] k h = absurd h
  all_held_has (past ∷ pasts) k h = ⊎_elim
      (λ here. Contains-append_left (held_after past.events (choice_of past)) (all_held pasts) (entry_of aggregation k)
      here)
      (λ later. Contains-append_right (held_after past.events (choice_of past)) (all_held pasts) (entry_of aggregation k)
      (all_held_has pasts k later))
      h

-- ---- the table

are_choices : (pasts : List Past) → AllZip IsChoice pasts (map choice_of pasts)
are_choices [] = tt
are_choices (past ∷ pasts) = (is_choice past, are_choices pasts)

module _ (pasts : List Past) (aggregation : Aggregation) (choices : List (List Bool)) where
  abbrev row_of : Key → RowForm
  row_of key = record { key = key; value = answer_of_bag aggregation.function (joined_bag aggregation key pasts choices) }

  keys_are : (keys : List Key) → map (λ (row : RowForm). row.key) (map row_of keys) ≡ keys
  keys_are [] = refl
  keys_are (key ∷ keys) = ap (λ xs. key ∷ xs) (keys_are keys)

  answers_are : (keys : List Key) → AllByRecursion
      (λ row. row.value ≡ answer_of_bag aggregation.function (joined_bag aggregation row.key pasts choices))
      (map row_of keys)
  answers_are [] = tt
  answers_are (key ∷ keys) = (refl, answers_are keys)

pub is_table : (pasts : List Past) (aggregation : Aggregation) → IsTable pasts aggregation (table_of pasts aggregation)
unfolding table_of
is_table pasts aggregation =
    let choices = map choice_of pasts in
    let entries = all_held aggregation pasts in
    let keys = own_keys aggregation entries in
    let same = keys_are pasts aggregation choices (put_all keys []) in record {
      choices = choices;
      choice = are_choices pasts;
      rising = subst IsRising (sym same) (rising_put_all keys [] tt);
      held = λ key. (
        (λ a. held_all aggregation pasts key (key_entry aggregation entries key (⊎_elim
            (λ before. absurd (none key before))
            (λ put. put)
            (has_put_all keys [] key (subst (λ xs. Contains xs key) same a))))),
        (λ h. subst (λ xs. Contains xs key) (sym same)
            (put_all_has keys [] key (inr (entry_key aggregation entries key
            (all_held_has aggregation pasts key h))))),
      );
      answers = answers_are pasts aggregation choices (put_all keys []);
    }

pub some_table : (pasts : List Past) (aggregation : Aggregation)
    → (rows : List RowForm) × IsTable pasts aggregation rows
some_table pasts aggregation = (table_of pasts aggregation, is_table pasts aggregation)

-- a table of pasts is the one that the definition makes of them
pub table_value : (pasts : List Past) (aggregation : Aggregation) (rows : List RowForm) → IsTable pasts aggregation rows
    → rows ≡ table_of pasts aggregation
table_value pasts aggregation rows table =
    one_table pasts aggregation rows (table_of pasts aggregation) table (is_table pasts aggregation)
