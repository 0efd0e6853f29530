-- The bags of a store's entries, gathered one after another.
use Rattle.std.proofs.Common.{◌≡◌, ℕ, ◌+◌, ◌<◌, ⊎_elim, ℤ, Bool, true, false, cond, ◌||◌, ◌&&◌, List, [], ◌∷◌, ◌++◌}
use Rattle.std.proofs.Math.Bool.{or-true}
use Rattle.std.proofs.Common.{length, get_or, take, drop, refl, sym, ap, ◌∙◌, subst, arith}
use Rattle.std.specs.Prelude.{slice_range}
use Rattle.std.proofs.lemmas.Bool.{false≢true}
use Rattle.std.proofs.lemmas.List.{append-nil, take_more, drop_more, map-append}
use Rattle.std.proofs.lemmas.List.Folds.{list_any-append}
use Rattle.dt_aggfn.specs.Cells.{cell_words, cell_of, IsBag}
use Rattle.dt_aggstore.specs.Keys.{Entry, same_entry, same_aggregation, same_key}
use Rattle.dt_aggstore.specs.History.{Past}
use Rattle.dt_aggstore.specs.Held.{entry_of, counted, held_after, bag}
use Rattle.dt_aggstore.specs.EntryNames.{entry_named, entries_named, words_of}
use Rattle.dt_aggstore.specs.IsAt.{IsAt}
use Rattle.dt_aggstore.specs.Shares.{ShareForm}
use Rattle.dt_aggstore.specs.Joining.{cell_shared, AreShares, joined_at, shared_key}
use Rattle.dt_aggstore.specs.declared.key.Aggregation.{Aggregation}
use Rattle.dt_aggstore.specs.declared.entry_name.EntryName.{EntryName}
use Rattle.dt_aggstore.specs.declared.store.AggStore.{AggStore}
use Rattle.dt_aggstore.proofs.Same.{aggregation_is, own_aggregation, key_decides, own_entry}
use Rattle.dt_aggstore.proofs.Filters.{yes_or_no}
use Rattle.dt_aggstore.proofs.Distinct.{has, has-distinct, AreApart, distinct_apart}
use Rattle.dt_aggstore.proofs.Counting.{names, values_none}
use Rattle.dt_aggstore.proofs.Words.{names-take}
use Rattle.dt_aggstore.proofs.Standing.{held_bag, Lengths, apart_before, cell_at, cells_from}
use Rattle.dt_aggstore.proofs.Rising.{Key}
use Rattle.dt_aggstore.proofs.Sharing.{shared_alike, shared_more}

aggregation_back : (a b : Aggregation) → same_aggregation a b ≡ false → same_aggregation b a ≡ false
aggregation_back a b e = ⊎_elim
    (λ yes. absurd (false≢true (sym e
    ∙ subst (λ x. same_aggregation x b ≡ true) (aggregation_is b a yes) (own_aggregation b))))
    (λ no. no)
    (yes_or_no (same_aggregation b a))

has-push : (entry : Entry) (before : List Entry) (e : Entry)
    → has entry (before ++ e ∷ []) ≡ (has entry before || (same_entry e entry || false))
has-push entry before e = list_any-append (λ o. same_entry o entry) before (e ∷ [])

or_false : (b : Bool) → (b || (false || false)) ≡ b
or_false true = refl
or_false false = refl

module _ (past : Past) (store : AggStore) (at : IsAt past store) (aggregation : Aggregation) (bags : Key
    → List ℤ) where
  abbrev Own : Key → List ℤ
  Own key = bag past.events at.chosen aggregation key

  -- what is gathered after some entries
  abbrev pub Gathered : List Entry → Key → List ℤ
  Gathered entries key = cond (has (entry_of aggregation key) entries) (bags key ++ Own key) (bags key)

  -- an entry of another aggregation adds nothing
  pub gathered_other : (before : List Entry) (e : Entry) → same_aggregation aggregation e.aggregation ≡ false
      → (key : Key) → Gathered before key ≡ Gathered (before ++ e ∷ []) key
  gathered_other before e other key =
      ap (λ b. cond b (bags key ++ Own key) (bags key)) (sym (
      has-push (entry_of aggregation key) before e
      ∙ ap (λ b. has (entry_of aggregation key) before || ((b && same_key e.key key) || false))
      (aggregation_back aggregation e.aggregation other)
      ∙ or_false (has (entry_of aggregation key) before)))

  -- one of this aggregation adds its bag to that of its key
  pub gathered_more : (before : List Entry) (e : Entry) → has e before ≡ false
      → same_aggregation aggregation e.aggregation ≡ true
      → (key : Key) → joined_at e.key (Own e.key) (Gathered before) key ≡ Gathered (before ++ e ∷ []) key
  gathered_more before e none same key =
      let own = aggregation_is aggregation e.aggregation same in
      let back : same_aggregation e.aggregation aggregation ≡ true =
      subst (λ a. same_aggregation a aggregation ≡ true) own (own_aggregation aggregation) in
      ⊎_elim
      (λ yes.
      let is = (key_decides e.key key).0 yes in
      let entry : e ≡ entry_of aggregation key = (λ i. record { aggregation = sym own i; key = is i }) in
      let never : has (entry_of aggregation key) before ≡ false = subst (λ x. has x before ≡ false) entry none in
      ap (λ b. cond b (Gathered before key ++ Own e.key) (Gathered before key)) yes
      ∙ ap (λ b. cond b (bags key ++ Own key) (bags key) ++ Own e.key) never
      ∙ ap (λ k. bags key ++ Own k) is
      ∙ sym (ap (λ b. cond b (bags key ++ Own key) (bags key))
      (has-push (entry_of aggregation key) before e
      ∙ ap (λ x. has (entry_of aggregation key) before || (same_entry x (entry_of aggregation key) || false)) entry
      ∙ ap (λ b. has (entry_of aggregation key) before || (b || false)) (own_entry (entry_of aggregation key))
      ∙ or-true (has (entry_of aggregation key) before))))
      (λ no.
      ap (λ b. cond b (Gathered before key ++ Own e.key) (Gathered before key)) no
      ∙ sym (ap (λ b. cond b (bags key ++ Own key) (bags key))
      (has-push (entry_of aggregation key) before e
      ∙ ap (λ b. has (entry_of aggregation key) before || ((b && same_key e.key key) || false)) back
      ∙ ap (λ b. has (entry_of aggregation key) before || (b || false)) no
      ∙ or_false (has (entry_of aggregation key) before))))
      (yes_or_no (same_key e.key key))

  -- all entries add all bags
  pub gathered_all : (key : Key) → Gathered (held_after past.events at.chosen) key ≡ bags key ++ Own key
  gathered_all key = ⊎_elim
      (λ yes. ap (λ b. cond b (bags key ++ Own key) (bags key)) yes)
      (λ no. ap (λ b. cond b (bags key ++ Own key) (bags key)) no ∙ sym (append-nil (bags key))
      ∙ ap (λ b. bags key ++ b) (sym (values_none (counted past.events at.chosen) (entry_of aggregation key)
      (sym (has-distinct (names (counted past.events at.chosen)) (entry_of aggregation key)) ∙ no))))
      (yes_or_no (has (entry_of aggregation key) (held_after past.events at.chosen)))

-- ---- the entry that a loop reads

pub names_more : (entries : List EntryName) (i : ℕ) (x : EntryName) → i < length entries → x ≡ get_or entries i x
    → entries_named (take (i + 1) entries) ≡ entries_named (take i entries) ++ entry_named x ∷ []
names_more entries i x h is =
    ap entries_named (take_more entries i x h) ∙ map-append entry_named (take i entries) (get_or entries i x ∷ [])
    ∙ ap (λ y. entries_named (take i entries) ++ entry_named y ∷ []) (sym is)

names_around : (entries : List EntryName) (i : ℕ) (x : EntryName) → i < length entries → x ≡ get_or entries i x
    → entries_named entries ≡ entries_named (take i entries) ++ entry_named x ∷ entries_named (drop (i + 1) entries)
names_around entries i x h is =
    names-take entries i ∙ ap (λ xs. entries_named (take i entries) ++ entries_named xs) (drop_more entries i x h)
    ∙ ap (λ y. entries_named (take i entries) ++ entry_named y ∷ entries_named (drop (i + 1) entries)) (sym is)

module _ (past : Past) (store : AggStore) (at : IsAt past store) (i : ℕ) (x : EntryName) (here :
    i < length store.entries.items)
    (is : x ≡ get_or store.entries.items i x) where
  abbrev Before : List Entry
  Before = entries_named (take i store.entries.items)

  abbrev Later : List Entry
  Later = entries_named (drop (i + 1) store.entries.items)

  split : held_after past.events at.chosen ≡ Before ++ entry_named x ∷ Later
  split = sym at.names ∙ names_around store.entries.items i x here is

  pub not_before : has (entry_named x) Before ≡ false
  not_before =
      apart_before (entry_named x) Before Later
      (subst AreApart split (distinct_apart (names (counted past.events at.chosen))))

  abbrev Bag : List ℤ
  Bag = bag past.events at.chosen x.aggregation x.key.parts.items

  pub bag_here : IsBag Bag
  bag_here =
      held_bag past.events at.chosen x.aggregation x.key.parts.items at.numbers (omega (arith, at.added, store.few))
      (ap (has (entry_named x)) split ∙ list_any-append (λ o. same_entry o (entry_named x)) Before (entry_named x ∷ Later)
      ∙ ap (λ b. has (entry_named x) Before || (b || has (entry_named x) Later)) (own_entry (entry_named x))
      ∙ by (has (entry_named x) Before))
    where
      by : (b : Bool) → (b || true) ≡ true
      by true = refl
      by false = refl

  pub cell_here : Lengths → (place words : ℕ) → place ≡ words_of Before → words ≡ cell_words x.aggregation.function
      → slice_range store.cells.items place (place + words) ≡ cell_of x.aggregation.function Bag
  cell_here lengths place words p w =
      let bags = λ (e : Entry). bag past.events at.chosen e.aggregation e.key in
      ap (λ n. slice_range store.cells.items n (n + words)) p
      ∙ ap (λ n. slice_range store.cells.items (words_of Before) (words_of Before + n)) w
      ∙ ap (λ xs. slice_range xs (words_of Before) (words_of Before + cell_words x.aggregation.function))
      (at.cells ∙ ap (cells_from bags) split)
      ∙ cell_at lengths bags (entry_named x) Before Later

module _ (past : Past) (store : AggStore) (at : IsAt past store) (aggregation : Aggregation) (bags : Key → List ℤ)
    (i : ℕ)
    (x : EntryName) (here : i < length store.entries.items) (is : x ≡ get_or store.entries.items i x)
    (shares : List ShareForm)
    (so_far : AreShares aggregation.function
    (Gathered past store at aggregation bags (entries_named (take i store.entries.items)))
    shares) where
  abbrev So-far : List Entry
  So-far = entries_named (take i store.entries.items)

  abbrev Next : List Entry
  Next = entries_named (take (i + 1) store.entries.items)

  more : (key : Key) → Gathered past store at aggregation bags (So-far ++ entry_named x ∷ []) key
      ≡ Gathered past store at aggregation bags Next key
  more key =
      ap (λ xs. Gathered past store at aggregation bags xs key) (sym (names_more store.entries.items i x here is))

  pub entry_passed : same_aggregation aggregation x.aggregation ≡ false
      → AreShares aggregation.function (Gathered past store at aggregation bags Next) shares
  entry_passed other =
      shared_alike aggregation.function (Gathered past store at aggregation bags So-far)
      (Gathered past store at aggregation bags Next) shares
      (λ key. gathered_other past store at aggregation bags So-far (entry_named x) other key ∙ more key) so_far

  pub entry_shared : Lengths → same_aggregation aggregation x.aggregation ≡ true
      → (place words : ℕ) → place ≡ words_of So-far → words ≡ cell_words x.aggregation.function
      → (share : ShareForm) → shared_key share ≡ x.key.parts.items
      → cell_shared share ≡ slice_range store.cells.items place (place + words)
      → AreShares aggregation.function (Gathered past store at aggregation bags Next) (shares ++ share ∷ [])
  entry_shared lengths same place words p w share k c =
      let key = x.key.parts.items in
      let own = aggregation_is aggregation x.aggregation same in
      let gathered = Gathered past store at aggregation bags So-far in
      let bag-of = bag past.events at.chosen aggregation key in
      let is_bag : IsBag bag-of =
      subst (λ a. IsBag (bag past.events at.chosen a key)) (sym own) (bag_here past store at i x here is) in
      let has_cell : cell_shared share ≡ cell_of aggregation.function bag-of =
      c ∙ cell_here past store at i x here is lengths place words p w
      ∙ ap (λ (a : Aggregation). cell_of a.function (bag past.events at.chosen a key)) (sym own) in
      shared_alike aggregation.function (joined_at key bag-of gathered)
      (Gathered past store at aggregation bags Next) (shares ++ share ∷ [])
      (λ k. gathered_more past store at aggregation bags So-far (entry_named x)
      (not_before past store at i x here is) same k
      ∙ more k)
      (subst (λ k. AreShares aggregation.function (joined_at k bag-of gathered) (shares ++ share ∷ [])) k
      (shared_more aggregation.function gathered bag-of shares share so_far is_bag has_cell))
