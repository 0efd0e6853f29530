-- Words of cells, one after another.
use Rattle.std.proofs.Common.{◌≡◌, ℕ, ◌+◌, ◌-◌, ◌<◌, ◌≤◌, true, false, cond, ◌||◌, List, [], ◌∷◌, ◌++◌, length, get_or}
use Rattle.std.proofs.Common.{set, take, drop, refl, sym, ap, ◌∙◌, subst, zero-add, arith}
use Rattle.std.specs.Prelude.{Contains}
use Rattle.std.proofs.lemmas.Bool.{false≢true}
use Rattle.std.proofs.lemmas.List.{append-nil, append_assoc, take-append-drop, take_more, drop_more, drop-drop}
use Rattle.std.proofs.lemmas.List.{drop_all, get_or-append_right, get_or-drop, set_at, length-append, length-take-le}
use Rattle.std.proofs.lemmas.List.{length-drop, map-append, take_at, drop_at}
use Rattle.std.proofs.lemmas.List.Sums.{sum_by-append}
use Rattle.std.proofs.lemmas.List.Folds.{list_any-append}
use Rattle.dt_aggfn.specs.Cells.{cell_words}
use Rattle.dt_aggstore.specs.Keys.{Entry, same_entry, same_aggregation}
use Rattle.dt_aggstore.specs.EntryNames.{entry_named, entries_named, words_of, LiesAt, cells_without}
use Rattle.dt_aggstore.specs.declared.entry_name.EntryName.{EntryName}
use Rattle.dt_aggstore.specs.declared.key.Aggregation.{Aggregation}
use Rattle.dt_aggstore.proofs.Same.{entry_is, entry_back}
use Rattle.dt_aggstore.proofs.Distinct.{has, has_from_contains}

-- ---- words that are moved down

module _ (xs ys : List ℕ) (from to k : ℕ) (down : to ≤ from) (within : from + k < length xs)
    (so_far : ys ≡ take to xs ++ take k (drop from xs) ++ drop (to + k) xs) where
  abbrev Front : List ℕ
  Front = take to xs ++ take k (drop from xs)

  front_long : length Front ≡ to + k
  front_long =
      length-append (take to xs) (take k (drop from xs))
      ∙ ap (λ n. n + length (take k (drop from xs))) (length-take-le to xs (omega arith))
      ∙ ap (λ n. to + n) (length-take-le k (drop from xs) (omega (arith, length-drop from xs)))

  read : get_or ys (from + k) 0 ≡ get_or xs (from + k) 0
  read =
      ap (λ zs. get_or zs (from + k) 0) so_far
      ∙ get_or-append_right Front (drop (to + k) xs) (to + k) (from + k) 0 front_long (omega arith)
      ∙ get_or-drop (to + k) xs (from + k - (to + k)) 0
      ∙ ap (λ n. get_or xs n 0) (omega arith)

  pub copied_more : set ys (to + k) (get_or ys (from + k) 0)
      ≡ take to xs ++ take (k + 1) (drop from xs) ++ drop (to + (k + 1)) xs
  copied_more =
      let x = get_or xs (from + k) 0 in
      ap (λ y. set ys (to + k) y) read
      ∙ ap (λ zs. set zs (to + k) x) (so_far ∙ ap (λ zs. Front ++ zs) (drop_more xs (to + k) 0 (omega arith)))
      ∙ set_at Front (get_or xs (to + k) 0) (drop (to + k + 1) xs) x (to + k) front_long
      ∙ sym (append_assoc Front (x ∷ []) (drop (to + k + 1) xs))
      ∙ ap (λ zs. zs ++ drop (to + k + 1) xs) (append_assoc (take to xs) (take k (drop from xs)) (x ∷ []))
      ∙ ap (λ zs. take to xs ++ (take k (drop from xs) ++ zs ∷ []) ++ drop (to + k + 1) xs)
      (sym (get_or-drop from xs k 0))
      ∙ ap (λ zs. take to xs ++ zs ++ drop (to + k + 1) xs)
      (sym (take_more (drop from xs) k 0 (omega (arith, length-drop from xs))))
      ∙ ap (λ n. take to xs ++ take (k + 1) (drop from xs) ++ drop n xs) (omega arith)

-- ---- words before an entry

pub words_more : (entries : List EntryName) (i : ℕ) (d : EntryName) → i < length entries
    → words_of (entries_named (take (i + 1) entries))
    ≡ words_of (entries_named (take i entries)) + cell_words (get_or entries i d).aggregation.function
words_more entries i d h =
    ap (λ xs. words_of (entries_named xs)) (take_more entries i d h)
    ∙ ap words_of (map-append entry_named (take i entries) (get_or entries i d ∷ []))
    ∙ sum_by-append (λ e. cell_words e.aggregation.function) (entries_named (take i entries))
    (entry_named (get_or entries i d) ∷ [])
    ∙ ap (λ n. words_of (entries_named (take i entries)) + n)
    (zero-add (cell_words (get_or entries i d).aggregation.function))

pub names-take : (entries : List EntryName) (i : ℕ) → entries_named entries
    ≡ entries_named (take i entries) ++ entries_named (drop i entries)
names-take entries i = ap entries_named (sym (take-append-drop i entries))
    ∙ map-append entry_named (take i entries) (drop i entries)

pub words_within : (entries : List EntryName) (i : ℕ) → words_of (entries_named (take i entries)) ≤ words_of (entries_named entries)
words_within entries i =
    omega (
      arith,
      ap words_of (names-take entries i),
      sum_by-append (λ e. cell_words e.aggregation.function) (entries_named (take i entries))
          (entries_named (drop i entries)),
    )

-- the words up to an entry and of its own cell are not more than all
pub words_fit : (entries : List EntryName) (i : ℕ) (d : EntryName) → i < length entries
    → words_of (entries_named (take i entries)) + cell_words (get_or entries i d).aggregation.function
    ≤ words_of (entries_named entries)
words_fit entries i d h = omega (arith, words_more entries i d h, words_within entries (i + 1))

-- ---- an entry is looked for

pub has-more : (entries : List EntryName) (i : ℕ) (d : EntryName) (entry : Entry) → i < length entries
    → has entry (entries_named (take i entries)) ≡ false → same_entry entry (entry_named (get_or entries i d)) ≡ false
    → has entry (entries_named (take (i + 1) entries)) ≡ false
has-more entries i d entry h before here =
    let x = entry_named (get_or entries i d) in
    ap (λ xs. has entry (entries_named xs)) (take_more entries i d h)
    ∙ ap (has entry) (map-append entry_named (take i entries) (get_or entries i d ∷ []))
    ∙ list_any-append (λ o. same_entry o entry) (entries_named (take i entries)) (x ∷ [])
    ∙ ap (λ b. b || (same_entry x entry || false)) before
    ∙ ap (λ b. b || false) (entry_back entry x here)

pub lies_at : (entries : List EntryName) (i : ℕ) (d : EntryName) (entry : Entry) → i < length entries
    → same_entry entry (entry_named (get_or entries i d)) ≡ true
    → LiesAt (entries_named entries) entry (words_of (entries_named (take i entries)))
lies_at entries i d entry h here = record {
  before = entries_named (take i entries);
  later = entries_named (drop (i + 1) entries);
  split = names-take entries i ∙ ap (λ xs. entries_named (take i entries) ++ entries_named xs) (drop_more entries i d h)
      ∙ ap (λ e. entries_named (take i entries) ++ e ∷ entries_named (drop (i + 1) entries))
      (sym (entry_is entry (entry_named (get_or entries i d)) here));
  place_is = refl;
}

pub none_among : (entries : List Entry) (entry : Entry) → has entry entries ≡ false → Contains entries entry → ⊥
none_among entries entry none among = false≢true (sym none ∙ has_from_contains entries entry among)

-- ---- cells are closed up

module _ (aggregation : Aggregation) (entries : List EntryName) (i : ℕ) (d : EntryName) (here : i < length entries)
    (cells was : List ℕ) (from to : ℕ) where
  abbrev Words : ℕ
  Words = cell_words (get_or entries i d).aggregation.function

  abbrev Left : ℕ → List ℕ → List ℕ
  Left k words = cells_without aggregation (entries_named (drop k entries)) words

  left_more : (words : List ℕ) → Left i words
      ≡ cond (same_aggregation aggregation (get_or entries i d).aggregation) [] (take Words words)
      ++ Left (i + 1) (drop Words words)
  left_more words = ap (λ xs. cells_without aggregation (entries_named xs) words) (drop_more entries i d here)

  -- the entry's cell goes
  pub close_gone : same_aggregation aggregation (get_or entries i d).aggregation ≡ true
      → take to cells ++ Left i (drop from cells) ≡ was
      → take to cells ++ Left (i + 1) (drop (from + Words) cells) ≡ was
  close_gone gone so_far =
      ap (λ xs. take to cells ++ Left (i + 1) xs) (sym (drop-drop Words from cells))
      ∙ sym (ap (λ b. take to cells ++ (cond b [] (take Words (drop from cells))
      ++ Left (i + 1) (drop Words (drop from cells)))) gone)
      ∙ sym (ap (λ xs. take to cells ++ xs) (left_more (drop from cells))) ∙ so_far

  -- it is moved down
  pub close_kept : (moved : List ℕ) → same_aggregation aggregation (get_or entries i d).aggregation ≡ false
      → to ≤ from → from + Words ≤ length cells
      → moved ≡ take to cells ++ take (from + Words - from) (drop from cells) ++ drop (to + Words) cells
      → take to cells ++ Left i (drop from cells) ≡ was
      → take (to + Words) moved ++ Left (i + 1) (drop (from + Words) moved) ≡ was
  close_kept moved kept down fits is so_far =
      let front = take to cells ++ take Words (drop from cells) in
      let long : length front ≡ to + Words =
      length-append (take to cells) (take Words (drop from cells))
      ∙ ap (λ n. n + length (take Words (drop from cells))) (length-take-le to cells (omega arith))
      ∙ ap (λ n. to + n) (length-take-le Words (drop from cells) (omega (arith, length-drop from cells))) in
      let shape : moved ≡ front ++ drop (to + Words) cells =
      is ∙ ap (λ n. take to cells ++ take n (drop from cells) ++ drop (to + Words) cells) (omega arith) in
      let gap : from + Words ≡ to + Words + (from - to) = omega arith in
      ap (λ xs. take (to + Words) xs ++ Left (i + 1) (drop (from + Words) xs)) shape
      ∙ ap (λ xs. xs ++ Left (i + 1) (drop (from + Words) (front ++ drop (to + Words) cells)))
      (take_at front (drop (to + Words) cells) (to + Words) long)
      ∙ ap (λ n. front ++ Left (i + 1) (drop n (front ++ drop (to + Words) cells))) gap
      ∙ ap (λ xs. front ++ Left (i + 1) xs)
      (sym (drop-drop (from - to) (to + Words) (front ++ drop (to + Words) cells))
      ∙ ap (drop (from - to)) (drop_at front (drop (to + Words) cells) (to + Words) long)
      ∙ drop-drop (from - to) (to + Words) cells
      ∙ ap (λ n. drop n cells) (sym gap) ∙ sym (drop-drop Words from cells))
      ∙ append_assoc (take to cells) (take Words (drop from cells)) (Left (i + 1) (drop Words (drop from cells)))
      ∙ sym (ap (λ b. take to cells ++ (cond b [] (take Words (drop from cells))
      ++ Left (i + 1) (drop Words (drop from cells)))) kept)
      ∙ sym (ap (λ xs. take to cells ++ xs) (left_more (drop from cells))) ∙ so_far

module _ (aggregation : Aggregation) (entries : List EntryName) (i : ℕ) (x : EntryName) (here : i < length entries)
    (is : x ≡ get_or entries i x) (cells was : List ℕ) (from to n : ℕ) (n_is : n
    ≡ cell_words x.aggregation.function) where
  words_are : cell_words (get_or entries i x).aggregation.function ≡ n
  words_are = ap (λ y. cell_words y.aggregation.function) (sym is) ∙ sym n_is

  abbrev Rest : ℕ → List ℕ → List ℕ
  Rest k words = cells_without aggregation (entries_named (drop k entries)) words

  pub close_gone_at : same_aggregation aggregation x.aggregation ≡ true → take to cells ++ Rest i (drop from cells)
      ≡ was
      → take to cells ++ Rest (i + 1) (drop (from + n) cells) ≡ was
  close_gone_at gone so_far =
      subst (λ m. take to cells ++ Rest (i + 1) (drop (from + m) cells) ≡ was) words_are
      (close_gone aggregation entries i x here cells was from to
      (ap (λ y. same_aggregation aggregation y.aggregation) (sym is) ∙ gone) so_far)

  pub close_kept_at : (moved : List ℕ) → same_aggregation aggregation x.aggregation ≡ false → to ≤ from
      → from + n ≤ length cells → moved
      ≡ take to cells ++ take (from + n - from) (drop from cells) ++ drop (to + n) cells
      → take to cells ++ Rest i (drop from cells) ≡ was
      → take (to + n) moved ++ Rest (i + 1) (drop (from + n) moved) ≡ was
  close_kept_at moved kept down fits shape so_far =
      let P : ℕ → Type 0 = λ m.
      from + m ≤ length cells → moved
      ≡ take to cells ++ take (from + m - from) (drop from cells) ++ drop (to + m) cells
      → take (to + m) moved ++ Rest (i + 1) (drop (from + m) moved) ≡ was in
      subst P words_are
      (λ f s. close_kept aggregation entries i x here cells was from to moved
      (ap (λ y. same_aggregation aggregation y.aggregation) (sym is) ∙ kept) down f s so_far)
      fits shape

-- all were looked at
pub close_all : (aggregation : Aggregation) (entries : List EntryName) (i from to : ℕ) (cells was : List ℕ)
    → length entries ≤ i
    → take to cells ++ cells_without aggregation (entries_named (drop i entries)) (drop from cells) ≡ was → take to cells
    ≡ was
close_all aggregation entries i from to cells was over so_far =
    sym (append-nil (take to cells))
    ∙ sym (ap (λ xs. take to cells ++ cells_without aggregation (entries_named xs) (drop from cells))
    (drop_all i entries over))
    ∙ so_far

-- ---- the same of the entry that a loop reads

module _ (entries items : List EntryName) (i : ℕ) (x : EntryName) (same : items ≡ entries) (lt : i < length items)
    (is : x ≡ get_or items i x) where
  pub within_at : i < length entries
  within_at = subst (λ xs. i < length xs) same lt

  pub read_at : x ≡ get_or entries i x
  read_at = is ∙ ap (λ xs. get_or xs i x) same

  pub words_more_at : words_of (entries_named (take (i + 1) entries))
      ≡ words_of (entries_named (take i entries)) + cell_words x.aggregation.function
  words_more_at =
      words_more entries i x within_at
      ∙ ap (λ y. words_of (entries_named (take i entries)) + cell_words y.aggregation.function) (sym read_at)

  pub words_fit_at : words_of (entries_named (take i entries)) + cell_words x.aggregation.function
      ≤ words_of (entries_named entries)
  words_fit_at = omega (arith, words_more_at, words_within entries (i + 1))

  pub has-more_at : (entry : Entry) → has entry (entries_named (take i entries)) ≡ false
      → same_entry entry (entry_named x) ≡ false → has entry (entries_named (take (i + 1) entries)) ≡ false
  has-more_at entry before none =
      has-more entries i x entry within_at before (ap (λ y. same_entry entry (entry_named y)) (sym read_at) ∙ none)

  pub lies_at_at : (entry : Entry) (place : ℕ) → same_entry entry (entry_named x) ≡ true
      → place ≡ words_of (entries_named (take i entries)) → LiesAt (entries_named entries) entry place
  lies_at_at entry place found e =
      let P : ℕ → Type 0 = λ n. LiesAt (entries_named entries) entry n in
      subst P (sym e)
      (lies_at entries i x entry within_at (ap (λ y. same_entry entry (entry_named y)) (sym read_at) ∙ found))
