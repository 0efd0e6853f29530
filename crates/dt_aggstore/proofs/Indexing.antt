-- What an index says of the entries, and where their cells lie.
use Rattle.std.proofs.Common.{◌≡◌, ℕ, suc, ◌+◌, ◌<◌, ◌≤◌, ⊎_elim, Bool, true, false, cond, ◌||◌, List, [], ◌∷◌, ◌++◌}
use Rattle.std.proofs.Common.{length, zip, get_or, take, drop, Option, None, Some, is_some, true≢false, Result, Ok}
use Rattle.std.proofs.Common.{refl, sym, ap, ◌∙◌, subst, rules, arith}
use Rattle.std.specs.Prelude.{IfSome, IfNone, OnOk, Contains, filter, not, map}
use Rattle.std.specs.List.{IsDistinct, AllByRecursion}
use Rattle.std.specs.Map.{keys_of, values_of, lookup}
use Rattle.std.proofs.lemmas.Bool.{false≢true}
use Rattle.std.proofs.lemmas.List.{append-nil, append_assoc, map-append, take_more, drop_more}
use Rattle.std.proofs.lemmas.List.Elements.{filter-append}
use Rattle.indexmap.specs.IndexMap.{IndexMap, insert_entry}
use Rattle.indexmap.proofs.CallerLemmas.{insert_entry-new}
use Rattle.dt_aggfn.specs.Cells.{cell_words}
use Rattle.dt_aggstore.specs.EntryNames.{entry_named, entries_named, words_of, LiesAt}
use Rattle.dt_aggstore.specs.Indexed.{places_from}
use Rattle.dt_aggstore.specs.Keys.{Entry, same_entry, same_aggregation, without}
use Rattle.dt_aggstore.specs.declared.entry_name.EntryName.{EntryName}
use Rattle.dt_aggstore.specs.declared.key.Aggregation.{Aggregation}
use Rattle.dt_aggstore.specs.contracts.entry_name.EntryNamePartialEq.TheImpl as keyed
use Rattle.dt_aggstore.proofs.Same.{entry_is, entry_back}
use Rattle.dt_aggstore.proofs.Filters.{yes_or_no, filter_yes, filter_no}
use Rattle.dt_aggstore.proofs.Distinct.{has, has_from_contains, contains_from_has, has-filter_no, AreApart}
use Rattle.dt_aggstore.proofs.Costs.{words-cons, words-push}
use Rattle.dt_aggstore.proofs.Standing.{apart_before}
use Rattle.dt_aggstore.proofs.Words.{names-take, words_fit}

-- ---- the test by which an entry is found

-- the test of the index tells entries by their names
pub by_name : (a b : EntryName) → (keyed.eq-value).it a b ≡ same_entry (entry_named a) (entry_named b)
by_name a b = search rules

abbrev pub is_named : Entry → EntryName → Bool
is_named entry one = same_entry entry (entry_named one)

abbrev pub named_as : EntryName → EntryName → Bool
named_as name = is_named (entry_named name)

pub tests_alike : (keyed.eq-value).it ≡ named_as
tests_alike = λ i a b. by_name a b i

-- entries that an index has are apart
pub names_apart : (items : List EntryName) → IsDistinct named_as items → AreApart (entries_named items)
unfolding IsDistinct
names_apart [] d = tt
names_apart (x ∷ items) d = (others items d.0, names_apart items d.1)
  where
    others : (items : List EntryName) → AllByRecursion (λ y. named_as x y ≡ false) items
        → has (entry_named x) (entries_named items) ≡ false
    others [] a = refl
    others (y ∷ items) a =
        ap (λ b. b || has (entry_named x) (entries_named items)) (entry_back (entry_named x) (entry_named y) a.0) ∙ others items a.1

-- ---- an index as two lists

pub zipped : {K X : Type 0} (es : List (K × X)) → es ≡ zip (keys_of es) (values_of es)
zipped [] = refl
zipped (e ∷ es) = ap (λ xs. e ∷ xs) (zipped es)

pub not_found : (name : EntryName) (es : List (EntryName × ℕ)) → (Contains (entries_named (keys_of es)) (entry_named name) → ⊥)
    → lookup (named_as name) es ≡ None
not_found name es none = ⊎_elim
    (λ yes. absurd (none (contains_from_has (entries_named (keys_of es)) (entry_named name) yes)))
    (λ lacks. by es lacks)
    (yes_or_no (has (entry_named name) (entries_named (keys_of es))))
  where
    by : (es : List (EntryName × ℕ)) → has (entry_named name) (entries_named (keys_of es)) ≡ false
        → lookup (named_as name) es ≡ None
    by [] lacks = refl
    by (e ∷ es) lacks = ⊎_elim
        (λ yes. absurd (false≢true (sym lacks
        ∙ ap (λ b. b || has (entry_named name) (entries_named (keys_of es))) yes)))
        (λ other. ap (λ b. cond b (Some e.1) (lookup (named_as name) es))
        (entry_back (entry_named e.0) (entry_named name) other)
        ∙ by es (sym (ap (λ b. b || has (entry_named name) (entries_named (keys_of es))) other) ∙ lacks))
        (yes_or_no (same_entry (entry_named e.0) (entry_named name)))

-- a new entry goes last
pub put_last : {S : Type 0} (index : IndexMap EntryName ℕ S) (name : EntryName) (place : ℕ)
    → (Contains (entries_named (keys_of index.entries)) (entry_named name) → ⊥)
    → insert_entry (keyed.eq-value).it index.entries name place ≡ index.entries ++ (name, place) ∷ []
put_last index name place none =
    insert_entry-new (keyed.eq-value).it index name place
    (ap (λ eq. lookup (eq name) index.entries) tests_alike ∙ not_found name index.entries none)

pub at_ok : {T E P : Type 0} (r : Result T E) (x : T) → r ≡ Ok x → OnOk r P → P
at_ok {T} {E} {P} r x e p = subst (λ s. OnOk s P) e p

-- ---- where cells lie

pub places-push : (place : ℕ) (entries : List Entry) (e : Entry)
    → places_from place (entries ++ e ∷ []) ≡ places_from place entries ++ (place + words_of entries) ∷ []
places-push place [] e = ap (λ n. n ∷ []) (omega arith)
places-push place (x ∷ entries) e =
    ap (λ xs. place ∷ xs)
    (places-push (place + cell_words x.aggregation.function) entries e
    ∙ ap (λ n. places_from (place + cell_words x.aggregation.function) entries ++ n ∷ [])
    (omega (arith, words-cons x entries)))

-- an entry is among some whose cells lie from a place on
record LiesFrom (from : ℕ) (entries : List Entry) (entry : Entry) (place : ℕ) : Type 0 where
  pub before : List Entry
  pub later : List Entry
  pub split : entries ≡ before ++ entry ∷ later
  pub place_is : place ≡ from + words_of before

module _ (entry : Entry) where
  abbrev Found : ℕ → List EntryName → Option ℕ → Type 0
  Found from items found = IfSome found (LiesFrom from (entries_named items) entry)

  later_found : (from : ℕ) (x : EntryName) (items : List EntryName) (found : Option ℕ)
      → Found (from + cell_words x.aggregation.function) items found → Found from (x ∷ items) found
  later_found from x items None f = tt
  later_found from x items (Some place) f = record {
    before = entry_named x ∷ f.before;
    later = f.later;
    split = ap (λ xs. entry_named x ∷ xs) f.split;
    place_is = omega (arith, f.place_is, words-cons (entry_named x) f.before);
  }

  found_from : (from : ℕ) (items : List EntryName)
      → Found from items (lookup (is_named entry) (zip items (places_from from (entries_named items))))
  found_from from [] = tt
  found_from from (x ∷ items) =
      let next = from + cell_words x.aggregation.function in
      let rest = lookup (is_named entry) (zip items (places_from next (entries_named items))) in
      ⊎_elim
      (λ yes.
      let here : LiesFrom from (entries_named (x ∷ items)) entry from = record {
        before = [];
        later = entries_named items;
        split = ap (λ e. e ∷ entries_named items) (sym (entry_is entry (entry_named x) yes));
        place_is = omega arith;
      } in
      subst (Found from (x ∷ items)) (sym (ap (λ b. cond b (Some from) rest) yes)) here)
      (λ no. subst (Found from (x ∷ items)) (sym (ap (λ b. cond b (Some from) rest) no))
      (later_found from x items rest (found_from next items)))
      (yes_or_no (is_named entry x))

  lies : (items : List EntryName) (found : Option ℕ) → Found 0 items found
      → IfSome found (LiesAt (entries_named items) entry)
  lies items None f = tt
  lies items (Some place) f = record {
    before = f.before;
    later = f.later;
    split = f.split;
    place_is = omega (arith, f.place_is);
  }

  -- what is found is where the entry's cell lies
  pub found_lies : (items : List EntryName)
      → IfSome (lookup (is_named entry) (zip items (places_from 0 (entries_named items))))
      (LiesAt (entries_named items) entry)
  found_lies items = lies items _ (found_from 0 items)

  abbrev Missing : List EntryName → Option ℕ → Type 0
  Missing items found = IfNone found (has entry (entries_named items) ≡ false)

  later_missing : (x : EntryName) (items : List EntryName) (found : Option ℕ) → is_named entry x ≡ false
      → Missing items found → Missing (x ∷ items) found
  later_missing x items None other m =
      ap (λ b. b || has entry (entries_named items)) (entry_back entry (entry_named x) other) ∙ m
  later_missing x items (Some place) other m = tt

  missing_from : (from : ℕ) (items : List EntryName)
      → Missing items (lookup (is_named entry) (zip items (places_from from (entries_named items))))
  missing_from from [] = refl
  missing_from from (x ∷ items) =
      let next = from + cell_words x.aggregation.function in
      let rest = lookup (is_named entry) (zip items (places_from next (entries_named items))) in
      ⊎_elim
      (λ yes. subst (Missing (x ∷ items)) (sym (ap (λ b. cond b (Some from) rest) yes)) tt)
      (λ no. subst (Missing (x ∷ items)) (sym (ap (λ b. cond b (Some from) rest) no))
      (later_missing x items rest no (missing_from next items)))
      (yes_or_no (is_named entry x))

  absent : (items : List EntryName) (found : Option ℕ) → Missing items found
      → IfNone found (Contains (entries_named items) entry → ⊥)
  absent items None m = λ among. false≢true (sym m ∙ has_from_contains (entries_named items) entry among)
  absent items (Some place) m = tt

  -- and where nothing is found, there is no such entry
  pub none_found : (items : List EntryName)
      → IfNone (lookup (is_named entry) (zip items (places_from 0 (entries_named items))))
      (Contains (entries_named items) entry → ⊥)
  none_found items = absent items _ (missing_from 0 items)

pub not_some : (P : Type 0) (found : Option ℕ) → is_some found ≡ false → IfNone found P → P
not_some P None lacks p = p
not_some P (Some place) lacks p = absurd (true≢false lacks)

-- ---- the entries of other aggregations

module _ (aggregation : Aggregation) where
  abbrev stays : Entry → Bool
  stays e = not (same_aggregation aggregation e.aggregation)

  without_more : (entries : List Entry) (e : Entry)
      → without aggregation (entries ++ e ∷ []) ≡ without aggregation entries ++ filter stays (e ∷ [])
  without_more entries e = filter-append stays entries (e ∷ [])

  pub without-gone : (entries : List Entry) (e : Entry) → same_aggregation aggregation e.aggregation ≡ true
      → without aggregation (entries ++ e ∷ []) ≡ without aggregation entries
  without-gone entries e gone =
      without_more entries e
      ∙ ap (λ xs. without aggregation entries ++ xs) (filter_no stays e [] (ap not gone))
      ∙ append-nil (without aggregation entries)

  pub without-kept : (entries : List Entry) (e : Entry) → same_aggregation aggregation e.aggregation ≡ false
      → without aggregation (entries ++ e ∷ []) ≡ without aggregation entries ++ e ∷ []
  without-kept entries e kept =
      without_more entries e
      ∙ ap (λ xs. without aggregation entries ++ xs) (filter_yes stays e [] (ap not kept))

  -- an entry isn't among the others of those before it
  pub none_before : (before later : List Entry) (e : Entry) → AreApart (before ++ e ∷ later)
      → Contains (without aggregation before) e → ⊥
  none_before before later e apart among =
      false≢true (sym (has-filter_no stays before e (apart_before e before later apart))
      ∙ has_from_contains (without aggregation before) e among)

  words_without : (entries : List Entry) → words_of (without aggregation entries) ≤ words_of entries
  words_without [] = omega arith
  words_without (e ∷ entries) = ⊎_elim
      (λ yes. omega (
        arith,
        ap words_of (filter_yes stays e entries yes),
        words-cons e entries,
        words-cons e (without aggregation entries),
        words_without entries,
      ))
      (λ no. omega (
        arith,
        ap words_of (filter_no stays e entries no),
        words-cons e entries,
        words_without entries,
      ))
      (yes_or_no (stays e))

  -- After some entries were seen, an index has those that stay, with the places of their cells, and the next cell's
  -- place is known.
  pub record ArePut (seen : List Entry) (entries : List (EntryName × ℕ)) (place : ℕ) : Type 0 where
    pub names : entries_named (keys_of entries) ≡ without aggregation seen
    pub places : values_of entries ≡ places_from 0 (without aggregation seen)
    pub place_is : place ≡ words_of (without aggregation seen)

  module _ (seen : List Entry) (entries : List (EntryName × ℕ)) (place : ℕ) (put : ArePut seen entries place) where
    pub put_gone : (e : Entry) → same_aggregation aggregation e.aggregation ≡ true
        → ArePut (seen ++ e ∷ []) entries place
    put_gone e gone = record {
      names = put.names ∙ sym (without-gone seen e gone);
      places = put.places ∙ ap (places_from 0) (sym (without-gone seen e gone));
      place_is = put.place_is ∙ ap words_of (sym (without-gone seen e gone));
    }

    pub put_kept : (name : EntryName) → same_aggregation aggregation name.aggregation ≡ false
        → ArePut (seen ++ entry_named name ∷ []) (entries ++ (name, place) ∷ [])
        (place + cell_words name.aggregation.function)
    put_kept name kept = record {
      names = ap entries_named (map-append (λ (e : EntryName × ℕ). e.0) entries ((name, place) ∷ []))
          ∙ map-append entry_named (keys_of entries) (name ∷ [])
          ∙ ap (λ xs. xs ++ entry_named name ∷ []) put.names
          ∙ sym (without-kept seen (entry_named name) kept);
      places = map-append (λ (e : EntryName × ℕ). e.1) entries ((name, place) ∷ [])
          ∙ ap (λ xs. xs ++ place ∷ []) put.places
          ∙ ap (λ n. places_from 0 (without aggregation seen) ++ n ∷ []) (omega (arith, put.place_is))
          ∙ sym (places-push 0 (without aggregation seen) (entry_named name))
          ∙ ap (places_from 0) (sym (without-kept seen (entry_named name) kept));
      place_is = omega (
        arith,
        put.place_is,
        words-push (without aggregation seen) (entry_named name),
        ap words_of (without-kept seen (entry_named name) kept),
      );
    }

    -- the same of what a step leaves, where a copy of the entry is put
    pub put_copy : (all : List Entry) (new : List (EntryName × ℕ)) (next words : ℕ) (x copy : EntryName)
        → all ≡ seen ++ entry_named x ∷ [] → new ≡ entries ++ (copy, place) ∷ [] → next ≡ place + words
        → words ≡ cell_words x.aggregation.function → entry_named copy ≡ entry_named x
        → same_aggregation aggregation x.aggregation ≡ false → ArePut all new next
    put_copy all new next words x copy all_is new_is next_is words_is same kept =
        let put_here = put_kept copy (ap (λ (e : Entry). same_aggregation aggregation e.aggregation) same ∙ kept) in
        let left : without aggregation (seen ++ entry_named copy ∷ []) ≡ without aggregation all =
        ap (λ e. without aggregation (seen ++ e ∷ [])) same ∙ ap (without aggregation) (sym all_is) in
        record {
          names = ap (λ es. entries_named (keys_of es)) new_is ∙ put_here.names ∙ left;
          places = ap values_of new_is ∙ put_here.places ∙ ap (places_from 0) left;
          place_is = omega (
            arith,
            next_is,
            words_is,
            ap (λ (e : Entry). cell_words e.aggregation.function) same,
            put_here.place_is,
            ap words_of left,
          );
        }

-- ---- an entry of a list, at a place

module _ (items : List EntryName) (i : ℕ) (x : EntryName) (within : i < length items) (is : x ≡ get_or items i x) where
  pub names_more : entries_named (take (i + 1) items) ≡ entries_named (take i items) ++ entry_named x ∷ []
  names_more =
      ap entries_named (take_more items i x within)
      ∙ map-append entry_named (take i items) (get_or items i x ∷ [])
      ∙ ap (λ y. entries_named (take i items) ++ entry_named y ∷ []) (sym is)

  names_split : entries_named items ≡ entries_named (take i items) ++ entry_named x ∷ entries_named (drop (i + 1) items)
  names_split =
      names-take items i
      ∙ ap (λ xs. entries_named (take i items) ++ entries_named xs) (drop_more items i x within)
      ∙ ap (λ y. entries_named (take i items) ++ entry_named y ∷ entries_named (drop (i + 1) items)) (sym is)

  pub not_before : (aggregation : Aggregation) → IsDistinct named_as items
      → Contains (without aggregation (entries_named (take i items))) (entry_named x) → ⊥
  not_before aggregation apart =
      none_before aggregation (entries_named (take i items)) (entries_named (drop (i + 1) items)) (entry_named x)
      (subst AreApart names_split (names_apart items apart))

  pub words_left : (aggregation : Aggregation)
      → words_of (without aggregation (entries_named (take i items))) + cell_words x.aggregation.function
      ≤ words_of (entries_named items)
  words_left aggregation =
      omega (
        arith,
        words_without aggregation (entries_named (take i items)),
        words_fit items i x within,
        ap (λ (y : EntryName). cell_words y.aggregation.function) is,
      )

-- ---- where the cells of all entries lie

abbrev LieAt : List Entry → List (EntryName × ℕ) → Type 0
LieAt names = AllByRecursion (λ e. LiesAt names (entry_named e.0) e.1)

lie_after : (before : List Entry) (items : List EntryName) (from : ℕ) → from ≡ words_of before
    → LieAt (before ++ entries_named items) (zip items (places_from from (entries_named items)))
lie_after before [] from from_is = tt
lie_after before (x ∷ items) from from_is =
    let next = from + cell_words x.aggregation.function in (
      record { before = before; later = entries_named items; split = refl; place_is = from_is },
      subst (λ names. LieAt names (zip items (places_from next (entries_named items))))
          (append_assoc before (entry_named x ∷ []) (entries_named items))
          (lie_after (before ++ entry_named x ∷ []) items next (omega (arith, from_is, words-push before (entry_named x)))),
    )

pub all_lie : (items : List EntryName) → LieAt (entries_named items) (zip items (places_from 0 (entries_named items)))
all_lie items = lie_after [] items 0 refl

pub all_also : {X : Type 0} (P Q : X → Type 0) → ((x : X) → P x → Q x) → (xs : List X) → AllByRecursion P xs
    → AllByRecursion Q xs
all_also P Q also [] a = tt
all_also P Q also (x ∷ xs) a = (also x a.0, all_also P Q also xs a.1)

pub length-places_from : (place : ℕ) (items : List EntryName) → length (places_from place (entries_named items)) ≡ length items
length-places_from place [] = refl
length-places_from place (x ∷ items) = ap suc (length-places_from (place + cell_words x.aggregation.function) items)

pub values_of-zip : {K X : Type 0} (ks : List K) (vs : List X) → length vs ≡ length ks → values_of (zip ks vs) ≡ vs
values_of-zip [] [] e = refl
values_of-zip [] (v ∷ vs) e = absurd (omega (arith, e))
values_of-zip (k ∷ ks) [] e = absurd (omega (arith, e))
values_of-zip (k ∷ ks) (v ∷ vs) e = ap (λ xs. v ∷ xs) (values_of-zip ks vs (omega (arith, e)))

pub names_beside : (es : List (EntryName × ℕ)) → map (λ (e : EntryName × ℕ). entry_named e.0) es ≡ entries_named (keys_of es)
names_beside [] = refl
names_beside (e ∷ es) = ap (λ xs. entry_named e.0 ∷ xs) (names_beside es)
