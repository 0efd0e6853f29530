-- A store after one more event.
use Rattle.std.proofs.Common.{◌≡◌, ℕ, ◌+◌, ◌≤◌, ◌↔◌, ⊎_elim, inl, inr, ℤ, Bool, true, false, cond, ◌||◌, List, [], ◌∷◌}
use Rattle.std.proofs.Common.{◌++◌, take, drop, refl, sym, ap, ◌∙◌, subst, IsTrue, arith}
use Rattle.std.specs.Prelude.{not, FitsSigned, slice_range, Contains}
use Rattle.std.specs.Int.{w64}
use Rattle.std.proofs.lemmas.Bool.{false≢true}
use Rattle.std.proofs.lemmas.List.{append-nil, append_assoc, take_at, drop_at}
use Rattle.std.proofs.lemmas.List.Concat.{flat_map-append}
use Rattle.std.proofs.lemmas.List.Folds.{list_any-append}
use Rattle.std.proofs.lemmas.List.Elements.{Contains-append_right}
use Rattle.dt_aggfn.specs.Cells.{cell_words, cell_of, IsBag}
use Rattle.dt_aggstore.specs.Keys.{Entry, same_entry, same_aggregation, entry_cost, cost_of, without}
use Rattle.dt_aggstore.specs.History.{Event, given, truncated, Past, after, contribution_count}
use Rattle.dt_aggstore.specs.Held.{Contribution, entry_of, counted, distinct, held_after, values_of}
use Rattle.dt_aggstore.specs.Choice.{IsKept, KeepsContribution}
use Rattle.dt_aggstore.specs.Chosen.{drops}
use Rattle.dt_aggstore.specs.EntryNames.{entries_named, words_of, LiesAt, cells_without}
use Rattle.dt_aggstore.specs.IsAt.{IsAt}
use Rattle.dt_aggstore.specs.declared.limits.TheConstants.{ADDED_LIMIT}
use Rattle.dt_aggstore.specs.declared.key.Aggregation.{Aggregation}
use Rattle.dt_aggstore.specs.declared.key.KeyPart.{KeyPart}
use Rattle.dt_aggstore.specs.declared.store.AggStore.{AggStore}
use Rattle.dt_aggstore.proofs.Same.{own_entry}
use Rattle.dt_aggstore.proofs.Filters.{yes_or_no, filter_yes, filter_no}
use Rattle.dt_aggstore.proofs.Distinct.{has, has-distinct, has_from_contains, contains_from_has, distinct-push}
use Rattle.dt_aggstore.proofs.Distinct.{AreApart, distinct_apart}
use Rattle.dt_aggstore.proofs.Counting.{contribution, names, names-push, counted-given, counted-truncated, others}
use Rattle.dt_aggstore.proofs.Counting.{held-others, values-others, values-push_same, values-push_other, values_none}
use Rattle.dt_aggstore.proofs.Choices.{choice_more, keeps}
use Rattle.dt_aggstore.proofs.Drops.{drops-given, drops-truncated}
use Rattle.dt_aggstore.proofs.Standing.{held_bag, numbers-push, contributions-given, Bags, cells_from, cells_alike}
use Rattle.dt_aggstore.proofs.Standing.{Lengths, apart_before, apart_later, cells_before, cell_at, cells_later}

-- ---- a contribution

module _ (past : Past) (old : AggStore) (at : IsAt past old) (aggregation : Aggregation) (key : List KeyPart)
    (value : ℤ)
  where
    abbrev Given : Entry
    Given = entry_of aggregation key

    abbrev Event-of : Event
    Event-of = given aggregation key value

    abbrev Counted : List Contribution
    Counted = counted past.events at.chosen

    abbrev Held-then : List Entry
    Held-then = held_after past.events at.chosen

    abbrev Bags-then : Bags
    Bags-then e = values_of e Counted

    abbrev Bags-now : Bags
    Bags-now e = values_of e (Counted ++ contribution aggregation key value ∷ [])

    -- the bags of other entries stay
    other_bags : (e : Entry) → same_entry e Given ≡ false → Bags-now e ≡ Bags-then e
    other_bags e other = values-push_other e Counted (contribution aggregation key value) other

    own_bag : Bags-now Given ≡ Bags-then Given ++ value ∷ []
    own_bag = values-push_same Given Counted (contribution aggregation key value) (own_entry Given)

    counted_kept : counted (past.events ++ Event-of ∷ []) (at.chosen ++ true ∷ [])
        ≡ Counted ++ contribution aggregation key value ∷ []
    counted_kept = counted-given past.events at.chosen aggregation key value true at.choice.whole

    held_kept : held_after (past.events ++ Event-of ∷ []) (at.chosen ++ true ∷ [])
        ≡ cond (has Given (names Counted)) Held-then (Held-then ++ Given ∷ [])
    held_kept =
        ap (λ c. distinct (names c)) counted_kept
        ∙ ap distinct (names-push Counted (contribution aggregation key value))
        ∙ distinct-push (names Counted) Given

    -- it is no drop
    drops_kept : IsKept past.size past.events at.chosen Event-of → drops (after past Event-of) ≡ drops past
    drops_kept kept =
        drops-given past aggregation key value true
        (keeps past aggregation key value at.chosen true at.choice ((λ _. kept), (λ _. refl)))

    -- the store keeps the contribution
    after_kept : (new : AggStore) → new.size ≡ old.size → new.added ≡ old.added + 1 → new.dropped ≡ old.dropped
        → FitsSigned w64 value → IsKept past.size past.events at.chosen Event-of → (entries : List Entry)
        → entries ≡ cond (has Given (names Counted)) Held-then (Held-then ++ Given ∷ [])
        → entries_named new.entries.items ≡ entries → new.cells.items ≡ cells_from Bags-now entries
        → IsAt (after past Event-of) new
    after_kept new size added dropped word kept entries is named cells = record {
      size = size ∙ at.size;
      added = added ∙ ap (λ n. n + 1) at.added ∙ sym (contributions-given past.events aggregation key value);
      dropped = dropped ∙ at.dropped ∙ sym (drops_kept kept);
      numbers = numbers-push past.events Event-of at.numbers word;
      chosen = at.chosen ++ true ∷ [];
      choice = choice_more past at.chosen Event-of true at.choice ((λ _. kept), (λ _. refl));
      names = named ∙ is ∙ sym held_kept;
      cells = cells ∙ ap (cells_from Bags-now) (is ∙ sym held_kept)
          ∙ ap (λ c. cells_from (λ e. values_of e c) (held_after (past.events ++ Event-of ∷ []) (at.chosen ++ true ∷ [])))
          (sym counted_kept);
    }

    -- where the entry is held, its bag gets the value
    module _ (lengths : Lengths) (place : ℕ) (lies : LiesAt (entries_named old.entries.items) Given place) where
      split : Held-then ≡ lies.before ++ Given ∷ lies.later
      split = sym at.names ∙ lies.split

      apart : AreApart (lies.before ++ Given ∷ lies.later)
      apart = subst AreApart split (distinct_apart (names Counted))

      is_held : has Given Held-then ≡ true
      is_held =
          ap (has Given) split ∙ list_any-append (λ o. same_entry o Given) lies.before (Given ∷ lies.later)
          ∙ ap (λ b. has Given lies.before || (b || has Given lies.later)) (own_entry Given)
          ∙ by (has Given lies.before)
        where
          by : (b : Bool) → (b || true) ≡ true
          by true = refl
          by false = refl

      cells_then : old.cells.items ≡ cells_from Bags-then (lies.before ++ Given ∷ lies.later)
      cells_then = at.cells ∙ ap (cells_from Bags-then) split

      pub given_bag : contribution_count past.events ≤ ADDED_LIMIT → IsBag (Bags-then Given)
      given_bag few = held_bag past.events at.chosen aggregation key at.numbers few is_held

      pub cell_is : slice_range old.cells.items place (place + cell_words aggregation.function)
          ≡ cell_of aggregation.function (Bags-then Given)
      cell_is =
          ap (λ xs. slice_range xs place (place + cell_words aggregation.function)) cells_then
          ∙ ap (λ n. slice_range (cells_from Bags-then (lies.before ++ Given ∷ lies.later)) n
          (n + cell_words aggregation.function)) lies.place_is
          ∙ cell_at lengths Bags-then Given lies.before lies.later

      cells_now : (new : AggStore) → new.cells.items
          ≡ take place old.cells.items ++ cell_of aggregation.function (Bags-then Given ++ value ∷ [])
          ++ drop (place + cell_words aggregation.function) old.cells.items
          → new.cells.items ≡ cells_from Bags-now (lies.before ++ Given ∷ lies.later)
      cells_now new is =
          let words = cell_words aggregation.function in
          let cell = cell_of aggregation.function (Bags-then Given ++ value ∷ []) in
          is
          ∙ ap (λ xs. take place xs ++ cell ++ drop (place + words) xs) cells_then
          ∙ ap (λ n. take n (cells_from Bags-then (lies.before ++ Given ∷ lies.later)) ++ cell
          ++ drop (n + words) (cells_from Bags-then (lies.before ++ Given ∷ lies.later))) lies.place_is
          ∙ ap (λ xs. xs ++ cell ++ drop (words_of lies.before + words)
          (cells_from Bags-then (lies.before ++ Given ∷ lies.later)))
          (cells_before lengths Bags-then Given lies.before lies.later)
          ∙ ap (λ xs. cells_from Bags-then lies.before ++ cell ++ xs)
          (cells_later lengths Bags-then Given lies.before lies.later)
          ∙ append_assoc (cells_from Bags-then lies.before) cell (cells_from Bags-then lies.later)
          ∙ ap (λ xs. xs ++ (cell ++ cells_from Bags-then lies.later))
          (sym (cells_alike Bags-then Bags-now Given other_bags lies.before
          (apart_before Given lies.before lies.later apart)))
          ∙ ap (λ xs. cells_from Bags-now lies.before ++ (cell ++ xs))
          (sym (cells_alike Bags-then Bags-now Given other_bags lies.later
          (apart_later Given lies.before lies.later apart)))
          ∙ ap (λ b. cells_from Bags-now lies.before
          ++ (cell_of aggregation.function b ++ cells_from Bags-now lies.later)) (sym own_bag)
          ∙ sym (flat_map-append (λ e. cell_of e.aggregation.function (Bags-now e)) lies.before (Given ∷ lies.later))

      among : Contains Held-then Given
      among = contains_from_has Held-then Given is_held

      pub after_added : (new : AggStore) → new.size ≡ old.size → new.added ≡ old.added + 1
          → new.dropped ≡ old.dropped → FitsSigned w64 value → new.entries ≡ old.entries
          → new.cells.items ≡ take place old.cells.items
          ++ cell_of aggregation.function (Bags-then Given ++ value ∷ [])
          ++ drop (place + cell_words aggregation.function) old.cells.items
          → IsAt (after past Event-of) new
      after_added new size added dropped word same cells =
          after_kept new size added dropped word (inl among) Held-then
          (sym (ap (λ b. cond b Held-then (Held-then ++ Given ∷ [])) (sym (has-distinct (names Counted) Given)
          ∙ is_held)))
          (ap (λ v. entries_named v.items) same ∙ at.names) (cells_now new cells ∙ ap (cells_from Bags-now) (sym split))

    -- where it isn't, it is made if its cost fits
    module _ (none : Contains (entries_named old.entries.items) Given → ⊥) where
      not_held : has Given Held-then ≡ false
      not_held = ⊎_elim
          (λ yes. absurd (none (subst (λ xs. Contains xs Given) (sym at.names)
          (contains_from_has Held-then Given yes))))
          (λ no. no)
          (yes_or_no (has Given Held-then))

      not_counted : has Given (names Counted) ≡ false
      not_counted = sym (has-distinct (names Counted) Given) ∙ not_held

      new_bag : Bags-now Given ≡ value ∷ []
      new_bag = own_bag ∙ ap (λ b. b ++ value ∷ []) (values_none Counted Given not_counted)

      pub after_made : (new : AggStore) → new.size ≡ old.size → new.added ≡ old.added + 1
          → new.dropped ≡ old.dropped → FitsSigned w64 value
          → entry_cost aggregation key + cost_of (entries_named old.entries.items) ≤ old.size
          → entries_named new.entries.items ≡ entries_named old.entries.items ++ Given ∷ []
          → new.cells.items ≡ old.cells.items ++ cell_of aggregation.function (value ∷ [])
          → IsAt (after past Event-of) new
      after_made new size added dropped word fits named cells =
          after_kept new size added dropped word (inr (omega (arith, fits, at.size, ap cost_of at.names)))
          (Held-then ++ Given ∷ [])
          (sym (ap (λ b. cond b Held-then (Held-then ++ Given ∷ [])) not_counted))
          (named ∙ ap (λ xs. xs ++ Given ∷ []) at.names)
          (cells ∙ ap (λ xs. xs ++ cell_of aggregation.function (value ∷ [])) at.cells
          ∙ ap (λ b. cells_from Bags-then Held-then ++ cell_of aggregation.function b) (sym new_bag)
          ∙ ap (λ xs. xs ++ cell_of aggregation.function (Bags-now Given))
          (sym (cells_alike Bags-then Bags-now Given other_bags Held-then not_held))
          ∙ ap (λ xs. cells_from Bags-now Held-then ++ xs)
          (sym (append-nil (cell_of aggregation.function (Bags-now Given))))
          ∙ sym (flat_map-append (λ e. cell_of e.aggregation.function (Bags-now e)) Held-then (Given ∷ [])))

      not_kept : (entry_cost aggregation key + cost_of (entries_named old.entries.items) ≤ old.size → ⊥)
          → IsKept past.size past.events at.chosen Event-of → ⊥
      not_kept over kept = ⊎_elim
          (λ among. false≢true (sym not_held ∙ has_from_contains Held-then Given among))
          (λ fits. over (omega (arith, fits, at.size, ap cost_of at.names)))
          kept

      counted_dropped : counted (past.events ++ Event-of ∷ []) (at.chosen ++ false ∷ []) ≡ Counted
      counted_dropped =
          counted-given past.events at.chosen aggregation key value false at.choice.whole ∙ append-nil Counted

      drops_dropped : (entry_cost aggregation key + cost_of (entries_named old.entries.items) ≤ old.size → ⊥)
          → drops (after past Event-of) ≡ drops past + 1
      drops_dropped over =
          drops-given past aggregation key value false
          (keeps past aggregation key value at.chosen false at.choice
          ((λ e. absurd (false≢true e)), (λ kept. absurd (not_kept over kept))))

      pub after_dropped : (new : AggStore) → new.size ≡ old.size → new.added ≡ old.added + 1
          → new.dropped ≡ old.dropped + 1 → FitsSigned w64 value
          → (entry_cost aggregation key + cost_of (entries_named old.entries.items) ≤ old.size → ⊥)
          → entries_named new.entries.items ≡ entries_named old.entries.items → new.cells.items ≡ old.cells.items
          → IsAt (after past Event-of) new
      after_dropped new size added dropped word over named cells = record {
        size = size ∙ at.size;
        added = added ∙ ap (λ n. n + 1) at.added ∙ sym (contributions-given past.events aggregation key value);
        dropped = dropped ∙ ap (λ n. n + 1) at.dropped ∙ sym (drops_dropped over);
        numbers = numbers-push past.events Event-of at.numbers word;
        chosen = at.chosen ++ false ∷ [];
        choice = choice_more past at.chosen Event-of false at.choice
            ((λ e. absurd (false≢true e)), (λ kept. absurd (not_kept over kept)));
        names = named ∙ at.names ∙ sym (ap (λ c. distinct (names c)) counted_dropped);
        cells = cells ∙ at.cells
            ∙ sym (ap (λ c. cells_from (λ e. values_of e c) (distinct (names c))) counted_dropped);
      }

      pub keeps_made : (b : Bool) → IsTrue b ↔
          (entry_cost aggregation key + cost_of (entries_named old.entries.items) ≤ old.size)
          → IsTrue b ↔ KeepsContribution past aggregation key value
      keeps_made b fits =
          keeps past aggregation key value at.chosen b at.choice (
            (λ t. inr (omega (arith, fits.0 t, at.size, ap cost_of at.names))),
            (λ kept. ⊎_elim
                (λ among. absurd (false≢true (sym not_held ∙ has_from_contains Held-then Given among)))
                (λ fit. fits.1 (omega (arith, fit, at.size, ap cost_of at.names)))
                kept),
          )

-- where the entry is held, the contribution is kept
pub keeps_added : (past : Past) (old : AggStore) (at : IsAt past old) (aggregation : Aggregation) (key :
    List KeyPart)
    (value : ℤ) (place : ℕ) → LiesAt (entries_named old.entries.items) (entry_of aggregation key) place
    → IsTrue true ↔ KeepsContribution past aggregation key value
keeps_added past old at aggregation key value place lies =
    let entry = entry_of aggregation key in
    let split : held_after past.events at.chosen ≡ lies.before ++ entry ∷ lies.later = sym at.names ∙ lies.split in
    let among : Contains (held_after past.events at.chosen) entry =
    subst (λ xs. Contains xs entry) (sym split)
    (Contains-append_right lies.before (entry ∷ lies.later) entry (0, omega arith, refl)) in
    keeps past aggregation key value at.chosen true at.choice ((λ _. inl among), (λ _. refl))

-- ---- a truncation

contributions-truncated : (events : List Event) (aggregation : Aggregation)
    → contribution_count (events ++ truncated aggregation ∷ []) ≡ contribution_count events
contributions-truncated [] aggregation = refl
contributions-truncated (given a k v ∷ events) aggregation =
    ap (λ n. 1 + n) (contributions-truncated events aggregation)
contributions-truncated (truncated a ∷ events) aggregation = contributions-truncated events aggregation

-- the cells of other entries are those that are left
without_cells : (lengths : Lengths) (aggregation : Aggregation) (bags other : Bags)
    → ((e : Entry) → same_aggregation aggregation e.aggregation ≡ false → other e ≡ bags e) → (entries : List Entry)
    → cells_without aggregation entries (cells_from bags entries) ≡ cells_from other (without aggregation entries)
without_cells lengths aggregation bags other h [] = refl
without_cells lengths aggregation bags other h (e ∷ entries) =
    let words = cell_words e.aggregation.function in
    let cell = cell_of e.aggregation.function (bags e) in
    let test = λ (e : Entry). not (same_aggregation aggregation e.aggregation) in
    let rest = without_cells lengths aggregation bags other h entries in
    let left : cells_without aggregation entries (drop words (cell ++ cells_from bags entries))
    ≡ cells_from other (without aggregation entries) =
    ap (cells_without aggregation entries)
    (drop_at cell (cells_from bags entries) words (lengths e.aggregation.function (bags e)))
    ∙ rest in
    ⊎_elim
    (λ yes. ap (λ b. cond b [] (take words (cell ++ cells_from bags entries))
    ++ cells_without aggregation entries (drop words (cell ++ cells_from bags entries))) yes
    ∙ left ∙ sym (ap (cells_from other) (filter_no test e entries (ap not yes))))
    (λ no. ap (λ b. cond b [] (take words (cell ++ cells_from bags entries))
    ++ cells_without aggregation entries (drop words (cell ++ cells_from bags entries))) no
    ∙ ap (λ xs. xs ++ cells_without aggregation entries (drop words (cell ++ cells_from bags entries)))
    (take_at cell (cells_from bags entries) words (lengths e.aggregation.function (bags e)))
    ∙ ap (λ xs. cell ++ xs) left
    ∙ ap (λ b. cell_of e.aggregation.function b ++ cells_from other (without aggregation entries)) (sym (h e no))
    ∙ sym (ap (cells_from other) (filter_yes test e entries (ap not no))))
    (yes_or_no (same_aggregation aggregation e.aggregation))

module _ (lengths : Lengths) (past : Past) (old : AggStore) (at : IsAt past old) (aggregation : Aggregation) where
  abbrev Before : List Contribution
  Before = counted past.events at.chosen

  abbrev Then : Bags
  Then e = values_of e Before

  abbrev Now : Bags
  Now e = values_of e (others aggregation Before)

  counted_then : counted (past.events ++ truncated aggregation ∷ []) (at.chosen ++ false ∷ [])
      ≡ others aggregation Before
  counted_then = counted-truncated past.events at.chosen aggregation false at.choice.whole

  held_then : distinct (names (others aggregation Before)) ≡ without aggregation (held_after past.events at.chosen)
  held_then = held-others aggregation Before

  pub after_truncated : (new : AggStore) → new.size ≡ old.size → new.added ≡ old.added → new.dropped ≡ old.dropped
      → entries_named new.entries.items ≡ without aggregation (entries_named old.entries.items)
      → new.cells.items ≡ cells_without aggregation (entries_named old.entries.items) old.cells.items
      → IsAt (after past (truncated aggregation)) new
  after_truncated new size added dropped named cells = record {
    size = size ∙ at.size;
    added = added ∙ at.added ∙ sym (contributions-truncated past.events aggregation);
    dropped = dropped ∙ at.dropped ∙ sym (drops-truncated past aggregation);
    numbers = numbers-push past.events (truncated aggregation) at.numbers tt;
    chosen = at.chosen ++ false ∷ [];
    choice = choice_more past at.chosen (truncated aggregation) false at.choice
        ((λ e. absurd (false≢true e)), (λ none. absurd none));
    names = named ∙ ap (without aggregation) at.names ∙ sym held_then
        ∙ sym (ap (λ c. distinct (names c)) counted_then);
    cells = cells ∙ ap (λ xs. cells_without aggregation xs old.cells.items) at.names
        ∙ ap (cells_without aggregation (held_after past.events at.chosen)) at.cells
        ∙ without_cells lengths aggregation Then Now (λ e other. values-others aggregation Before e other)
        (held_after past.events at.chosen)
        ∙ ap (cells_from Now) (sym held_then)
        ∙ sym (ap (λ c. cells_from (λ e. values_of e c) (distinct (names c))) counted_then);
  }
