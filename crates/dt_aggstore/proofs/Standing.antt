-- A store stays at the end of its past.
use Rattle.std.proofs.Common.{◌≡◌, ℕ, ◌+◌, ◌≤◌, ⊎_elim, ℤ, Bool, true, false, cond, ◌||◌, List, [], ◌∷◌, ◌++◌, length}
use Rattle.std.proofs.Common.{take, drop, refl, sym, ap, ◌∙◌, subst, zero-add, arith}
use Rattle.std.specs.Prelude.{map, FitsSigned, slice_range}
use Rattle.std.specs.Int.{w64}
use Rattle.std.specs.List.{AllByRecursion, flat_map, list_any}
use Rattle.std.proofs.lemmas.Bool.{false≢true}
use Rattle.std.proofs.lemmas.List.{append_assoc, take_at, drop_at, length-append}
use Rattle.std.proofs.lemmas.List.Concat.{flat_map-append}
use Rattle.std.proofs.lemmas.List.Sums.{sum_by-append}
use Rattle.std.proofs.lemmas.List.Folds.{list_any-append}
use Rattle.dt_aggfn.specs.declared.function.AggFn.{AggFn}
use Rattle.dt_aggfn.specs.Cells.{cell_words, cell_of, IsBag}
use Rattle.dt_aggstore.specs.Keys.{Entry, same_entry}
use Rattle.dt_aggstore.specs.History.{Event, given, truncated, contribution_count}
use Rattle.dt_aggstore.specs.Held.{Contribution, entry_of, truncates, counted, held_after, values_of, bag}
use Rattle.dt_aggstore.specs.EntryNames.{words_of}
use Rattle.dt_aggstore.specs.IsAt.{GivesWord}
use Rattle.dt_aggstore.specs.declared.limits.TheConstants.{ADDED_LIMIT}
use Rattle.dt_aggstore.specs.declared.key.Aggregation.{Aggregation}
use Rattle.dt_aggstore.specs.declared.key.KeyPart.{KeyPart}
use Rattle.dt_aggstore.proofs.Same.{entry_back}
use Rattle.dt_aggstore.proofs.Filters.{yes_or_no, filter_yes, filter_no}
use Rattle.dt_aggstore.proofs.Distinct.{has, has-distinct, AreApart}
use Rattle.dt_aggstore.proofs.Counting.{contribution, names, values_some}

-- ---- bags are not too long, and of signed numbers

values_fewer : (entry : Entry) (c : Contribution) (contributions : List Contribution)
    → length (values_of entry (c ∷ contributions)) ≤ length (values_of entry contributions) + 1
values_fewer entry c contributions = ⊎_elim
    (λ yes. omega (
      arith,
      ap (λ xs. length (map (λ (c : Contribution). c.value) xs))
          (filter_yes (λ c. same_entry entry c.entry) c contributions yes),
    ))
    (λ no. omega (
      arith,
      ap (λ xs. length (map (λ (c : Contribution). c.value) xs))
          (filter_no (λ c. same_entry entry c.entry) c contributions no),
    ))
    (yes_or_no (same_entry entry c.entry))

pub few_values : (entry : Entry) (events : List Event) (chosen : List Bool)
    → length (values_of entry (counted events chosen)) ≤ contribution_count events
few_values entry [] chosen = omega arith
few_values entry (given a k v ∷ events) [] = omega arith
few_values entry (truncated a ∷ events) [] = omega arith
few_values entry (given a k v ∷ events) (true ∷ chosen) =
    let rest = few_values entry events chosen in
    ⊎_elim
    (λ yes. omega (
      arith,
      rest,
      ap (λ b. length
          (values_of entry (cond b (counted events chosen) (contribution a k v ∷ counted events chosen)))) yes,
    ))
    (λ no. omega (
      arith,
      rest,
      values_fewer entry (contribution a k v) (counted events chosen),
      ap (λ b. length (values_of entry
          (cond b (counted events chosen) (contribution a k v ∷ counted events chosen)))) no,
    ))
    (yes_or_no (list_any (truncates a) events))
few_values entry (given a k v ∷ events) (false ∷ chosen) = omega (arith, few_values entry events chosen)
few_values entry (truncated a ∷ events) (c ∷ chosen) = few_values entry events chosen

abbrev Words : List ℤ → Type 0
Words bag = AllByRecursion (λ z. FitsSigned w64 z) bag

pub word_values : (entry : Entry) (events : List Event) (chosen : List Bool) → AllByRecursion GivesWord events
    → Words (values_of entry (counted events chosen))
word_values entry [] chosen w = tt
word_values entry (given a k v ∷ events) [] w = tt
word_values entry (truncated a ∷ events) [] w = tt
word_values entry (given a k v ∷ events) (true ∷ chosen) w =
    let rest = word_values entry events chosen w.1 in
    let P : List Contribution → Type 0 = λ xs. Words (map (λ (c : Contribution). c.value) xs) in
    let Q : Bool → Type 0 =
    λ b. Words (values_of entry (cond b (counted events chosen) (contribution a k v ∷ counted events chosen))) in
    ⊎_elim
    (λ yes. subst Q (sym yes) rest)
    (λ no. subst Q (sym no) (⊎_elim
    (λ is. subst P (sym (filter_yes (λ c. same_entry entry c.entry) (contribution a k v) (counted events chosen) is))
    (w.0, rest))
    (λ other. subst P (sym (filter_no (λ c. same_entry entry c.entry) (contribution a k v)
    (counted events chosen) other)) rest)
    (yes_or_no (same_entry entry (entry_of a k)))))
    (yes_or_no (list_any (truncates a) events))
word_values entry (given a k v ∷ events) (false ∷ chosen) w = word_values entry events chosen w.1
word_values entry (truncated a ∷ events) (c ∷ chosen) w = word_values entry events chosen w.1

-- an entry that is held has a bag
pub held_bag : (events : List Event) (chosen : List Bool) (aggregation : Aggregation) (key : List KeyPart)
    → AllByRecursion GivesWord events → contribution_count events ≤ ADDED_LIMIT
    → has (entry_of aggregation key) (held_after events chosen) ≡ true → IsBag (bag events chosen aggregation key)
held_bag events chosen aggregation key words few is = record {
  some = values_some (counted events chosen) (entry_of aggregation key)
      (sym (has-distinct (names (counted events chosen)) (entry_of aggregation key)) ∙ is);
  few = omega (arith, few_values (entry_of aggregation key) events chosen);
  words = word_values (entry_of aggregation key) events chosen words;
}

-- ---- events

pub numbers-push : (events : List Event) (event : Event) → AllByRecursion GivesWord events → GivesWord event
    → AllByRecursion GivesWord (events ++ event ∷ [])
numbers-push [] event w g = (g, tt)
numbers-push (e ∷ events) event w g = (w.0, numbers-push events event w.1 g)

pub contributions-given : (events : List Event) (aggregation : Aggregation) (key : List KeyPart) (value : ℤ)
    → contribution_count (events ++ given aggregation key value ∷ []) ≡ contribution_count events + 1
contributions-given [] aggregation key value = omega arith
contributions-given (given a k v ∷ events) aggregation key value =
    omega (arith, contributions-given events aggregation key value)
contributions-given (truncated a ∷ events) aggregation key value = contributions-given events aggregation key value

-- ---- cells

abbrev pub Bags : Type 0
Bags = Entry → List ℤ

abbrev pub cells_from : Bags → List Entry → List ℕ
cells_from bags entries = flat_map (λ e. cell_of e.aggregation.function (bags e)) entries

pub cells_alike : (bags other : Bags) (entry : Entry)
    → ((e : Entry) → same_entry e entry ≡ false → other e ≡ bags e) → (entries : List Entry)
    → has entry entries ≡ false → cells_from other entries ≡ cells_from bags entries
cells_alike bags other entry h [] none = refl
cells_alike bags other entry h (e ∷ entries) none = ⊎_elim
    (λ yes. absurd (false≢true (sym none ∙ ap (λ b. b || has entry entries) yes)))
    (λ no.
    ap (λ b. cell_of e.aggregation.function b ++ cells_from other entries) (h e no)
    ∙ ap (λ xs. cell_of e.aggregation.function (bags e) ++ xs)
    (cells_alike bags other entry h entries (sym (ap (λ b. b || has entry entries) no) ∙ none)))
    (yes_or_no (same_entry e entry))

abbrev pub Lengths : Type 0
Lengths = (f : AggFn) (bag : List ℤ) → length (cell_of f bag) ≡ cell_words f

pub length-cells : (lengths : Lengths) (bags : Bags) (entries : List Entry)
    → length (cells_from bags entries) ≡ words_of entries
length-cells lengths bags [] = refl
length-cells lengths bags (e ∷ entries) =
    length-append (cell_of e.aggregation.function (bags e)) (cells_from bags entries)
    ∙ ap (λ n. n + length (cells_from bags entries)) (lengths e.aggregation.function (bags e))
    ∙ ap (λ n. cell_words e.aggregation.function + n) (length-cells lengths bags entries)
    ∙ ap (λ n. n + words_of entries) (sym (zero-add (cell_words e.aggregation.function)))
    ∙ sym (sum_by-append (λ e. cell_words e.aggregation.function) (e ∷ []) entries)

-- ---- an entry between others

pub apart_before : (entry : Entry) (before later : List Entry) → AreApart (before ++ entry ∷ later)
    → has entry before ≡ false
apart_before entry [] later a = refl
apart_before entry (e ∷ before) later a =
    let here = list_any-append (λ o. same_entry o e) before (entry ∷ later) in
    let none = sym here ∙ a.0 in
    ap (λ b. b || has entry before) (entry_back entry e (by (has e before) (same_entry entry e) (has e later) none))
    ∙ apart_before entry before later a.1
  where
    by : (x y z : Bool) → (x || (y || z)) ≡ false → y ≡ false
    by true y z e = absurd (false≢true (sym e))
    by false true z e = absurd (false≢true (sym e))
    by false false z e = refl

pub apart_later : (entry : Entry) (before later : List Entry) → AreApart (before ++ entry ∷ later) → has entry later
    ≡ false
apart_later entry [] later a = a.0
apart_later entry (e ∷ before) later a = apart_later entry before later a.1

module _ (lengths : Lengths) (bags : Bags) (entry : Entry) (before later : List Entry) where
  abbrev Words-of : ℕ
  Words-of = cell_words entry.aggregation.function

  abbrev Cell : List ℕ
  Cell = cell_of entry.aggregation.function (bags entry)

  abbrev All-cells : List ℕ
  All-cells = cells_from bags (before ++ entry ∷ later)

  shape : All-cells ≡ cells_from bags before ++ (Cell ++ cells_from bags later)
  shape = flat_map-append (λ e. cell_of e.aggregation.function (bags e)) before (entry ∷ later)

  pub cells_before : take (words_of before) All-cells ≡ cells_from bags before
  cells_before =
      ap (take (words_of before)) shape
      ∙ take_at (cells_from bags before) (Cell ++ cells_from bags later) (words_of before)
      (length-cells lengths bags before)

  pub cell_at : slice_range All-cells (words_of before) (words_of before + Words-of) ≡ Cell
  cell_at =
      ap (λ n. take n (drop (words_of before) All-cells)) (omega arith)
      ∙ ap (λ xs. take Words-of (drop (words_of before) xs)) shape
      ∙ ap (take Words-of)
      (drop_at (cells_from bags before) (Cell ++ cells_from bags later) (words_of before)
      (length-cells lengths bags before))
      ∙ take_at Cell (cells_from bags later) Words-of (lengths entry.aggregation.function (bags entry))

  pub cells_later : drop (words_of before + Words-of) All-cells ≡ cells_from bags later
  cells_later =
      ap (drop (words_of before + Words-of)) (shape
      ∙ sym (append_assoc (cells_from bags before) Cell (cells_from bags later)))
      ∙ drop_at (cells_from bags before ++ Cell) (cells_from bags later) (words_of before + Words-of)
      (length-append (cells_from bags before) Cell ∙ ap (λ n. n + length Cell) (length-cells lengths bags before)
      ∙ ap (λ n. words_of before + n) (lengths entry.aggregation.function (bags entry)))
