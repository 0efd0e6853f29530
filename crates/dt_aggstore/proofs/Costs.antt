-- What entries cost against how many they are and how many words their cells have.
use Rattle.std.proofs.Common.{◌≡◌, ℕ, ◌+◌, ◌*◌, ◌≤◌, ⊎_elim, cond, List, [], ◌∷◌, ◌++◌, length, take, drop, refl, sym}
use Rattle.std.proofs.Common.{ap, ◌∙◌, zero-add, arith}
use Rattle.std.specs.Prelude.{not}
use Rattle.std.proofs.lemmas.List.{length-append, length-drop, length-take-le}
use Rattle.std.proofs.lemmas.List.Sums.{sum_by-append}
use Rattle.dt_aggfn.specs.declared.function.AggFn.{AggFn}
use Rattle.dt_aggfn.specs.Cells.{cell_words}
use Rattle.dt_aggstore.specs.Keys.{Entry, same_aggregation, entry_cost, cost_of, without}
use Rattle.dt_aggstore.specs.EntryNames.{words_of, cells_without}
use Rattle.dt_aggstore.specs.declared.limits.TheConstants.{COST_MIN}
use Rattle.dt_aggstore.specs.declared.key.Aggregation.{Aggregation}
use Rattle.dt_aggstore.proofs.Filters.{yes_or_no, filter_yes, filter_no}

cost-cons : (e : Entry) (entries : List Entry) → cost_of (e ∷ entries)
    ≡ entry_cost e.aggregation e.key + cost_of entries
cost-cons e entries =
    sum_by-append (λ e. entry_cost e.aggregation e.key) (e ∷ []) entries
    ∙ ap (λ n. n + cost_of entries) (zero-add (entry_cost e.aggregation e.key))

pub words-cons : (e : Entry) (entries : List Entry) → words_of (e ∷ entries)
    ≡ cell_words e.aggregation.function + words_of entries
words-cons e entries =
    sum_by-append (λ e. cell_words e.aggregation.function) (e ∷ []) entries
    ∙ ap (λ n. n + words_of entries) (zero-add (cell_words e.aggregation.function))

pub cost-push : (entries : List Entry) (e : Entry)
    → cost_of (entries ++ e ∷ []) ≡ cost_of entries + entry_cost e.aggregation e.key
cost-push entries e =
    sum_by-append (λ e. entry_cost e.aggregation e.key) entries (e ∷ [])
    ∙ ap (λ n. cost_of entries + n) (zero-add (entry_cost e.aggregation e.key))

pub words-push : (entries : List Entry) (e : Entry)
    → words_of (entries ++ e ∷ []) ≡ words_of entries + cell_words e.aggregation.function
words-push entries e =
    sum_by-append (λ e. cell_words e.aggregation.function) entries (e ∷ [])
    ∙ ap (λ n. words_of entries + n) (zero-add (cell_words e.aggregation.function))

-- each word costs eight bytes
pub words_cost : (entries : List Entry) → 8 * words_of entries ≤ cost_of entries
words_cost [] = omega arith
words_cost (e ∷ entries) = omega (arith, cost-cons e entries, words-cons e entries, words_cost entries)

-- each entry costs as much as the least
pub entries_cost : ((f : AggFn) → 1 ≤ cell_words f) → (entries : List Entry)
    → COST_MIN * length entries ≤ cost_of entries
entries_cost some [] = omega arith
entries_cost some (e ∷ entries) =
    omega (arith, cost-cons e entries, some e.aggregation.function, entries_cost some entries)

-- some entries don't cost more than all
pub cost_without : (aggregation : Aggregation) (entries : List Entry)
    → cost_of (without aggregation entries) ≤ cost_of entries
cost_without aggregation [] = omega arith
cost_without aggregation (e ∷ entries) =
    let test = λ (e : Entry). not (same_aggregation aggregation e.aggregation) in
    ⊎_elim
    (λ yes. omega (
      arith,
      ap cost_of (filter_yes test e entries yes),
      cost-cons e entries,
      cost-cons e (without aggregation entries),
      cost_without aggregation entries,
    ))
    (λ no. omega (
      arith,
      ap cost_of (filter_no test e entries no),
      cost-cons e entries,
      cost_without aggregation entries,
    ))
    (yes_or_no (test e))

-- the words that are left are those of the entries that are
pub length-cells_without : (aggregation : Aggregation) (entries : List Entry) (cells : List ℕ)
    → length cells ≡ words_of entries
    → length (cells_without aggregation entries cells) ≡ words_of (without aggregation entries)
length-cells_without aggregation [] cells e = refl
length-cells_without aggregation (x ∷ entries) cells e =
    let words = cell_words x.aggregation.function in
    let test = λ (e : Entry). not (same_aggregation aggregation e.aggregation) in
    let rest = length-cells_without aggregation entries (drop words cells)
    (omega (arith, e, words-cons x entries, length-drop words cells)) in
    ⊎_elim
    (λ yes. ap (λ b. length (cond b [] (take words cells) ++ cells_without aggregation entries (drop words cells)))
    yes
    ∙ rest ∙ sym (ap words_of (filter_no test x entries (ap not yes))))
    (λ no. ap (λ b. length (cond b [] (take words cells) ++ cells_without aggregation entries (drop words cells))) no
    ∙ length-append (take words cells) (cells_without aggregation entries (drop words cells))
    ∙ ap (λ n. n + length (cells_without aggregation entries (drop words cells)))
    (length-take-le words cells (omega (arith, e, words-cons x entries)))
    ∙ ap (λ n. words + n) rest ∙ sym (words-cons x (without aggregation entries))
    ∙ sym (ap words_of (filter_yes test x entries (ap not no))))
    (yes_or_no (same_aggregation aggregation x.aggregation))
