-- What a cell answers.
use Rattle.std.proofs.Common.{◌≡◌, ℕ, ◌+◌, ◌<◌, ◌≤◌, ◌≢◌, ◌^◌, pos, cond, ltb, List, [], ◌∷◌, ◌++◌, length, get_or}
use Rattle.std.proofs.Common.{map, refl, sym, ap, ◌∙◌, arith, ℤ, Option, None}
use Rattle.std.specs.Prelude.{filter, count_by, int_div}
use Rattle.std.specs.List.{range_with_len}
use Rattle.std.proofs.lemmas.Bool.{lt-ltb, le-ltb}
use Rattle.std.proofs.lemmas.List.{append-nil, map_push, length-map, get_or-map, get_or_default}
use Rattle.std.proofs.lemmas.List.FromFn.{filter_of_map_range_with_len_more, fill_by_all}
use Rattle.std.proofs.lemmas.Int.{to_z-of_z, to_z_pos}
use Rattle.std.specs.Int.{w64, cast_signed}
use Rattle.dt_aggfn.specs.declared.function.AggFn.{AggFn}
use Rattle.dt_aggfn.specs.declared.function.AggFn.TheVariants.{Count, Sum, Avg, Min, Max, Quantize, Lquantize}
use Rattle.dt_aggfn.specs.declared.levels.Bounds.{Bounds}
use Rattle.dt_aggfn.specs.declared.answer.CountedRow.{CountedRow}
use Rattle.dt_aggfn.specs.Rows.{CountingRow, zero_row, quantize_rows, lquantize_rows, name_at, counts_of, counted_words}
use Rattle.dt_aggfn.specs.Answers.{number, rows as row_form, answer_of_bag, form_of_counted_row, counted_rows}
use Rattle.dt_aggfn.specs.Cells.{rows_of, cell_of, sum_of, least_of, greatest_of, IsBag}
use Rattle.dt_aggfn.proofs.RowLemmas.{named}
use Rattle.dt_aggfn.proofs.SumLemmas.{sum_fits}
use Rattle.dt_aggfn.proofs.LeastLemmas.{least_fits, greatest_fits}
use Rattle.dt_aggfn.proofs.CountLemmas.{length_counts, count_at_row}

-- the rows before an index whose word is above 0
abbrev pub counted_to : List CountingRow → List ℕ → ℕ → List (Option ℤ × ℕ)
counted_to rows cell n =
    filter (λ counted. ltb 0 counted.1) (map (λ k. (name_at rows k, get_or cell k 0)) (range_with_len 0 n))

-- one row more
counted_next : (rows : List CountingRow) (cell : List ℕ) (n : ℕ)
    → counted_to rows cell (n + 1)
    ≡ counted_to rows cell n ++ cond (ltb 0 (get_or cell n 0)) ((name_at rows n, get_or cell n 0) ∷ []) []
counted_next rows cell n =
    filter_of_map_range_with_len_more (λ (counted : Option ℤ × ℕ). ltb 0 counted.1)
    (λ k. (name_at rows k, get_or cell k 0)) 0 n n (omega arith)

-- a row whose word is above 0 comes to them
pub one_counted : (rows : List CountingRow) (cell : List ℕ) (n : ℕ) (told : List CountedRow) (row : CountedRow)
    → map form_of_counted_row told ≡ counted_to rows cell n → row.least ≡ name_at rows n → row.count ≡ get_or cell n 0
    → 0 < get_or cell n 0 → map form_of_counted_row (told ++ row ∷ []) ≡ counted_to rows cell (n + 1)
one_counted rows cell n told row before name count some =
    let form : form_of_counted_row row ≡ (name_at rows n, get_or cell n 0) =
    ap (λ x. (x, row.count)) name ∙ ap (λ x. (name_at rows n, x)) count in
    map_push form_of_counted_row told row
    ∙ ap (λ x. x ++ form_of_counted_row row ∷ []) before
    ∙ ap (λ x. counted_to rows cell n ++ x ∷ []) form
    ∙ sym (counted_next rows cell n
    ∙ ap (λ b. counted_to rows cell n ++ cond b ((name_at rows n, get_or cell n 0) ∷ []) [])
    (lt-ltb 0 (get_or cell n 0) some))

-- one whose word is 0 doesn't
pub none_counted : (rows : List CountingRow) (cell : List ℕ) (n : ℕ) (told : List CountedRow)
    → map form_of_counted_row told ≡ counted_to rows cell n → get_or cell n 0 ≤ 0
    → map form_of_counted_row told ≡ counted_to rows cell (n + 1)
none_counted rows cell n told before none =
    before ∙ sym (counted_next rows cell n
    ∙ ap (λ b. counted_to rows cell n ++ cond b ((name_at rows n, get_or cell n 0) ∷ []) [])
    (le-ltb 0 (get_or cell n 0) none)
    ∙ append-nil (counted_to rows cell n))

-- ---- what is answered of a bag

-- a row with its count, by the row and by its place
abbrev pair_of : List ℤ → CountingRow → Option ℤ × ℕ
pair_of bag row = (row.name, count_by row.counts bag)

abbrev pair_at : List CountingRow → List ℤ → ℕ → Option ℤ × ℕ
pair_at rows bag k = (name_at rows k, get_or (counts_of rows bag) k 0)

same_pair : (rows : List CountingRow) (bag : List ℤ) (k : ℕ) → k < length rows
    → pair_of bag (get_or rows k zero_row) ≡ pair_at rows bag k
same_pair rows bag k h =
    let name = named rows (get_or rows k zero_row) k h (λ d. get_or_default rows k d zero_row h) in
    let count = count_at_row rows bag k zero_row h in
    rw (name, count) refl

row_pairs : (rows : List CountingRow) (bag : List ℤ)
    → map (pair_at rows bag) (range_with_len 0 (length (counts_of rows bag))) ≡ map (pair_of bag) rows
row_pairs rows bag =
    let nothing : Option ℤ × ℕ = (None, 0) in
    let long : length (map (pair_of bag) rows) ≡ length rows = length-map rows (pair_of bag) in
    let counts = length_counts rows bag in
    sym (fill_by_all (pair_at rows bag) (map (pair_of bag) rows) (length (counts_of rows bag)) nothing (omega arith)
    (λ k h.
    let within : k < length rows = omega arith in
    get_or-map (pair_of bag) rows k zero_row nothing within ∙ same_pair rows bag k within))

pub counted_of_bag : (rows : List CountingRow) (bag : List ℤ)
    → counted_words rows (counts_of rows bag) ≡ counted_rows rows bag
counted_of_bag rows bag = ap (filter (λ (counted : Option ℤ × ℕ). ltb 0 counted.1)) (row_pairs rows bag)

some_length : (bag : List ℤ) → bag ≢ [] → 0 < length bag
some_length [] n = absurd (n refl)
some_length (z ∷ bag) n = omega arith

pub answer_avg : (cell : List ℕ) (bag : List ℤ) (s r : ℤ) → IsBag bag → cell ≡ cell_of Avg bag
    → s ≡ cast_signed w64 (get_or cell 1 0)
    → (0 < get_or cell 0 0 → get_or cell 0 0 < 2 ^ 63 → r ≡ int_div s (pos (get_or cell 0 0)))
    → number r ≡ answer_of_bag Avg bag
unfolding cell_of answer_of_bag
answer_avg cell bag s r is h sum quotient =
    let some = some_length bag is.some in
    let few = is.few in
    let count : get_or cell 0 0 ≡ length bag = rw h refl in
    let whole : s ≡ sum_of bag =
    sum ∙ ap (λ (l : List ℕ). cast_signed w64 (get_or l 1 0)) h ∙ to_z-of_z w64 (sum_of bag) (sum_fits bag) in
    ap number (quotient (omega arith) (omega arith) ∙ ap (λ n. int_div s (pos n)) count
    ∙ ap (λ z. int_div z (pos (length bag))) whole)

pub answer_word : (f : AggFn) (cell : List ℕ) (bag : List ℤ) (r : ℤ) → (f ≡ Avg → ⊥) → (f ≡ Quantize → ⊥)
    → ((bounds : Bounds) → f ≡ Lquantize bounds → ⊥) → IsBag bag → cell ≡ cell_of f bag
    → r ≡ cast_signed w64 (get_or cell 0 0) → number r ≡ answer_of_bag f bag
unfolding cell_of answer_of_bag
answer_word Count cell bag r a b c is h e =
    let few = is.few in
    ap number (e ∙ ap (λ (l : List ℕ). cast_signed w64 (get_or l 0 0)) h ∙ to_z_pos w64 (length bag) (omega arith))
answer_word Sum cell bag r a b c is h e =
    ap number (e ∙ ap (λ (l : List ℕ). cast_signed w64 (get_or l 0 0)) h ∙ to_z-of_z w64 (sum_of bag) (sum_fits bag))
answer_word Avg cell bag r a b c is h e = absurd (a refl)
answer_word Min cell bag r a b c is h e =
    ap number (e ∙ ap (λ (l : List ℕ). cast_signed w64 (get_or l 0 0)) h
    ∙ to_z-of_z w64 (least_of bag) (least_fits bag is))
answer_word Max cell bag r a b c is h e =
    ap number (e ∙ ap (λ (l : List ℕ). cast_signed w64 (get_or l 0 0)) h
    ∙ to_z-of_z w64 (greatest_of bag) (greatest_fits bag is))
answer_word Quantize cell bag r a b c is h e = absurd (b refl)
answer_word (Lquantize bounds) cell bag r a b c is h e = absurd (c bounds refl)

-- the functions that have rows
abbrev pub HasRows : AggFn → Type 0
HasRows Quantize = Unit {0}
HasRows (Lquantize bounds) = Unit {0}
HasRows f = ⊥

told_rows : (all : List CountingRow) (cell : List ℕ) (bag : List ℤ) (told : List (Option ℤ × ℕ)) → cell ≡ counts_of all bag
    → told ≡ counted_words all cell → row_form told ≡ row_form (counted_rows all bag)
told_rows all cell bag told h e = ap row_form (e ∙ ap (counted_words all) h ∙ counted_of_bag all bag)

pub answer_rows : (f : AggFn) (cell : List ℕ) (bag : List ℤ) (told : List (Option ℤ × ℕ)) → HasRows f
    → cell ≡ cell_of f bag → told ≡ counted_words (rows_of f) cell → row_form told ≡ answer_of_bag f bag
unfolding cell_of answer_of_bag
answer_rows Count cell bag told has h e = absurd has
answer_rows Sum cell bag told has h e = absurd has
answer_rows Avg cell bag told has h e = absurd has
answer_rows Min cell bag told has h e = absurd has
answer_rows Max cell bag told has h e = absurd has
answer_rows Quantize cell bag told has h e = told_rows quantize_rows cell bag told h e
answer_rows (Lquantize bounds) cell bag told has h e = told_rows (lquantize_rows bounds) cell bag told h e
