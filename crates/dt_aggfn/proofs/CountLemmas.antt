-- How many values of a bag each row counts, when a value is added and when two bags are joined.
use Rattle.std.proofs.Common.{◌≡◌, ℕ, ◌+◌, ◌%◌, ◌^◌, ◌<◌, ◌≤◌, Bool, cond, List, [], ◌∷◌, ◌++◌, length, get_or, set}
use Rattle.std.proofs.Common.{replicate, sym, ap, subst, ◌∙◌, ⊎_elim, arith, ℤ}
use Rattle.std.specs.Prelude.{count_by}
use Rattle.std.proofs.lemmas.Bool.{cases_eq, eq-eqb, ne_eqb}
use Rattle.std.proofs.lemmas.List.{get_or-map, length-map, get_or-set_same, get_or-set_other, length-set}
use Rattle.std.proofs.lemmas.List.{get_or-replicate, length-replicate, get_or_append_left, set-append_left}
use Rattle.std.proofs.lemmas.Grind.{same_number_lists}
use Rattle.std.proofs.lemmas.List.Sums.{sum_by_push, sum_by-append, count_by-le-length}
use Rattle.dt_aggfn.specs.Rows.{CountingRow, zero_row, counts_of, IsRowOf}

pub length_counts : (rows : List CountingRow) (bag : List ℤ) → length (counts_of rows bag) ≡ length rows
length_counts rows bag = length-map rows (λ (row : CountingRow). count_by row.counts bag)

-- the count of the row at an index
pub count_at_row : (rows : List CountingRow) (bag : List ℤ) (k : ℕ) (d : CountingRow) → k < length rows
    → get_or (counts_of rows bag) k 0 ≡ count_by (get_or rows k d).counts bag
count_at_row rows bag k d h = get_or-map (λ (row : CountingRow). count_by row.counts bag) rows k d 0 h

pub count_few : (rows : List CountingRow) (bag : List ℤ) (k : ℕ) → k < length rows
    → get_or (counts_of rows bag) k 0 ≤ length bag
count_few rows bag k h =
    omega (arith, count_at_row rows bag k zero_row h, count_by-le-length (get_or rows k zero_row).counts bag)

pub count_joined : (rows : List CountingRow) (a b : List ℤ) (k : ℕ) → k < length rows
    → get_or (counts_of rows (a ++ b)) k 0 ≡ get_or (counts_of rows a) k 0 + get_or (counts_of rows b) k 0
count_joined rows a b k h =
    let test = (get_or rows k zero_row).counts in
    let whole = count_at_row rows (a ++ b) k zero_row h in
    let left = count_at_row rows a k zero_row h in
    let right = count_at_row rows b k zero_row h in
    let join = sum_by-append (λ (z : ℤ). cond (test z) 1 0) a b in
    whole ∙ join ∙ ap (λ n. n + count_by test b) (sym left) ∙ ap (λ n. get_or (counts_of rows a) k 0 + n) (sym right)

-- one value more at the index of its row
count_pushed : (rows : List CountingRow) (bag : List ℤ) (z : ℤ) (k : ℕ) → k < length rows
    → get_or (counts_of rows (bag ++ z ∷ [])) k 0
    ≡ get_or (counts_of rows bag) k 0 + cond {A = ℕ} ((get_or rows k zero_row).counts z) 1 0
count_pushed rows bag z k h =
    let test = (get_or rows k zero_row).counts in
    count_at_row rows (bag ++ z ∷ []) k zero_row h
    ∙ sum_by_push (λ (y : ℤ). cond (test y) 1 0) bag z
    ∙ ap (λ n. n + cond (test z) 1 0) (sym (count_at_row rows bag k zero_row h))

pub counts_more : (rows : List CountingRow) (bag : List ℤ) (z : ℤ) (index : ℕ) → IsRowOf rows z index
    → length bag + 1 < 2 ^ 64
    → set (counts_of rows bag) index ((get_or (counts_of rows bag) index 0 + 1) % 2 ^ 64)
    ≡ counts_of rows (bag ++ z ∷ [])
counts_more rows bag z index of small =
    let here : index < length rows = of.within in
    let long = length_counts rows bag in
    let more = length_counts rows (bag ++ z ∷ []) in
    let new : ℕ = (get_or (counts_of rows bag) index 0 + 1) % 2 ^ 64 in
    let written = length-set (counts_of rows bag) index new in
    same_number_lists (set (counts_of rows bag) index new) (counts_of rows (bag ++ z ∷ [])) (omega arith)
    (λ k h.
    let within : k < length rows = omega arith in
    let pushed = count_pushed rows bag z k within in
    let test = of.only k zero_row within in
    ⊎_elim (λ e.
    let one : cond {A = ℕ} ((get_or rows k zero_row).counts z) 1 0 ≡ 1 =
    ap (λ (b : Bool). cond {A = ℕ} b 1 0) (test ∙ eq-eqb k index e) in
    let few = count_few rows bag k within in
    let i : index < length (counts_of rows bag) = omega arith in
    let Q : ℕ → Type 0 = λ j. get_or (set (counts_of rows bag) index new) j 0 ≡ new in
    let same : get_or (set (counts_of rows bag) index new) k 0 ≡ new =
    subst Q (sym e) (get_or-set_same (counts_of rows bag) index new 0 i) in
    let at_index : get_or (counts_of rows bag) k 0 ≡ get_or (counts_of rows bag) index 0 =
    ap (λ j. get_or (counts_of rows bag) j 0) e in
    omega arith)
    (λ ne.
    let none : cond {A = ℕ} ((get_or rows k zero_row).counts z) 1 0 ≡ 0 =
    ap (λ (b : Bool). cond {A = ℕ} b 1 0) (test ∙ ne_eqb k index ne) in
    let other = get_or-set_other (counts_of rows bag) index k new 0 ne in
    omega arith)
    (cases_eq k index))

-- the same where other words come after the counts
pub more_before : (rows : List CountingRow) (bag : List ℤ) (z : ℤ) (index : ℕ) (rest : List ℕ) → IsRowOf rows z index
    → length bag + 1 < 2 ^ 64
    → set (counts_of rows bag ++ rest) index ((get_or (counts_of rows bag ++ rest) index 0 + 1) % 2 ^ 64)
    ≡ counts_of rows (bag ++ z ∷ []) ++ rest
more_before rows bag z index rest of small =
    let counts = counts_of rows bag in
    let within : index < length rows = of.within in
    let long = length_counts rows bag in
    let here : index < length counts = omega arith in
    ap (λ n. set (counts ++ rest) index ((n + 1) % 2 ^ 64)) (get_or_append_left counts rest 0 index here)
    ∙ set-append_left counts rest index ((get_or counts index 0 + 1) % 2 ^ 64) here
    ∙ ap (λ words. words ++ rest) (counts_more rows bag z index of small)

-- no value
pub counts_none : (rows : List CountingRow) → counts_of rows [] ≡ replicate (length rows) 0
counts_none rows =
    let long = length_counts rows [] in
    let zeros : length (replicate {A = ℕ} (length rows) 0) ≡ length rows = length-replicate (length rows) 0 in
    same_number_lists (counts_of rows []) (replicate (length rows) 0) (omega arith)
    (λ k h.
    let within : k < length rows = omega arith in
    let count : get_or (counts_of rows []) k 0 ≡ 0 = count_at_row rows [] k zero_row within in
    let none : get_or (replicate {A = ℕ} (length rows) 0) k 0 ≡ 0 = get_or-replicate (length rows) k 0 0 within in
    omega arith)
