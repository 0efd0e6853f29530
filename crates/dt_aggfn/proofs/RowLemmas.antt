-- Rows by their place, and the counts of rows.
use Rattle.std.proofs.Common.{◌≡◌, ℕ, suc, ◌+◌, ◌-◌, ◌<◌, eqb, List, ◌∷◌, ◌++◌, length, get_or, map, sym, ap, subst}
use Rattle.std.proofs.Common.{◌∙◌, ⊎_elim, arith, ℤ, None}
use Rattle.std.specs.List.{range_with_len}
use Rattle.std.proofs.lemmas.Bool.{cases_lt, cases_eq}
use Rattle.std.proofs.lemmas.List.{get_or_append_left, get_or-append_right, get_or-map, length-append}
use Rattle.std.proofs.lemmas.List.FromFn.{get_or-map-range_with_len, length-map-range_with_len}
use Rattle.dt_aggfn.specs.Rows.{CountingRow, name_at, IsRowOf}

-- the rows of a list made in three parts
pub length_parts : (f g : ℕ → CountingRow) (row : CountingRow) (m n : ℕ)
    → length (map f (range_with_len 0 m) ++ row ∷ map g (range_with_len 0 n)) ≡ m + (1 + n)
length_parts f g row m n =
    length-append (map f (range_with_len 0 m)) (row ∷ map g (range_with_len 0 n))
    ∙ omega (arith, length-map-range_with_len f 0 m, length-map-range_with_len g 0 n)

pub first_part : (f g : ℕ → CountingRow) (row : CountingRow) (m n k : ℕ) (d : CountingRow) → k < m
    → get_or (map f (range_with_len 0 m) ++ row ∷ map g (range_with_len 0 n)) k d ≡ f k
first_part f g row m n k d h =
    let l = length-map-range_with_len f 0 m in
    get_or_append_left (map f (range_with_len 0 m)) (row ∷ map g (range_with_len 0 n)) d k (omega arith)
    ∙ get_or-map-range_with_len f 0 m k k d h (omega arith)

pub middle_part : (f g : ℕ → CountingRow) (row : CountingRow) (m n : ℕ) (d : CountingRow)
    → get_or (map f (range_with_len 0 m) ++ row ∷ map g (range_with_len 0 n)) m d ≡ row
middle_part f g row m n d =
    get_or-append_right (map f (range_with_len 0 m)) (row ∷ map g (range_with_len 0 n)) m m d
    (length-map-range_with_len f 0 m) (omega arith)
    ∙ ap (λ i. get_or (row ∷ map g (range_with_len 0 n)) i d) (let e : m - m ≡ 0 = omega arith in e)

pub last_part : (f g : ℕ → CountingRow) (row : CountingRow) (m n k j : ℕ) (d : CountingRow) → k < n → m + (1 + k) ≡ j
    → get_or (map f (range_with_len 0 m) ++ row ∷ map g (range_with_len 0 n)) j d ≡ g k
last_part f g row m n k j d h e =
    get_or-append_right (map f (range_with_len 0 m)) (row ∷ map g (range_with_len 0 n)) m j d
    (length-map-range_with_len f 0 m) (omega arith)
    ∙ ap (λ i. get_or (row ∷ map g (range_with_len 0 n)) i d) (let s : j - m ≡ suc k = omega arith in s)
    ∙ get_or-map-range_with_len g 0 n k k d h (omega arith)

-- what holds of each row, from what holds of each part
pub each_part : (P : ℕ → CountingRow → Type 0) (f g : ℕ → CountingRow) (row : CountingRow) (m n : ℕ)
    → ((k : ℕ) → k < m → P k (f k)) → P m row → ((k : ℕ) → k < n → P (m + (1 + k)) (g k))
    → (k : ℕ) (d : CountingRow) → k < length (map f (range_with_len 0 m) ++ row ∷ map g (range_with_len 0 n))
    → P k (get_or (map f (range_with_len 0 m) ++ row ∷ map g (range_with_len 0 n)) k d)
each_part P f g row m n first middle last k d l =
    let within = rw (length_parts f g row m n) at l in
    let all : List CountingRow = map f (range_with_len 0 m) ++ row ∷ map g (range_with_len 0 n) in
    ⊎_elim (λ lt. subst (P k) (sym (first_part f g row m n k d lt)) (first k lt))
    (λ ge. ⊎_elim (λ e.
    let Q : ℕ → Type 0 = λ i. P i (get_or all i d) in
    subst Q (sym e) (subst (P m) (sym (middle_part f g row m n d)) middle))
    (λ ne.
    let place : m + (1 + (k - (m + 1))) ≡ k = omega arith in
    let small : k - (m + 1) < n = omega arith in
    let Q : ℕ → Type 0 = λ i. P i (g (k - (m + 1))) in
    subst (P k) (sym (last_part f g row m n (k - (m + 1)) k d small place))
    (subst Q place (last (k - (m + 1)) small)))
    (cases_eq k m))
    (cases_lt k m)

-- which row counts a value, from what each part says
pub parted : (f g : ℕ → CountingRow) (row : CountingRow) (m n : ℕ) (z : ℤ) (index : ℕ)
    → ((k : ℕ) → k < m → (f k).counts z ≡ eqb k index)
    → row.counts z ≡ eqb m index
    → ((k : ℕ) → k < n → (g k).counts z ≡ eqb (m + (1 + k)) index)
    → index < m + (1 + n)
    → IsRowOf (map f (range_with_len 0 m) ++ row ∷ map g (range_with_len 0 n)) z index
parted f g row m n z index first middle last h = record {
  within = rw (length_parts f g row m n) h;
  only = each_part (λ k r. r.counts z ≡ eqb k index) f g row m n first middle last;
}

-- the name of a row, from the row
pub named : (rows : List CountingRow) (row : CountingRow) (k : ℕ) → k < length rows → ((d : CountingRow) → get_or rows k d ≡ row)
    → name_at rows k ≡ row.name
named rows row k h is =
    get_or-map (λ (r : CountingRow). r.name) rows k row None h ∙ ap (λ (r : CountingRow). r.name) (is row)
