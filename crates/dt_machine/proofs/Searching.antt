-- A search for the first row that is not right, from the first row on.
use Rattle.std.proofs.Common.{◌≡◌, ℕ, [], ◌∷◌, ◌++◌, ◌+◌, ◌<◌, ◌≤◌, List, Some, length, take, slice_get, get_or, map}
use Rattle.std.proofs.Common.{option_map, arith, refl, sym, ap, ◌∙◌, subst, inl, inr, ◌⊎◌}
use Rattle.std.proofs.lemmas.Option.{slice_get-map, slice_get_read, slice_get_within, get_or_from_slice_get}
use Rattle.std.proofs.lemmas.List.{length-map, take_more, map-append}
use Rattle.serde_json.specs.Data.{Data}
use Rattle.serde_json.specs.View.{view}
use Rattle.serde_json.specs.declared.value.Value.{Value}
use Rattle.dt_machine.specs.Reading.{AllRight, IsFirstWrong}

-- the rows before a place are right
abbrev pub RightUpTo : {A : Type 0} → (List A → A → Type 0) → List A → ℕ → Type 0
RightUpTo {A} IsRight rows n = (k : ℕ) (row : A) → k < n → slice_get rows k ≡ Some row → IsRight (take k rows) row

pub right_none : {A : Type 0} (IsRight : List A → A → Type 0) (rows : List A) → RightUpTo IsRight rows 0
right_none IsRight rows k row below there = absurd (omega arith)

at_or_below : (k n : ℕ) → k < n + 1 → (k < n) ⊎ (k ≡ n)
at_or_below k n h = grind arith

pub right_more : {A : Type 0} (IsRight : List A → A → Type 0) (rows : List A) (n : ℕ) (row : A)
    → RightUpTo IsRight rows n → slice_get rows n ≡ Some row → IsRight (take n rows) row
    → RightUpTo IsRight rows (n + 1)
right_more {A} IsRight rows n row right there here k other below other_there = elim (at_or_below k n below) [
  | inl less ↦ right k other less other_there
  | inr same ↦
      let moved : slice_get rows n ≡ Some other = ap (slice_get rows) (sym same) ∙ other_there in
      let one : row ≡ other = cc in
      let P : ℕ → Type 0 = λ m. IsRight (take m rows) other in
      let Q : A → Type 0 = λ r. IsRight (take n rows) r in
      subst P (sym same) (subst Q one here)
]

pub right_all : {A : Type 0} (IsRight : List A → A → Type 0) (rows : List A) (n : ℕ) → length rows ≤ n
    → RightUpTo IsRight rows n → AllRight IsRight rows
right_all IsRight rows n all right k row there =
    let inside = slice_get_within rows k row there in
    right k row (omega arith) there

pub first_wrong : {A : Type 0} (IsRight : List A → A → Type 0) (rows : List A) (n : ℕ) (row : A)
    → RightUpTo IsRight rows n → slice_get rows n ≡ Some row → (IsRight (take n rows) row → ⊥)
    → IsFirstWrong IsRight rows n
first_wrong IsRight rows n row right there wrong =
    record { row = row; there = there; wrong = wrong; right_before = right }

-- the row that a value is
pub row_at : {A : Type 0} (f : Data → A) (values : List Value) (i : ℕ) (v : Value) → i < length values
    → v ≡ get_or values i v → slice_get (map f (map view values)) i ≡ Some (f (view v))
row_at f values i v inside is =
    slice_get-map f (map view values) i ∙ ap (option_map f)
    (slice_get-map view values i ∙ ap (option_map view) (slice_get_read values (length values) i v refl inside is))

pub length-rows : {A : Type 0} (f : Data → A) (values : List Value) → length (map f (map view values)) ≡ length values
length-rows f values = length-map (map view values) f ∙ length-map values view

-- one more row
pub take_next : {A : Type 0} (rows : List A) (i : ℕ) (row : A) → slice_get rows i ≡ Some row
    → take (i + 1) rows ≡ take i rows ++ row ∷ []
take_next rows i row there =
    let inside = slice_get_within rows i row there in
    let is : get_or rows i row ≡ row = get_or_from_slice_get rows i row row there in
    take_more rows i row inside ∙ ap (λ r. take i rows ++ r ∷ []) is

pub map_next : {A B : Type 0} (f : A → B) (rows : List A) (i : ℕ) (row : A) (ys : List B)
    → slice_get rows i ≡ Some row → ys ≡ map f (take i rows) → ys ++ f row ∷ [] ≡ map f (take (i + 1) rows)
map_next f rows i row ys there read =
    ap (λ zs. zs ++ f row ∷ []) read ∙ sym (map-append f (take i rows) (row ∷ []))
    ∙ ap (map f) (sym (take_next rows i row there))
