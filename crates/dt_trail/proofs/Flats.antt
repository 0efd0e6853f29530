-- Blocks one behind the other.
use Rattle.std.proofs.Common.{◌≡◌, ℕ, zero, suc, ◌+◌, ◌<◌, ◌≤◌, List, [], ◌∷◌, ◌++◌, length, set, refl, sym, ap, ◌∙◌, subst, arith, append_assoc, append-nil, length-append, length-set, get_or-set_same, get_or-set_other, ◌-◌}
use mathlib.Core.Logic.{dite}
use native.Mathlib.Decide.{ℕ_discrete, dec_le}
use denote.RawPtr.{null_ptr}
use Rattle.std.specs.Prelude.{None}
use Rattle.atomic_blocks.specs.Cells.{Cell, Row, cell, row, cell_in, with_cell}
use Rattle.dt_trail.specs.Items.{TrailItem, code, code_at}
use Rattle.dt_trail.specs.Blocks.{flat, before}
use Rattle.dt_trail.proofs.Begins.{code_behind, code_push}

module _ {S : Type 0} where
  abbrev none : Cell S
  none = cell 0 null_ptr None

  front : (xs ys : List (Cell S)) (i : ℕ) → i < length xs → cell_in (xs ++ ys) i ≡ cell_in xs i
  front [] ys i h = absurd (omega arith)
  front (x ∷ xs) ys zero h = refl
  front (x ∷ xs) ys (suc i) h = front xs ys i (omega arith)

  behind : (xs ys : List (Cell S)) (i : ℕ) → cell_in (xs ++ ys) (length xs + i) ≡ cell_in ys i
  behind [] ys i = ap (cell_in ys) (let e : 0 + i ≡ i = omega arith in e)
  behind (x ∷ xs) ys i = ap (cell_in (x ∷ (xs ++ ys))) (let e : suc (length xs) + i ≡ suc (length xs + i) = omega arith in e) ∙ behind xs ys i

  pub past : (xs : List (Cell S)) (i : ℕ) → length xs ≤ i → cell_in xs i ≡ none
  past [] i h = refl
  past (x ∷ xs) zero h = absurd (omega arith)
  past (x ∷ xs) (suc i) h = past xs i (omega arith)

  set_front : (xs ys : List (Cell S)) (i : ℕ) (c : Cell S) → i < length xs → set (xs ++ ys) i c ≡ set xs i c ++ ys
  set_front [] ys i c h = absurd (omega arith)
  set_front (x ∷ xs) ys zero c h = refl
  set_front (x ∷ xs) ys (suc i) c h = ap (λ (z : List (Cell S)). x ∷ z) (set_front xs ys i c (omega arith))

  set_behind : (xs ys : List (Cell S)) (i : ℕ) (c : Cell S) → set (xs ++ ys) (length xs + i) c ≡ xs ++ set ys i c
  set_behind [] ys i c = ap (λ (k : ℕ). set ys k c) (let e : 0 + i ≡ i = omega arith in e)
  set_behind (x ∷ xs) ys i c = ap (λ (k : ℕ). set (x ∷ (xs ++ ys)) k c) (let e : suc (length xs) + i ≡ suc (length xs + i) = omega arith in e) ∙ ap (λ (z : List (Cell S)). x ∷ z) (set_behind xs ys i c)

  -- a cell of a block, in the row of all cells
  pub flat_at : (bs : List (Row S)) (b i : ℕ) → i < length (row bs b).cells → cell_in (flat bs) (before bs b + i) ≡ cell_in (row bs b).cells i
  flat_at [] b i h = absurd (omega arith)
  flat_at (x ∷ xs) zero i h = ap (cell_in (x.cells ++ flat xs)) (let e : 0 + i ≡ i = omega arith in e) ∙ front x.cells (flat xs) i h
  flat_at (x ∷ xs) (suc b) i h =
      ap (cell_in (x.cells ++ flat xs)) (let e : length x.cells + before xs b + i ≡ length x.cells + (before xs b + i) = omega arith in e) ∙ (behind x.cells (flat xs) (before xs b + i) ∙ flat_at xs b i h)

  pub flat_set : (bs : List (Row S)) (b i : ℕ) (c : Cell S) → i < length (row bs b).cells → flat (with_cell bs b i c) ≡ set (flat bs) (before bs b + i) c
  flat_set [] b i c h = absurd (omega arith)
  flat_set (x ∷ xs) zero i c h = sym (ap (λ (k : ℕ). set (x.cells ++ flat xs) k c) (let e : 0 + i ≡ i = omega arith in e) ∙ set_front x.cells (flat xs) i c h)
  flat_set (x ∷ xs) (suc b) i c h = ap (λ (z : List (Cell S)). x.cells ++ z) (flat_set xs b i c h)
      ∙ sym (ap (λ (k : ℕ). set (x.cells ++ flat xs) k c) (let e : length x.cells + before xs b + i ≡ length x.cells + (before xs b + i) = omega arith in e) ∙ set_behind x.cells (flat xs) (before xs b + i) c)

  pub flat_push : (bs : List (Row S)) (x : Row S) → flat (bs ++ x ∷ []) ≡ flat bs ++ x.cells
  flat_push [] x = append-nil x.cells
  flat_push (y ∷ bs) x = ap (λ (z : List (Cell S)). y.cells ++ z) (flat_push bs x) ∙ sym (append_assoc y.cells (flat bs) x.cells)

  -- a cell of the root or of a block is changed, and each block still begins where it did
  pub before_set : (bs : List (Row S)) (b i : ℕ) (c : Cell S) (j : ℕ) → before (with_cell bs b i c) j ≡ before bs j
  before_set [] b i c j = refl
  before_set (x ∷ xs) zero i c zero = refl
  before_set (x ∷ xs) zero i c (suc j) = ap (λ (k : ℕ). k + before xs j) (length-set x.cells i c)
  before_set (x ∷ xs) (suc b) i c zero = refl
  before_set (x ∷ xs) (suc b) i c (suc j) = ap (λ (k : ℕ). length x.cells + k) (before_set xs b i c j)

  pub before_push : (bs : List (Row S)) (x : Row S) (j : ℕ) → j ≤ length bs → before (bs ++ x ∷ []) j ≡ before bs j
  before_push [] x zero h = refl
  before_push [] x (suc j) h = absurd (omega arith)
  before_push (y ∷ bs) x zero h = refl
  before_push (y ∷ bs) x (suc j) h = ap (λ (k : ℕ). length y.cells + k) (before_push bs x j (omega arith))

  pub before_first : (bs : List (Row S)) → before bs 0 ≡ 0
  before_first [] = refl
  before_first (x ∷ xs) = refl

  pub before_next : (bs : List (Row S)) (j : ℕ) → before bs (suc j) ≡ before bs j + length (row bs j).cells
  before_next [] j = refl
  before_next (x ∷ []) zero = omega arith
  before_next (x ∷ y ∷ xs) zero = omega arith
  before_next (x ∷ xs) (suc j) = let e = before_next xs j in omega arith

  pub before_all : (bs : List (Row S)) (j : ℕ) → length bs ≤ j → before bs j ≡ length (flat bs)
  before_all [] j h = refl
  before_all (x ∷ xs) zero h = absurd (omega arith)
  before_all (x ∷ xs) (suc j) h = ap (λ (k : ℕ). length x.cells + k) (before_all xs j (omega arith)) ∙ sym (length-append x.cells (flat xs))

  pub before_le : (bs : List (Row S)) (j : ℕ) → before bs j + length (row bs j).cells ≤ length (flat bs)
  before_le [] j = omega arith
  before_le (x ∷ xs) zero = omega (arith, length-append x.cells (flat xs))
  before_le (x ∷ xs) (suc j) = let e = before_le xs j in omega (arith, length-append x.cells (flat xs))

  pub flat_long : (bs : List (Row S)) (b i : ℕ) (c : Cell S) → i < length (row bs b).cells → length (flat (with_cell bs b i c)) ≡ length (flat bs)
  flat_long bs b i c h = ap length (flat_set bs b i c h) ∙ length-set (flat bs) (before bs b + i) c

  -- the first empty cell is set to x
  pub words_push : (cs : List (Cell S)) (items : List TrailItem) (x : TrailItem) (c : Cell S) → length items < length cs → c.word ≡ code x → ((k : ℕ) → (cell_in cs k).word ≡ code_at items k)
      → (j : ℕ) → (cell_in (set cs (length items) c) j).word ≡ code_at (items ++ x ∷ []) j
  words_push cs items x c room is shows j = dite (ℕ_discrete j (length items))
      (λ e. subst (λ (k : ℕ). (cell_in (set cs (length items) c) k).word ≡ code_at (items ++ x ∷ []) k) (sym e)
      (ap (λ (y : Cell S). y.word) (get_or-set_same cs (length items) c none room) ∙ (is ∙ sym (code_behind items (x ∷ [])))))
      (λ n. ap (λ (y : Cell S). y.word) (get_or-set_other cs (length items) j c none n) ∙ (shows j ∙ sym (code_push items x j n)))

  -- empty cells are added
  pub words_more : (cs ds : List (Cell S)) (items : List TrailItem) → length items ≤ length cs → ((k : ℕ) → (cell_in ds k).word ≡ 0) → ((k : ℕ) → (cell_in cs k).word ≡ code_at items k)
      → (j : ℕ) → (cell_in (cs ++ ds) j).word ≡ code_at items j
  words_more cs ds items room zeros shows j = dite (dec_le (suc j) (length cs))
      (λ h. ap (λ (y : Cell S). y.word) (front cs ds j (omega arith)) ∙ shows j)
      (λ h. let i : ℕ = j - length cs in let e : length cs + i ≡ j = omega arith in
      ap (λ (k : ℕ). (cell_in (cs ++ ds) k).word) (sym e) ∙ (ap (λ (y : Cell S). y.word) (behind cs ds i) ∙ (zeros i ∙ (ap (λ (y : Cell S). y.word) (sym (past cs j (omega arith))) ∙ shows j))))
